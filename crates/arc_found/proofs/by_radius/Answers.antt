-- `arc_found::by_radius`: the answers to its goals. Assumes nothing.
use Rattle.arc_centre.specs.Centre.{cr_centre, wide_centre}
use Rattle.arc_found.proofs.by_radius.Goals as goal

pub returns-then-chord : goal.returns-then-chord
unfolding cr_centre wide_centre
returns-then-chord c = rw (← c.root-chord.ensures, c.if-chord.true)

pub returns-then-r-half : goal.returns-then-r-half
unfolding cr_centre wide_centre
returns-then-r-half c = rw (← c.root-chord.ensures, c.if-chord.false, ← c.abs-r.ensures, c.if-r-half.true)

pub returns : goal.returns
unfolding cr_centre
returns c =
    let side = c.side in
    let root2 = c.root-h in
    let larger = c.larger in
    let if2 = c.if-r-half in
    let abs = c.abs-r in
    let if1 = c.if-chord in
    let root = c.root-chord in
    rw (← root.ensures, if1.false, ← abs.ensures, if2.false, ← larger.ensures, ← root2.ensures, ← side.ensures) c.wide.ensures
