-- `arc_numbers::arc_of`: the answers to its goals. Assumes nothing.
use Rattle.arc_numbers.specs.Arc.{arc_of}
use Rattle.arc_numbers.proofs.arc_of.Goals as goal

pub returns : goal.returns
unfolding arc_of
returns c =
    let radius2 = c.radius-2 in
    let radius = c.radius in
    let atan22 = c.atan2-b in
    let atan2 = c.atan2-a in
    rw (
      radius.ensures,
      radius2.ensures,
      c.turned.ensures,
      c.sweep.ensures,
      c.agree.ensures,
      atan2.ensures,
      atan22.ensures,
    )
