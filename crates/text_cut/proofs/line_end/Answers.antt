-- `text_cut::line_end`: the answers to its goals. Assumes nothing.
use Prim.Native.Nat.{◌-◌}
use native.Mathlib.Omega.{arith}
use lib.ListN.{drop, length-drop}
use lib.Seq.{length-take-le}
use Rattle.text_cut.specs.Cut.{between}
use Rattle.text_cut.specs.CutLaws.{cut-found, cut-none}
use Rattle.text_cut.proofs.line_end.Goals as goal

pub returns-in-Some : goal.returns-in-Some
returns-in-Some c = omega (arith, c.far-i.ensures.left, cut-found (between c.args.buf.now c.far-i.result c.args.end) c.in-Some.ensures)

pub returns-in-None : goal.returns-in-None
returns-in-None c =
    let s = c.far-i.result in
    let a = c.args in
    let long = length-take-le (a.end - s) (drop s a.buf.now) (omega (arith, c.far-i.ensures.within, length-drop s a.buf.now)) in
    omega (arith, c.far-i.ensures.left, c.far-i.ensures.within, cut-none (between a.buf.now s a.end) c.in-None.ensures, long)
