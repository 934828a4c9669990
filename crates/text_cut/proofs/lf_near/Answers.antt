-- `text_cut::lf_near`: the answers to its goals. Assumes nothing.
use Prim.Native.Nat.{◌+◌, ◌-◌}
use mathlib.Core.Path.{◌≡◌, ◌∙◌}
use mathlib.Core.Bool.{false}
use native.Mathlib.Omega.{arith}
use lib.ListN.{length, take, drop, length-drop}
use lib.Seq.{length-take-le, get_or-take, get_or-drop}
use Rattle.text_cut.specs.CutLaws.{free_more}
use Rattle.text_cut.proofs.lf_near.Goals as goal

pub loop-b-preserved : goal.loop-b-preserved
loop-b-preserved c = λ (e : c.seen_with-seen.result ≡ false).
    let a = c.args in
    let k = c.loop-b.b-index in
    let n = a.at + 16 - a.at in
    let behind = drop a.at a.buf.now in
    let long : length (take n behind) ≡ n = length-take-le n behind (omega (arith, length-drop a.at a.buf.now)) in
    let b = c.seen_with-seen.ensures e in
    free_more (c.loop-b.invariant b.0) (λ z. b.1 (get_or-take n behind k 0 (omega (arith, long)) ∙ get_or-drop a.at a.buf.now k 0 ∙ z))
