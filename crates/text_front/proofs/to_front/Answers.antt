-- `text_front::to_front`: the answers to its goals. Assumes nothing.
use Prim.Native.Nat.{◌-◌}
use mathlib.Core.Path.{refl}
use native.Mathlib.Omega.{arith}
use Rattle.text_cut.specs.CutLaws.{front-done}
use Rattle.text_front.proofs.to_front.Goals as goal

pub returns : goal.returns
returns c =
    let a = c.args in
    let done = front-done a.buf.now _ a.at (a.end - a.at) (omega arith) c.copy_within.ensures.after in
    record { count = refl; moved = done.0; same = done.1 }
