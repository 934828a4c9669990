-- `arc_words::drawn_axes`: the answers to its goals. Assumes nothing.
use mathlib.Core.Path.{◌∙◌, ap}
use Prim.Native.Nat.{ℕ}
use Rattle.row_cells.specs.Bits.{with_bit}
use Rattle.arc_words.proofs.Axes.{drawn-bits}
use Rattle.arc_words.proofs.drawn_axes.Goals as goal

pub returns : goal.returns
returns c =
    let v = c.args.v in
    let pre = c.requires in
    c.set_bit-2.ensures ∙ ap (λ (m : ℕ). with_bit m v) c.set_bit.ensures ∙ drawn-bits _ _ _ _ pre.1.0 pre.1.1.0 pre.1.1.1
