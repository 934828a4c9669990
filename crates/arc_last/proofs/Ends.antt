-- LAWS. A part of a row, word by word. Assumes nothing.
use Prim.Native.Nat.{ℕ, ◌<◌}
use mathlib.Core.Path.{◌≡◌, sym, ◌∙◌}
use mathlib.Core.List.{List}
use native.Mathlib.Omega.{arith}
use lib.ListN.{length, take, drop, length-drop}
use lib.Seq.{length-take-le, get_or-take, get_or-drop, ext_get_or}
use Rattle.floats.specs.Lists.{upto}
use Rattle.floats.specs.Fill.{length-upto, at-upto}
use Rattle.layout.specs.Layout.{axis_codes, row_words, r_cells}
use Rattle.arc_words.specs.Words.{end_word}

pub ends-are : (r : List ℕ) → length r ≡ row_words → take axis_codes (drop r_cells r) ≡ upto (end_word r) axis_codes
unfolding end_word
ends-are r h =
    let behind = drop r_cells r in
    let long : length (take axis_codes behind) ≡ axis_codes = length-take-le axis_codes behind (omega (arith, length-drop r_cells r)) in
    ext_get_or 0 (take axis_codes behind) (upto (end_word r) axis_codes) (long ∙ sym (length-upto (end_word r) axis_codes)) (λ k l.
    let b : k < axis_codes = omega (arith, long) in
    get_or-take axis_codes behind k 0 b ∙ get_or-drop r_cells r k 0 ∙ sym (at-upto (end_word r) axis_codes k 0 b))
