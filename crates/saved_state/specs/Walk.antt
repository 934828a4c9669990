-- LAWS. The parts of a state and of a store that a check reads. Assumes nothing.
use Rattle.std.specs.Prelude.{ℕ, ◌+◌, ◌-◌, ◌*◌, ◌≡◌, List, take, drop}
use Rattle.std.proofs.Common.{ap, arith}
use Rattle.layout.specs.Layout.{w_axes, row_words}
use Rattle.saved_state.specs.State.{axis_count, held_row}

pub part-codes : (st : List ℕ) → take (w_axes + axis_count st - w_axes) (drop w_axes st) ≡ take (axis_count st) (drop w_axes st)
part-codes st = let e : w_axes + axis_count st - w_axes ≡ axis_count st = omega arith in ap (λ (n : ℕ). take n (drop w_axes st)) e

pub part-row : (store : List ℕ) (i : ℕ) → take (i * row_words + row_words - i * row_words) (drop (i * row_words) store) ≡ held_row store i
part-row store i = let e : i * row_words + row_words - i * row_words ≡ row_words = omega arith in ap (λ (n : ℕ). take n (drop (i * row_words) store)) e
