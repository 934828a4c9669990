-- LAWS. The rows before a block's own have their full width. Assumes nothing.
use Rattle.std.specs.Prelude.{ℕ, ◌*◌, ◌≡◌, Bool, List, length}
use Rattle.floats.specs.Lists.{flatten}
use Rattle.layout.specs.Layout.{row_words}
use Rattle.floats.specs.Truth.{by_bit}
use Rattle.spline_put.specs.EmittedLaws.{emission-words}
use Rattle.call_push.specs.Before.{before}

pub before-words : (e : Bool) (st store : List ℕ) → length (flatten (before e st store)) ≡ length (before e st store) * row_words
unfolding flatten
before-words e st store = by_bit e (λ b. rw b (emission-words st store)) (λ b. rw b)
