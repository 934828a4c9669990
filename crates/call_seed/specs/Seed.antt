-- DEFINITIONS. What a seed answers and leaves: 9 for the state's fields, 2, 3. Assumes nothing.
use Rattle.std.specs.Prelude.{ℕ, cond, List, leb}
use Rattle.layout.specs.Layout.{last_code}
use Rattle.floats.specs.Lists.{member}
use Rattle.row_numbers.specs.RowNumbers.{within}
use Rattle.saved_state.specs.State.{state_ok, geometric, placed}
use Rattle.call_reply.specs.Replies.{plain, AfterState}

-- a seed of a code that is no geometric axis changes nothing
unfoldable pub seeded : List ℕ → ℕ → ℕ → List ℕ
seeded st code x = cond (member code (geometric st)) (placed st code x) st

unfoldable pub seed_spec : List ℕ → ℕ → ℕ → AfterState
seed_spec st code x =
    cond (state_ok st)
    (cond (leb code last_code)
    (cond (within x) (record { reply = plain 0; state = seeded st code x }) (record { reply = plain 3; state = st }))
    (record { reply = plain 2; state = st }))
    (record { reply = plain 9; state = st })
