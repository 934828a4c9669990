-- CONTRACTS. The rows that a push writes before the block's own. Assumes nothing.
use Rattle.std.specs.Prelude.{ℕ, Bool, cond, List, []}
use Rattle.spline_answer.specs.Held.{emission}

abbrev pub before : Bool → List ℕ → List ℕ → List (List ℕ)
before e st store = cond e (emission st store) []
