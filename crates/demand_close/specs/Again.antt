-- LAWS. 3.15: what a close leaves holds nothing, is not refused, and closed again gives no rows. Assumes nothing.
use Rattle.std.specs.Prelude.{ℕ, ◌≡◌, true, List, [], eqb}
use Rattle.std.proofs.Common.{eqb-true, eq-eqb}
use Rattle.floats.specs.Truth.{by_bit, cond-t}
use Rattle.saved_state.specs.State.{state_ok, held, saved_check}
use Rattle.push_start.specs.OpenedLaws.{held-forgotten}
use Rattle.call_answer.specs.Close.{close_rows, close_state}
use Rattle.demand_state.specs.Accepted.{Saved}
use Rattle.demand_state.specs.Keeps.{forgotten-saved, nothing-saved}

pub close-saved : (st store : List ℕ) → state_ok st ≡ true → saved_check (close_state st) store ≡ 0
unfolding close_state
close-saved st store ok =
    by_bit (eqb (held st) 0) (λ b. rw b (nothing-saved st store ok (eqb-true (held st) 0 b))) (λ b. rw b (forgotten-saved st store ok))

none_left : (st store : List ℕ) → Saved st store → held (close_state st) ≡ 0
unfolding close_state
none_left st store p = by_bit (eqb (held st) 0) (λ b. rw b (eqb-true _ 0 b)) (λ b. rw b (held-forgotten st p.words))

pub again-rows : (st store : List ℕ) → Saved st store → close_rows (close_state st) store ≡ []
unfolding close_rows
again-rows st store p = cond-t [] _ (eq-eqb _ 0 (none_left st store p))
