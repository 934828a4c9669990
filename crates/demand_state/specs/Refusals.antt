-- LAWS. The numbers that the checks of a call answer: at most 9, and never 7, which is the room's. Assumes nothing.
use Rattle.std.specs.Prelude.{ℕ, ◌≤◌, ◌≡◌, List, eqb}
use Rattle.std.proofs.Common.{arith}
use Rattle.floats.specs.Lists.{all}
use Rattle.row_numbers.specs.RowNumbers.{numbers_ok, turn_ok}
use Rattle.row_check.specs.Check.{shape_ok, row_check}
use Rattle.saved_state.specs.State.{state_ok, store_ok, held, held_row_ok, saved_check}
use Rattle.push_check.specs.Refusal.{is_full, push_check}
use Rattle.demand_calls.specs.Laws.{cond_both}

pub record Refusal (n : ℕ) : Type 0 where
  pub low : n ≤ 9
  pub other : n ≡ 7 → ⊥

number : (n : ℕ) → n ≤ 9 → (n ≡ 7 → ⊥) → Refusal n
number n h d = record { low = h; other = d }

pub saved-number : (st store : List ℕ) → Refusal (saved_check st store)
unfolding saved_check
saved-number st store =
    cond_both Refusal (state_ok st)
    (cond_both Refusal (store_ok st store)
    (cond_both Refusal (all (held st) (held_row_ok st store)) (number 0 (omega arith) (λ e. omega arith)) (number 9 (omega arith) (λ e. omega arith)))
    (number 8 (omega arith) (λ e. omega arith)))
    (number 9 (omega arith) (λ e. omega arith))

row_number : (r : List ℕ) → Refusal (row_check r)
unfolding row_check
row_number r =
    cond_both Refusal (shape_ok r)
    (cond_both Refusal (numbers_ok r)
    (cond_both Refusal (turn_ok r) (number 0 (omega arith) (λ e. omega arith)) (number 5 (omega arith) (λ e. omega arith)))
    (number 3 (omega arith) (λ e. omega arith)))
    (number 4 (omega arith) (λ e. omega arith))

pub push-number : (st store r : List ℕ) → Refusal (push_check st store r)
unfolding push_check
push-number st store r =
    cond_both Refusal (eqb (saved_check st store) 0)
    (cond_both Refusal (eqb (row_check r) 0)
    (cond_both Refusal (is_full st store r) (number 6 (omega arith) (λ e. omega arith)) (number 0 (omega arith) (λ e. omega arith)))
    (row_number r))
    (saved-number st store)
