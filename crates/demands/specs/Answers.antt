-- LAWS. 8.5, 8.6: when a push or a close is done or refused, and the needed count. Assumes nothing.
use Rattle.std.specs.Prelude.{ℕ, ◌≤◌, ◌<◌, ◌≡◌, refl, true, List, length, leb, eqb}
use Rattle.std.proofs.Common.{◌∙◌, eq-eqb, ne_eqb, le-leb}
use Rattle.std.proofs.Math.Path.{ap}
use Rattle.std.proofs.lemmas.Bool.{false≢true, lt-leb}
use Rattle.floats.specs.Truth.{by_bit, cond-t, cond-f}
use Rattle.floats.specs.Lists.{flatten, spliced}
use Rattle.layout.specs.Layout.{last_code}
use Rattle.row_numbers.specs.RowNumbers.{within}
use Rattle.saved_state.specs.State.{state_ok, held, saved_check}
use Rattle.call_reply.specs.Replies.{plain, After, too_few, untouched}
use Rattle.call_seed.specs.Seed.{seeded, seed_spec}
use Rattle.push_check.specs.Refusal.{push_check}
use Rattle.call_answer.specs.Push.{push_rows, push_done, push_spec}
use Rattle.call_answer.specs.Close.{close_rows, close_state, close_spec}
use Rattle.demand_calls.specs.Judged.{Judged, accepted, counted, needs}
use Rattle.demand_calls.specs.Places.{places}
use Rattle.demand_state.specs.Refusals.{saved-number, push-number}

-- a close that is done
unfoldable pub close_done : List ℕ → List ℕ → List ℕ → List (List ℕ) → After
close_done st store rows out =
    record {
      reply = record { code = 0; count = length out; warning = 0; wanted = 0; held = 0 };
      state = close_state st;
      store = store;
      rows = spliced rows 0 (flatten out);
    }

module _ (st store r : List ℕ) where
  -- 8.5: a push with no refusal due and with room is done; with too few places it answers 7; else it is refused by the number of the check
  pub push-done : (rows : List ℕ) → push_check st store r ≡ 0 → length (push_rows st store r) ≤ places rows
      → push_spec st store rows r ≡ push_done st store rows r (push_rows st store r)
  unfolding push_spec
  push-done rows e f = cond-t _ _ (eq-eqb _ 0 e) ∙ cond-t _ _ (le-leb _ _ f)

  pub push-few : (rows : List ℕ) → push_check st store r ≡ 0 → places rows < length (push_rows st store r)
      → push_spec st store rows r ≡ untouched (too_few (length (push_rows st store r))) st store rows
  unfolding push_spec
  push-few rows e f = cond-t _ _ (eq-eqb _ 0 e) ∙ cond-f _ _ (lt-leb _ _ f)

  pub push-turned : (rows : List ℕ) → (push_check st store r ≡ 0 → ⊥) → push_spec st store rows r ≡ untouched (plain (push_check st store r)) st store rows
  unfolding push_spec
  push-turned rows d = cond-f _ _ (ne_eqb _ 0 d)

  push-judged
      : Judged (λ (rows : List ℕ). push_spec st store rows r) (λ (rows : List ℕ). push_done st store rows r (push_rows st store r)) (push_check st store r)
      (length (push_rows st store r))
  unfolding push_done untouched
  push-judged = record {
    goes = push-done;
    few = λ rows e f. ap (λ (a : After). a.reply) (push-few rows e f);
    turned = λ rows d. ap (λ (a : After). a.reply) (push-turned rows d);
    code = λ rows. refl;
    count = λ rows. refl;
    seven = (push-number st store r).other;
  }

  pub push-accepted : (rows : List ℕ) → (push_spec st store rows r).reply.code ≡ 0
      → (push_check st store r ≡ 0) × (length (push_rows st store r) ≤ places rows)
  push-accepted = accepted push-judged

  pub push-count : (rows : List ℕ) → (push_spec st store rows r).reply.code ≡ 7
      → (push_check st store r ≡ 0) × ((push_spec st store rows r).reply.count ≡ length (push_rows st store r))
  push-count = counted push-judged

  -- 8.6: the count of 7 is what the same call writes given room
  pub push-needs : (rows : List ℕ) → (push_spec st store rows r).reply.code ≡ 7 → (lent : List ℕ) → (push_spec st store rows r).reply.count ≤ places lent
      → ((push_spec st store lent r).reply.code ≡ 0) × ((push_spec st store lent r).reply.count ≡ (push_spec st store rows r).reply.count)
  push-needs = needs push-judged

module _ (st store : List ℕ) where
  pub close-done : (rows : List ℕ) → saved_check st store ≡ 0 → length (close_rows st store) ≤ places rows
      → close_spec st store rows ≡ close_done st store rows (close_rows st store)
  unfolding close_spec close_done
  close-done rows e f = cond-t _ _ (eq-eqb _ 0 e) ∙ cond-t _ _ (le-leb _ _ f)

  close-judged
      : Judged (close_spec st store) (λ (rows : List ℕ). close_done st store rows (close_rows st store)) (saved_check st store) (length (close_rows st store))
  unfolding close_spec close_done untouched
  close-judged = record {
    goes = close-done;
    few = λ rows e f. ap (λ (a : After). a.reply) (cond-t _ _ (eq-eqb _ 0 e) ∙ cond-f _ _ (lt-leb _ _ f));
    turned = λ rows d. ap (λ (a : After). a.reply) (cond-f _ _ (ne_eqb _ 0 d));
    code = λ rows. refl;
    count = λ rows. refl;
    seven = (saved-number st store).other;
  }

  pub close-accepted : (rows : List ℕ) → (close_spec st store rows).reply.code ≡ 0 → (saved_check st store ≡ 0) × (length (close_rows st store) ≤ places rows)
  close-accepted = accepted close-judged

  pub close-needs : (rows : List ℕ) → (close_spec st store rows).reply.code ≡ 7 → (lent : List ℕ) → (close_spec st store rows).reply.count ≤ places lent
      → ((close_spec st store lent).reply.code ≡ 0) × ((close_spec st store lent).reply.count ≡ (close_spec st store rows).reply.count)
  close-needs = needs close-judged

-- ---- a seed
-- what an accepted seed leaves
pub seed-left : (st : List ℕ) (c x : ℕ) → eqb (seed_spec st c x).reply.code 0 ≡ true
    → (state_ok st ≡ true) × (seed_spec st c x ≡ record { reply = plain 0; state = seeded st c x }) × (within x ≡ true)
unfolding seed_spec
seed-left st c x =
    by_bit (state_ok st)
    (λ a. by_bit (leb c last_code)
    (λ b. by_bit (within x)
    (λ d. rw (a, b, d) (λ y. (refl, refl, refl)))
    (λ d. rw (a, b, d) (λ y. absurd (false≢true y))))
    (λ b. rw (a, b) (λ y. absurd (false≢true y))))
    (λ a. rw a (λ y. absurd (false≢true y)))
