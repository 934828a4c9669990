-- LAWS. Rule 2.25: every call turns down a saved state of another length by 9, those of ten axes among them. Assumes nothing.
use Rattle.std.specs.Prelude.{ℕ, ◌≡◌, false, List, length, eqb}
use Rattle.std.proofs.Common.{arith, ne_eqb}
use Rattle.layout.specs.Layout.{state_words}
use Rattle.saved_state.specs.State.{state_ok, saved_check}
use Rattle.push_check.specs.Refusal.{push_check}
use Rattle.call_start.specs.Start.{start_spec}
use Rattle.call_seed.specs.Seed.{seed_spec}
use Rattle.call_answer.specs.Push.{push_spec}
use Rattle.call_answer.specs.Close.{close_spec}
use Rattle.old_states.specs.Lengths.{old_state_words, TurnedDown}

module _ (st : List ℕ) (other : eqb (length st) state_words ≡ false) where
  no-state : state_ok st ≡ false
  unfolding state_ok
  no-state = rw other

  nine : (store : List ℕ) → saved_check st store ≡ 9
  unfolding saved_check
  nine store = rw no-state

  push-nine : (store r : List ℕ) → push_check st store r ≡ 9
  unfolding push_check
  push-nine store r = rw (nine store)

  pub other_length : TurnedDown st
  unfolding start_spec seed_spec push_spec close_spec
  other_length = record {
    start = λ tol axes. rw other;
    seed = λ code x. rw no-state;
    push = λ store rows r. rw (push-nine store r);
    close = λ store rows. rw (nine store);
  }

pub old_states : (st : List ℕ) → length st ≡ old_state_words → TurnedDown st
old_states st e = other_length st (ne_eqb (length st) state_words (λ z. omega (arith, e)))
