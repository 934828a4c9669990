-- LAWS. What the three calls come to, arm by arm. Assumes nothing.
use Rattle.std.specs.Prelude.{ℕ, ◌<◌, ◌≤◌, ◌≡◌, refl, true, false, List, length, Some, None}
use Rattle.std.proofs.Common.{sym, ◌∙◌}
use Rattle.std.proofs.Math.Path.{ap}
use Rattle.floats.specs.Truth.{by_bit, cond-t, cond-f}
use Rattle.call_reply.specs.Replies.{plain}
use Rattle.tally_words.specs.Words.{most_jobs, tally_words, jobs_in, b_closed, b_first, b_final, tally_ok, jobs_with}
use Rattle.tally_words.specs.WordLaws.{good}
use Rattle.tally_call.specs.Calls.{told_ok, call_of}
use Rattle.tally_call.specs.Told.{told_call}
use Rattle.tally_call.specs.declared.Call.{Call}
use Rattle.tally_slot.specs.Slots.{counted}
use Rattle.tally.specs.Tally.{note_spec, rates_spec}
use Rattle.tally.specs.declared.Rates.{Rates}

-- ---- a note: the answer by what the told numbers are
module _ (st : List ℕ) (job kind code count warning : ℕ) (rows : List ℕ) (ok : tally_ok st ≡ true) where
  -- where the told numbers are a call, it is that of the definition
  told-true : {c : Call} → Some c ≡ told_call kind code count warning rows
      → (told_ok kind code count warning rows ≡ true) × (c ≡ call_of kind code count warning rows)
  unfolding told_call
  told-true {c} = by_bit (told_ok kind code count warning rows) (λ b. rw b (λ e. (refl, cc))) (λ b. rw b (λ e. cc))

  told-false : None ≡ told_call kind code count warning rows → told_ok kind code count warning rows ≡ false
  unfolding told_call
  told-false = by_bit (told_ok kind code count warning rows) (λ b. rw b (λ e. cc)) (λ b. rw b (λ e. refl))

  pub note_bad : None ≡ told_call kind code count warning rows → note_spec st job kind code count warning rows ≡ record { reply = plain 4; state = st }
  unfolding note_spec
  note_bad e = cond-t _ _ ok ∙ cond-f _ _ (told-false e)

  pub note-told : {c : Call} → Some c ≡ told_call kind code count warning rows → note_spec st job kind code count warning rows ≡ counted st job c
  unfolding note_spec
  note-told e = cond-t _ _ ok ∙ cond-t _ _ (told-true e).0 ∙ ap (counted st job) (sym (told-true e).1)

-- ---- the rates
-- what counting by a bit asks
pub counting : (st : List ℕ) → tally_ok st ≡ true → {b : ℕ} → b < 64 → (length st ≡ tally_words) × ((jobs_in st ≤ most_jobs) × (b < 64))
counting st h l = ((good st h).long, ((good st h).few, l))

pub rates_is : (st : List ℕ) (x y z : ℕ) → tally_ok st ≡ true → x ≡ jobs_with st b_first → y ≡ jobs_with st b_closed → z ≡ jobs_with st b_final
    → ◌≡◌ {A = Rates} (record { code = 0; first_passed = x; first_closed = y; final_passed = z; final_closed = y }) (rates_spec st)
unfolding rates_spec
rates_is st x y z h ex ey ez = rw (ex, ey, ez, h)
