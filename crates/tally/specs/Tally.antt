-- DEFINITIONS. What starting a tally, telling it a call and asking it for its rates answer and leave (rules 9.5, 9.17, 9.25). Assumes nothing.
use Rattle.std.specs.Prelude.{ℕ, cond, List, length, eqb}
use Rattle.call_reply.specs.Replies.{plain, AfterState}
use Rattle.tally_words.specs.Words.{b_closed, b_first, b_final, tally_words, tally_ok, empty_tally, jobs_with}
use Rattle.tally_call.specs.Calls.{told_ok, call_of}
use Rattle.tally_slot.specs.Slots.{counted}
use Rattle.tally.specs.declared.Rates.{Rates}

-- 9.25: every word 0, or refusal 9 on another length
unfoldable pub start_spec : List ℕ → AfterState
start_spec st =
    cond (eqb (length st) tally_words)
    (record { reply = plain 0; state = empty_tally })
    (record { reply = plain 9; state = st })

-- 9.5: the refusals 9, 4, 11 in this order, each of which leaves every word
unfoldable pub note_spec : List ℕ → ℕ → ℕ → ℕ → ℕ → ℕ → List ℕ → AfterState
note_spec st job kind code count warning rows =
    cond (tally_ok st)
    (cond (told_ok kind code count warning rows)
    (counted st job (call_of kind code count warning rows))
    (record { reply = plain 4; state = st }))
    (record { reply = plain 9; state = st })

-- 9.17, 9.18: jobs whose first try passed, whose final try passed, each of the jobs with a closed try; 9.26: or refusal 9 and zeros
unfoldable pub rates_spec : List ℕ → Rates
rates_spec st =
    cond (tally_ok st)
    (record {
      code = 0;
      first_passed = jobs_with st b_first;
      first_closed = jobs_with st b_closed;
      final_passed = jobs_with st b_final;
      final_closed = jobs_with st b_closed;
    })
    (record { code = 9; first_passed = 0; first_closed = 0; final_passed = 0; final_closed = 0 })
