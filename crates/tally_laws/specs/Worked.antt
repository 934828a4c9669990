-- LAWS. A worked case, computed from the definitions. Assumes nothing.
use Rattle.std.specs.Prelude.{ℕ, ◌+◌, ◌*◌, ◌/◌, ◌%◌, ◌≡◌, refl, true, false, cond, List, [], ◌∷◌, get_or, eqb}
use Rattle.floats.specs.Lists.{upto, keep, member, any_of, all}
use Rattle.layout.specs.Layout.{row_words, r_mark}
use Rattle.tally_words.specs.Words.{w_blocks, w_rows, w_marked, w_turned, count_if}
use Rattle.tally_call.specs.Calls.{figure, fails, closes, k_push, k_close, too_few_places, marks_in, rows_ok, told_ok, call_of}
use Rattle.tally_laws.specs.Jobs.{JobCall, calls_of, sum_of, with_job, jobs_from, tries_from, passes}
use Rattle.tally_laws.specs.Jobs.{any_try, first_passes, last_from, count_jobs, closed_jobs, first_passed, final_passed}

abbrev call : ℕ → ℕ → ℕ → ℕ → ℕ → ℕ → JobCall
call job kind code count warning marked = record { job = job; call = record { kind = kind; code = code; count = count; warning = warning; marked = marked } }

-- job 1: a start, a push of three rows, two marked, a push refused by 4, a close refused by 7 and made again, a second
-- try that passes; job 2: a warning and no close; job 3: a lone close
abbrev case : List JobCall
case =
    call 1 0 0 0 0 0
    ∷ call 1 k_push 0 3 0 2
    ∷ call 1 k_push 4 0 0 0
    ∷ call 1 k_close 7 5 0 0
    ∷ call 1 k_close 0 5 0 4
    ∷ call 1 0 0 0 0 0
    ∷ call 1 k_push 0 1 0 0
    ∷ call 1 k_close 0 0 0 0
    ∷ call 2 k_push 0 1 4 0
    ∷ call 3 k_close 0 0 0 0
    ∷ []

pub case_rates : (first_passed case ≡ 1) × ((closed_jobs case ≡ 2) × (final_passed case ≡ 2))
unfolding count_jobs keep calls_of jobs_from with_job member tries_from passes any_try first_passes last_from any_of fails closes
case_rates = (refl, (refl, refl))

-- blocks, rows, marked rows; calls refused by 4 and by 7
pub case-figures : (sum_of w_blocks (calls_of 1 case) ≡ 2) ×
    ((sum_of w_rows (calls_of 1 case) ≡ 9) ×
    ((sum_of w_marked (calls_of 1 case) ≡ 6) × ((sum_of (w_turned + 4) (calls_of 1 case) ≡ 1) × (sum_of (w_turned + 7) (calls_of 1 case) ≡ 1))))
unfolding calls_of sum_of figure
case-figures = (refl, (refl, (refl, (refl, refl))))

-- job 2's call with warning 4
pub case-warned : sum_of (w_marked + 4) (calls_of 2 case) ≡ 1
unfolding calls_of sum_of figure
case-warned = refl

-- ---- rows lent with a call, by their marks alone
abbrev lent : List ℕ → ℕ → List ℕ
lent marks n = upto (λ (k : ℕ). cond (eqb (k % row_words) r_mark) (get_or marks (k / row_words) 0) 0) (n * row_words)

-- a push of three rows, of which the first two are marked; a fourth row that is lent is not looked at
pub case-marks : call_of k_push 0 3 0 (lent (1 ∷ 1 ∷ 0 ∷ 9 ∷ []) 4) ≡ record { kind = k_push; code = 0; count = 3; warning = 0; marked = 2 }
unfolding call_of marks_in count_if upto
case-marks = refl

-- a mark of 2 within the count is none, past it nothing; a call that was refused needs no rows, one that was accepted does
pub case-told : (told_ok k_push 0 2 0 (lent (1 ∷ 2 ∷ []) 2) ≡ false)
    × ((told_ok k_push 0 1 0 (lent (1 ∷ 2 ∷ []) 2) ≡ true) × ((told_ok k_close too_few_places 5 0 [] ≡ true) × (told_ok k_close 0 5 0 [] ≡ false)))
unfolding told_ok rows_ok all upto
case-told = (refl, (refl, (refl, refl)))
