-- DEFINITIONS. A job's slot, whether there is room for one more call in it (11), and its words after that call (9.6, 9.24). Assumes nothing.
use Rattle.std.specs.Prelude.{ℕ, zero, suc, ◌+◌, ◌^◌, Bool, ◌&&◌, cond, List, get_or, set, ltb, eqb}
use Rattle.floats.specs.Lists.{upto, spliced, all}
use Rattle.call_reply.specs.Replies.{plain, AfterState}
use Rattle.tally_words.specs.Words.{most_jobs, w_job, w_try, w_jobs, job_words, figures, jobs_in, slot_at}
use Rattle.tally_call.specs.Calls.{figure, try_after}
use Rattle.tally_call.specs.declared.Call.{Call}

-- the refusal of a job too many, or of a figure of 2^64 or more
abbrev pub tally_full : ℕ
tally_full = 11

-- ---- 9.24: the job's slot, or the next one for a job that has none
-- the first k below n that passes; n where none does
unfoldable pub seek : (ℕ → Bool) → ℕ → ℕ
seek f zero = 0
seek f (suc n) = let i = seek f n in cond (ltb i n) i (cond (f n) n (suc n))

unfoldable pub is_job : List ℕ → ℕ → ℕ → Bool
is_job st job i = eqb (get_or st (slot_at i + w_job) 0) job

unfoldable pub slot_of : List ℕ → ℕ → ℕ
slot_of st job = seek (is_job st job) (jobs_in st)

abbrev pub is_known : List ℕ → ℕ → Bool
is_known st job = ltb (slot_of st job) (jobs_in st)

-- word k of the slot that begins at word `start`, 0 where the job has none yet
unfoldable pub old_word : List ℕ → ℕ → Bool → ℕ → ℕ
old_word st start known k = cond known (get_or st (start + k) 0) 0

-- ---- 9.6: room for one more call
unfoldable pub figure_fits : List ℕ → ℕ → Bool → Call → ℕ → Bool
figure_fits st start known c k = ltb (old_word st start known (k + 1) + figure c (k + 1)) (2 ^ 64)

unfoldable pub room_for : List ℕ → ℕ → Call → Bool
room_for st job c =
    ltb (slot_of st job) most_jobs
    && all figures (figure_fits st (slot_at (slot_of st job)) (is_known st job) c)

-- ---- the words after it
unfoldable pub new_word : ℕ → Call → ℕ → ℕ → ℕ
new_word job c k old = cond (eqb k w_job) job (cond (eqb k w_try) (try_after old c) (old + figure c k))

unfoldable pub slot_after : List ℕ → ℕ → Bool → ℕ → Call → ℕ → ℕ
slot_after st start known job c k = new_word job c k (old_word st start known k)

abbrev pub jobs_after : ℕ → ℕ → ℕ
jobs_after i n = cond (ltb i n) n (i + 1)

unfoldable pub noted : List ℕ → ℕ → Call → List ℕ
noted st job c =
    let i = slot_of st job in
    set (spliced st (slot_at i) (upto (slot_after st (slot_at i) (is_known st job) job c) job_words)) w_jobs (jobs_after i (jobs_in st))

unfoldable pub counted : List ℕ → ℕ → Call → AfterState
counted st job c =
    cond (room_for st job c)
    (record { reply = plain 0; state = noted st job c })
    (record { reply = plain tally_full; state = st })
