-- DEFINITIONS. Over lists of calls: the calls of a job, its figures, its tries, and the numbers of the rates (9.11 to 9.18). Assumes nothing.
use Rattle.std.specs.Prelude.{ℕ, ◌+◌, Bool, true, false, not, cond, List, [], ◌∷◌, ◌++◌, length, eqb}
use Rattle.floats.specs.Lists.{keep, member, any_of}
use Rattle.call_reply.specs.Replies.{AfterState}
use Rattle.tally_words.specs.Words.{slot_at}
use Rattle.tally_call.specs.Calls.{call_of, figure, fails, closes}
use Rattle.tally_call.specs.declared.Call.{Call}
use Rattle.tally_slot.specs.Slots.{slot_of, is_known, old_word}
use Rattle.tally.specs.Tally.{note_spec}

-- what a host tells, and what a tally takes of it: a call of a job
pub record Note : Type 0 where
  pub job : ℕ
  pub kind : ℕ
  pub code : ℕ
  pub count : ℕ
  pub warning : ℕ
  pub rows : List ℕ

pub record JobCall : Type 0 where
  pub job : ℕ
  pub call : Call

-- ---- notes made one after another: the tally that they leave, and the calls that it took
abbrev pub answer : List ℕ → Note → AfterState
answer st n = note_spec st n.job n.kind n.code n.count n.warning n.rows

abbrev pub took : List ℕ → Note → Bool
took st n = eqb (answer st n).reply.code 0

abbrev pub told_of : Note → JobCall
told_of n = record { job = n.job; call = call_of n.kind n.code n.count n.warning n.rows }

unfoldable pub run : List ℕ → List Note → List ℕ
run st [] = st
run st (n ∷ ns) = run (answer st n).state ns

unfoldable pub taken : List ℕ → List Note → List JobCall
taken st [] = []
taken st (n ∷ ns) = let rest = taken (answer st n).state ns in cond (took st n) (told_of n ∷ rest) rest

-- figure k of a job, as the tally has it
abbrev pub figure_in : List ℕ → ℕ → ℕ → ℕ
figure_in st job k = old_word st (slot_at (slot_of st job)) (is_known st job) k

-- ---- 9.11: the calls of one job, in their order; a figure over them; the jobs, in the order of their first call
unfoldable pub calls_of : ℕ → List JobCall → List Call
calls_of j [] = []
calls_of j (t ∷ ts) = let rest = calls_of j ts in cond (eqb t.job j) (t.call ∷ rest) rest

unfoldable pub sum_of : ℕ → List Call → ℕ
sum_of k [] = 0
sum_of k (c ∷ cs) = figure c k + sum_of k cs

unfoldable pub with_job : ℕ → List ℕ → List ℕ
with_job j js = cond (member j js) js (js ++ (j ∷ []))

unfoldable pub jobs_from : List ℕ → List JobCall → List ℕ
jobs_from seen [] = seen
jobs_from seen (t ∷ ts) = jobs_from (with_job t.job seen) ts

abbrev pub jobs_of : List JobCall → List ℕ
jobs_of ts = jobs_from [] ts

-- a call of job j is among them
unfoldable pub told : ℕ → List JobCall → Bool
told j ts = any_of (λ (t : JobCall). eqb t.job j) ts

-- ---- 9.14: a job's calls cut behind each accepted close; `since` are those since the last one
unfoldable pub tries_from : List Call → List Call → List (List Call)
tries_from since [] = []
tries_from since (c ∷ cs) =
    let closed = (since ++ (c ∷ [])) ∷ tries_from [] cs in
    let more = tries_from (since ++ (c ∷ [])) cs in
    cond (closes c) closed more

unfoldable pub open_from : List Call → List Call → List Call
open_from since [] = since
open_from since (c ∷ cs) =
    let closed = open_from [] cs in
    let more = open_from (since ++ (c ∷ [])) cs in
    cond (closes c) closed more

abbrev pub tries_of : List Call → List (List Call)
tries_of cs = tries_from [] cs

abbrev pub open_of : List Call → List Call
open_of cs = open_from [] cs

-- 9.15: a try passes where no call of it fails it
unfoldable pub passes : List Call → Bool
passes try = not (any_of fails try)

-- ---- 9.16: some try is closed; the first passed; the final one passed
unfoldable pub any_try : List (List Call) → Bool
any_try [] = false
any_try (x ∷ xs) = true

unfoldable pub first_passes : List (List Call) → Bool
first_passes [] = false
first_passes (x ∷ xs) = passes x

unfoldable pub last_from : Bool → List (List Call) → Bool
last_from b [] = b
last_from b (x ∷ xs) = last_from (passes x) xs

abbrev pub final_passes : List (List Call) → Bool
final_passes xs = last_from false xs

-- ---- 9.17, 9.18: jobs whose calls have a property
unfoldable pub count_jobs : (List Call → Bool) → List JobCall → ℕ
count_jobs q ts = length (keep (λ (j : ℕ). q (calls_of j ts)) (jobs_of ts))

abbrev pub closed_jobs : List JobCall → ℕ
closed_jobs ts = count_jobs (λ (cs : List Call). any_try (tries_of cs)) ts

abbrev pub first_passed : List JobCall → ℕ
first_passed ts = count_jobs (λ (cs : List Call). first_passes (tries_of cs)) ts

abbrev pub final_passed : List JobCall → ℕ
final_passed ts = count_jobs (λ (cs : List Call). final_passes (tries_of cs)) ts
