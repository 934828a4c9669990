-- DEFINITIONS. What the theorems on a tally say, a sentence a field. Assumes nothing.
use Rattle.std.specs.Prelude.{ℕ, ◌+◌, ◌^◌, ◌≤◌, ◌<◌, ◌≡◌, Bool, true, false, ◌&&◌, ◌||◌, not, List, [], ◌∷◌, ◌++◌, map, ◌⊎◌, length, eqb}
use Rattle.floats.specs.Lists.{keep, any_of, flatten}
use Rattle.row_cells.specs.Bits.{has}
use Rattle.tally_words.specs.Words.{most_jobs, most_warning, most_code, w_blocks, w_rows, w_marked, w_turned, figures, w_try}
use Rattle.tally_words.specs.Words.{b_closed, b_first, b_final, b_failing, tally_ok, empty_tally}
use Rattle.tally_call.specs.Calls.{k_push, told_ok, fails, closes}
use Rattle.tally_call.specs.declared.Call.{Call}
use Rattle.tally_slot.specs.Slots.{tally_full}
use Rattle.tally.specs.Tally.{rates_spec}
use Rattle.tally.specs.declared.Rates.{Rates}
use Rattle.tally_laws.specs.Jobs.{Note, JobCall, answer, took, run, taken, figure_in, calls_of}
use Rattle.tally_laws.specs.Jobs.{sum_of, jobs_of, told, tries_of, open_of, any_try, first_passes, final_passes, closed_jobs, first_passed, final_passed}

-- ---- the sum of f over a list
unfoldable pub total : {A : Type 0} → (A → ℕ) → List A → ℕ
total f [] = 0
total f (x ∷ xs) = f x + total f xs

abbrev pub accepted : Call → Bool
accepted c = eqb c.code 0

-- the try word that a tally has of a job
abbrev pub try_in : List ℕ → ℕ → ℕ
try_in st job = figure_in st job w_try

-- what a tally has of a job whose calls are cs: each figure by what it counts among them, and each bit of the try word by the tries
-- that they are cut into
pub record FiguresAre (st : List ℕ) (job : ℕ) (cs : List Call) : Type 0 where
  pub blocks : figure_in st job w_blocks ≡ length (keep (λ (c : Call). accepted c && eqb c.kind k_push) cs)
  pub rows : figure_in st job w_rows ≡ total (λ (c : Call). c.count) (keep accepted cs)
  pub marked : figure_in st job w_marked ≡ total (λ (c : Call). c.marked) (keep accepted cs)
  pub warned : (w : ℕ) → 0 < w → w ≤ most_warning → figure_in st job (w_marked + w) ≡ length (keep (λ (c : Call). eqb c.warning w) cs)
  pub turned : (n : ℕ) → 0 < n → n ≤ most_code → figure_in st job (w_turned + n) ≡ length (keep (λ (c : Call). eqb c.code n) cs)
  pub closed : has (try_in st job) b_closed ≡ any_try (tries_of cs)
  pub first : has (try_in st job) b_first ≡ first_passes (tries_of cs)
  pub final : has (try_in st job) b_final ≡ final_passes (tries_of cs)
  pub failing : has (try_in st job) b_failing ≡ any_of fails (open_of cs)

-- ---- a try: calls that close nothing, and then one that does
pub record Try (t : List Call) : Type 0 where
  pub before : List Call
  pub close : Call
  pub is : t ≡ before ++ (close ∷ [])
  pub none : any_of closes before ≡ false
  pub ends : closes close ≡ true

-- every element has it
pub data Each {A : Type 0} (P : A → Type 0) : List A → Type 0 where
  nil : Each P []
  cons : {x : A} {xs : List A} → P x → Each P xs → Each P (x ∷ xs)

-- a job's tries, one after another, and then the open one, are its calls; each try ends at its one accepted close, and the
-- open one has none
pub record TriesCut (cs : List Call) : Type 0 where
  pub all : flatten (tries_of cs) ++ open_of cs ≡ cs
  pub each : Each Try (tries_of cs)
  pub rest : any_of closes (open_of cs) ≡ false

-- ---- the told numbers of a note are a call's
abbrev pub well_told : Note → Bool
well_told n = told_ok n.kind n.code n.count n.warning n.rows

-- a note answers 9 exactly where the words are no tally, 4 exactly where they are one and the told numbers are no call, and 0 or 11
-- exactly where they are a tally and a call; one that is not taken leaves every word
pub record TurnedTally (st : List ℕ) (n : Note) : Type 0 where
  pub nine : eqb (answer st n).reply.code 9 ≡ not (tally_ok st)
  pub four : eqb (answer st n).reply.code 4 ≡ (tally_ok st && not (well_told n))
  pub other : (took st n || eqb (answer st n).reply.code tally_full) ≡ (tally_ok st && well_told n)
  pub leaves : took st n ≡ false → (answer st n).state ≡ st

-- ---- why there is no room for one more call t behind the calls ts
-- its job is new, and as many as can be have a slot
pub record Crowded (ts : List JobCall) (t : JobCall) : Type 0 where
  pub new : told t.job ts ≡ false
  pub many : length (jobs_of ts) ≡ most_jobs

-- a figure of its job, over the job's calls and this one, would be 2^64 or more
pub record Past (ts : List JobCall) (t : JobCall) : Type 0 where
  pub figure : ℕ
  pub some : 0 < figure
  pub most : figure ≤ figures
  pub past : 2 ^ 64 ≤ sum_of figure (calls_of t.job (ts ++ (t ∷ [])))

-- a note that is well told is refused by 11 there, and only there: elsewhere it is taken
pub record ElevenWhen (st : List ℕ) (ts : List JobCall) (n : Note) (t : JobCall) : Type 0 where
  pub only : (answer st n).reply.code ≡ tally_full → Crowded ts t ⊎ Past ts t
  pub crowded : Crowded ts t → (answer st n).reply.code ≡ tally_full
  pub past : Past ts t → (answer st n).reply.code ≡ tally_full
  pub taken : (Crowded ts t → ⊥) → (Past ts t → ⊥) → (answer st n).reply.code ≡ 0

-- ---- tallies put together: no job has calls in both
abbrev pub Apart : List JobCall → List JobCall → Type 0
Apart ts us = (j : ℕ) → told j ts ≡ true → told j us ≡ false

-- each is apart from all behind it
pub data Pairwise : List (List JobCall) → Type 0 where
  none : Pairwise []
  next : {ts : List JobCall} {tss : List (List JobCall)} → Each (Apart ts) tss → Pairwise tss → Pairwise (ts ∷ tss)

-- the numbers of the rates over two lists of calls, one after the other
pub record AddUp (ts us : List JobCall) : Type 0 where
  pub closed : closed_jobs (ts ++ us) ≡ closed_jobs ts + closed_jobs us
  pub first : first_passed (ts ++ us) ≡ first_passed ts + first_passed us
  pub final : final_passed (ts ++ us) ≡ final_passed ts + final_passed us

-- number by number
abbrev pub sum_rates : Rates → Rates → Rates
sum_rates a b = record {
  code = 0;
  first_passed = a.first_passed + b.first_passed;
  first_closed = a.first_closed + b.first_closed;
  final_passed = a.final_passed + b.final_passed;
  final_closed = a.final_closed + b.final_closed;
}

-- the calls that a fresh tally took of notes, and its rates after them
abbrev pub took_of : List Note → List JobCall
took_of ns = taken empty_tally ns

abbrev pub rates_after : List Note → Rates
rates_after ns = rates_spec (run empty_tally ns)

-- the tallies of one night: the numbers over all their calls are the sums of what the tallies answer
pub record NightAdds (night : List (List Note)) : Type 0 where
  pub closed : closed_jobs (flatten (map took_of night)) ≡ total (λ (ns : List Note). (rates_after ns).first_closed) night
  pub first : first_passed (flatten (map took_of night)) ≡ total (λ (ns : List Note). (rates_after ns).first_passed) night
  pub final : final_passed (flatten (map took_of night)) ≡ total (λ (ns : List Note). (rates_after ns).final_passed) night
  pub same : total (λ (ns : List Note). (rates_after ns).final_closed) night ≡ total (λ (ns : List Note). (rates_after ns).first_closed) night
