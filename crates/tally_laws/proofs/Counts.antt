-- LAWS. A tally's figures and rates, after any list of notes, are counts over the calls that it took. Assumes nothing.
use Rattle.std.specs.Prelude.{ℕ, ◌<◌, ◌≤◌, ◌≡◌, refl, Bool, true, List, [], length, get_or}
use Rattle.std.proofs.Common.{sym, ◌∙◌, arith, ne_of_gt, ne_of_lt, eq-eqb, ne_eqb, le-leb}
use Rattle.std.proofs.Math.Path.{ap}
use Rattle.floats.specs.Truth.{cond-f, and_i, all_intro}
use Rattle.row_cells.specs.Bits.{has}
use Rattle.tally_words.specs.Words.{figures, w_try, tally_words, most_jobs, jobs_in, w_job, b_closed}
use Rattle.tally_words.specs.Words.{b_first, b_final, try_at, count_if, try_ok, tally_ok, empty_tally, jobs_with}
use Rattle.tally_call.specs.declared.Call.{Call}
use Rattle.tally.specs.Tally.{rates_spec}
use Rattle.tally.specs.TallyLaws.{rates_is}
use Rattle.tally_laws.specs.Jobs.{Note, JobCall, run, taken, figure_in, calls_of, sum_of, jobs_of}
use Rattle.tally_laws.specs.Jobs.{tries_of, any_try, first_passes, final_passes, count_jobs, closed_jobs, first_passed, final_passed}
use Rattle.tally_laws.specs.ListLaws.{count_same, count_list}
use Rattle.tally_laws.proofs.JobLaws.{try_of, try-bits, try_ok_lem, slot_word}
use Rattle.tally_laws.proofs.Holds.{Holds, holds-none, holds-run, old-word}

-- a fresh tally after any notes holds the calls that it took
pub holds : (ns : List Note) → Holds (run empty_tally ns) (taken empty_tally ns)
holds ns = holds-run ns empty_tally [] holds-none

pub figure-word : (j k : ℕ) (cs : List Call) → 0 < k → k ≤ figures → slot_word j cs k ≡ sum_of k cs
unfolding slot_word
figure-word j k cs l h = cond-f _ _ (ne_eqb k w_job (ne_of_gt l)) ∙ cond-f _ _ (ne_eqb k w_try (ne_of_lt (omega arith)))

-- a figure is the sum over the job's calls that were taken, as a natural number: nothing wrapped
pub figures-count : (ns : List Note) (job k : ℕ) → 0 < k → k ≤ figures → figure_in (run empty_tally ns) job k ≡ sum_of k (calls_of job (taken empty_tally ns))
figures-count ns job k l h = old-word (holds ns) job k (omega arith) (ne_of_gt l) ∙ figure-word job k (calls_of job (taken empty_tally ns)) l h

pub try-word : (j : ℕ) (cs : List Call) → slot_word j cs w_try ≡ try_of cs
unfolding slot_word
try-word j cs = refl

module _ {st : List ℕ} {ts : List JobCall} (h : Holds st ts) where
  try-at : (i : ℕ) → i < length (jobs_of ts) → try_at st i ≡ try_of (calls_of (get_or (jobs_of ts) i 0) ts)
  try-at i l = h.word i w_try l (omega arith) ∙ try-word (get_or (jobs_of ts) i 0) (calls_of (get_or (jobs_of ts) i 0) ts)

  pub good-tally : tally_ok st ≡ true
  unfolding tally_ok
  good-tally =
      and_i (eq-eqb (length st) tally_words h.long)
      (and_i (le-leb (jobs_in st) most_jobs (omega (arith, h.count, h.few)))
      (all_intro (jobs_in st) (λ (i : ℕ). try_ok (try_at st i))
      (λ i l. ap try_ok (try-at i (omega (arith, h.count))) ∙ try_ok_lem (calls_of (get_or (jobs_of ts) i 0) ts))))

  jobs-with : (b : ℕ) (q : List Call → Bool) → ((cs : List Call) → has (try_of cs) b ≡ q cs) → jobs_with st b ≡ count_jobs q ts
  unfolding jobs_with count_jobs
  jobs-with b q e =
      ap (count_if (λ (i : ℕ). has (try_at st i) b)) h.count
      ∙ count_same (λ (i : ℕ). has (try_at st i) b) (λ (i : ℕ). q (calls_of (get_or (jobs_of ts) i 0) ts)) (length (jobs_of ts))
      (λ i l. ap (λ (w : ℕ). has w b) (try-at i l) ∙ e (calls_of (get_or (jobs_of ts) i 0) ts))
      ∙ count_list (λ (j : ℕ). q (calls_of j ts)) (jobs_of ts)

  rates_hold : rates_spec st
      ≡ record {
        code = 0;
        first_passed = first_passed ts;
        first_closed = closed_jobs ts;
        final_passed = final_passed ts;
        final_closed = closed_jobs
            ts;
      }
  rates_hold =
      sym (rates_is st (first_passed ts) (closed_jobs ts) (final_passed ts) good-tally
      (sym (jobs-with b_first (λ (cs : List Call). first_passes (tries_of cs)) (λ cs. (try-bits cs).b1)))
      (sym (jobs-with b_closed (λ (cs : List Call). any_try (tries_of cs)) (λ cs. (try-bits cs).b0)))
      (sym (jobs-with b_final (λ (cs : List Call). final_passes (tries_of cs)) (λ cs. (try-bits cs).b2))))

-- the rates that a tally answers are the counts over the jobs of the calls that it took
pub rates_count : (ns : List Note)
    → rates_spec (run empty_tally ns)
    ≡ record {
      code = 0;
      first_passed = first_passed (taken empty_tally ns);
      first_closed = closed_jobs (taken empty_tally ns);
      final_passed = final_passed (taken empty_tally ns);
      final_closed = closed_jobs (taken empty_tally ns);
    }
rates_count ns = rates_hold (holds ns)
