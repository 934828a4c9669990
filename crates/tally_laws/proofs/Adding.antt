-- LAWS. Tallies whose jobs are apart add up. Assumes nothing.
use Prim.Native.Nat.{ℕ, ◌+◌}
use Rattle.std.specs.Prelude.{◌≡◌, refl, true, false, ◌||◌, eqb}
use Rattle.std.proofs.Common.{sym, ◌∙◌, eq-eqb}
use Rattle.std.proofs.Math.Path.{ap, ap₂}
use Rattle.std.proofs.Math.Bool.{Bool}
use Rattle.std.proofs.lemmas.Bool.{false≢true}
use mathlib.Core.List.{List, [], ◌∷◌, ◌++◌, map, append_assoc, append-nil}
use Rattle.std.proofs.Math.ListN.{length, length-append}
use Rattle.floats.specs.Lists.{keep, member, any_of, flatten}
use Rattle.floats.specs.Truth.{by_bit, cond-t, cond-f, or_t, or_f}
use Rattle.floats.specs.Joins.{keep_append}
use Rattle.row_cells.specs.Masks.{member_append}
use Rattle.tally_words.specs.Words.{empty_tally}
use Rattle.tally_call.specs.declared.Call.{Call}
use Rattle.tally.specs.declared.Rates.{Rates}
use Rattle.tally.specs.Tally.{rates_spec}
use Rattle.tally_laws.specs.Jobs.{Note, JobCall, run, taken, calls_of, with_job, jobs_from, jobs_of, told, count_jobs, closed_jobs, first_passed, final_passed}
use Rattle.tally_laws.specs.Statements.{total, Each, nil, cons, Apart, Pairwise, none, next, AddUp, sum_rates, took_of, NightAdds}
use Rattle.tally_laws.specs.ListLaws.{any_append, keep_same}
use Rattle.tally_laws.proofs.JobLaws.{calls_append, calls_none, jobs_told, jobs_append}
use Rattle.tally_laws.proofs.Counts.{rates_count}

with-behind : (x : ℕ) (xs seen : List ℕ) → member x xs ≡ false → with_job x (xs ++ seen) ≡ xs ++ with_job x seen
unfolding with_job
with-behind x xs seen m =
    let e : member x (xs ++ seen) ≡ member x seen = member_append x xs seen ∙ or_f (member x seen) m in
    by_bit (member x seen)
    (λ b. cond-t _ _ (e ∙ b) ∙ ap (λ (z : List ℕ). xs ++ z) (sym (cond-t _ _ b)))
    (λ b. cond-f _ _ (e ∙ b) ∙ append_assoc xs seen (x ∷ []) ∙ ap (λ (z : List ℕ). xs ++ z) (sym (cond-f _ _ b)))

jobs_behind : (xs seen : List ℕ) (us : List JobCall) → ((j : ℕ) → told j us ≡ true → member j xs ≡ false) → jobs_from (xs ++ seen) us ≡ xs ++ jobs_from seen us
unfolding jobs_from told any_of
jobs_behind xs seen [] d = refl
jobs_behind xs seen (u ∷ us) d =
    ap (λ (z : List ℕ). jobs_from z us) (with-behind u.job xs seen (d u.job (or_t _ (eq-eqb u.job u.job refl))))
    ∙ jobs_behind xs (with_job u.job seen) us (λ j m. d j (by_bit (eqb u.job j) (λ b. or_t _ b) (λ b. or_f _ b ∙ m)))

module _ (ts us : List JobCall) (d : Apart ts us) where
  listed-told : (j : ℕ) (vs : List JobCall) → member j (jobs_of vs) ≡ told j vs
  unfolding member
  listed-told j vs = jobs_told j [] vs

  apart : (j : ℕ) → told j us ≡ true → told j ts ≡ false
  apart j m = by_bit (told j ts) (λ b. absurd (false≢true (sym (d j b) ∙ m))) (λ b. b)

  jobs_both : jobs_of (ts ++ us) ≡ jobs_of ts ++ jobs_of us
  jobs_both =
      jobs_append [] ts us
      ∙ ap (λ (z : List ℕ). jobs_from z us) (sym (append-nil (jobs_of ts)))
      ∙ jobs_behind (jobs_of ts) [] us (λ j m. listed-told j ts ∙ apart j m)

  calls_left : (j : ℕ) → member j (jobs_of ts) ≡ true → calls_of j (ts ++ us) ≡ calls_of j ts
  calls_left j m =
      calls_append j ts us
      ∙ ap (λ (z : List Call). calls_of j ts ++ z) (calls_none us j (d j (sym (listed-told j ts) ∙ m)))
      ∙ append-nil (calls_of j ts)

  calls_right : (j : ℕ) → member j (jobs_of us) ≡ true → calls_of j (ts ++ us) ≡ calls_of j us
  calls_right j m = calls_append j ts us ∙ ap (λ (z : List Call). z ++ calls_of j us) (calls_none ts j (apart j (sym (listed-told j us) ∙ m)))

  pub counts_add : (q : List Call → Bool) → count_jobs q (ts ++ us) ≡ count_jobs q ts + count_jobs q us
  unfolding count_jobs
  counts_add q =
      let p : ℕ → Bool = λ (j : ℕ). q (calls_of j (ts ++ us)) in
      ap (λ (z : List ℕ). length (keep p z)) jobs_both
      ∙ ap length (keep_append p (jobs_of ts) (jobs_of us))
      ∙ length-append (keep p (jobs_of ts)) (keep p (jobs_of us))
      ∙ ap₂ (λ (x y : List ℕ). length x + length y)
      (keep_same p (λ (j : ℕ). q (calls_of j ts)) (jobs_of ts) (λ j m. ap q (calls_left j m)))
      (keep_same p (λ (j : ℕ). q (calls_of j us)) (jobs_of us) (λ j m. ap q (calls_right j m)))

-- the three numbers of the rates
pub disjoint_add : (ts us : List JobCall) → Apart ts us → AddUp ts us
disjoint_add ts us d = record { closed = counts_add ts us d _; first = counts_add ts us d _; final = counts_add ts us d _ }

abbrev pub rates_of : List JobCall → Rates
rates_of ts =
    record {
      code = 0;
      first_passed = first_passed ts;
      first_closed = closed_jobs ts;
      final_passed = final_passed ts;
      final_closed = closed_jobs
          ts;
    }

rates_sum : (ts us : List JobCall) → AddUp ts us → rates_of (ts ++ us) ≡ sum_rates (rates_of ts) (rates_of us)
rates_sum ts us a = rw (a.closed, a.first, a.final)

-- the same of what tallies answer: where a tally took what two others took, one after the other, and no job is in both, its
-- numbers are the sums of theirs
pub rates_add : (xs ys zs : List Note)
    → taken empty_tally zs ≡ taken empty_tally xs ++ taken empty_tally ys
    → Apart (taken empty_tally xs) (taken empty_tally ys)
    → rates_spec (run empty_tally zs) ≡ sum_rates (rates_spec (run empty_tally xs)) (rates_spec (run empty_tally ys))
rates_add xs ys zs e d =
    let a : AddUp (taken empty_tally xs) (taken empty_tally ys) = disjoint_add (taken empty_tally xs) (taken empty_tally ys) d in
    rates_count zs
    ∙ ap rates_of e
    ∙ rates_sum (taken empty_tally xs) (taken empty_tally ys) a
    ∙ ap₂ sum_rates (sym (rates_count xs)) (sym (rates_count ys))

-- ---- the tallies of a night
told_append : (j : ℕ) (ts us : List JobCall) → told j (ts ++ us) ≡ (told j ts || told j us)
unfolding told
told_append j ts us = any_append (λ (t : JobCall). eqb t.job j) ts us

apart-flat : (ts : List JobCall) (tss : List (List JobCall)) → Each (Apart ts) tss → Apart ts (flatten tss)
unfolding flatten told any_of
apart-flat ts [] nil = λ j m. refl
apart-flat ts (us ∷ tss) (cons a e) = λ j m. told_append j us (flatten tss) ∙ or_f _ (a j m) ∙ apart-flat ts tss e j m

no_jobs : (q : List Call → Bool) → count_jobs q [] ≡ 0
unfolding count_jobs jobs_from keep
no_jobs q = refl

night_counts : (q : List Call → Bool) (tss : List (List JobCall)) → Pairwise tss → count_jobs q (flatten tss) ≡ total (count_jobs q) tss
unfolding flatten total
night_counts q [] none = no_jobs q
night_counts q (ts ∷ tss) (next e p) =
    counts_add ts (flatten tss) (apart-flat ts tss e) q ∙ ap (λ (n : ℕ). count_jobs q ts + n) (night_counts q tss p)

total-map : {A B : Type 0} (f : B → ℕ) (g : A → B) (h : A → ℕ) → ((x : A) → f (g x) ≡ h x) → (xs : List A) → total f (map g xs) ≡ total h xs
unfolding total
total-map f g h e [] = refl
total-map f g h e (x ∷ xs) = ap₂ (λ (m n : ℕ). m + n) (e x) (total-map f g h e xs)

total-same : {A : Type 0} (f g : A → ℕ) → ((x : A) → f x ≡ g x) → (xs : List A) → total f xs ≡ total g xs
unfolding total
total-same f g e [] = refl
total-same f g e (x ∷ xs) = ap₂ (λ (m n : ℕ). m + n) (e x) (total-same f g e xs)

-- tallies on any number of machines, whose jobs are pairwise apart, more than 64 in all too: their answers add up to the numbers
-- over all calls
pub night_adds : (night : List (List Note)) → Pairwise (map took_of night) → NightAdds night
night_adds night p =
    record {
      closed = night_counts _ (map took_of night) p ∙ total-map _ took_of _ (λ ns. sym (ap (λ (r : Rates). r.first_closed) (rates_count ns))) night;
      first = night_counts _ (map took_of night) p ∙ total-map _ took_of _ (λ ns. sym (ap (λ (r : Rates). r.first_passed) (rates_count ns))) night;
      final = night_counts _ (map took_of night) p ∙ total-map _ took_of _ (λ ns. sym (ap (λ (r : Rates). r.final_passed) (rates_count ns))) night;
      same = total-same _ _ (λ ns. ap (λ (r : Rates). r.final_closed) (rates_count ns) ∙ sym (ap (λ (r : Rates). r.first_closed) (rates_count ns))) night;
    }
