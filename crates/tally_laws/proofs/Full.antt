-- LAWS. When a note is refused by 11, and when it is taken. Assumes nothing.
use Rattle.std.specs.Prelude.{ℕ, zero, suc, ◌+◌, ◌-◌, ◌^◌, ◌<◌, ◌≤◌, ◌≡◌, refl, Bool, true, ◌&&◌, ◌⊎◌, length}
use Rattle.std.proofs.Math.Path.{sym, ap}
use Rattle.std.proofs.Common.{◌∙◌, ⊎_elim, ne_of_gt, arith}
use Rattle.std.proofs.Math.Bool.{false, and-false}
use Rattle.std.proofs.lemmas.Bool.{false≢true}
use mathlib.Core.List.{List, [], ◌∷◌, ◌++◌}
use Rattle.std.proofs.Math.Logic.{inl, inr}
use Rattle.std.proofs.Math.Dec.{ltb}
use borrow.Author.Tests.{ltb-false, le-ltb}
use Rattle.floats.specs.Lists.{all, member}
use Rattle.floats.specs.Truth.{by_bit, and_t, and_f, cond-t, cond-f, all-fails}
use Rattle.call_reply.specs.Replies.{AfterState}
use Rattle.tally_words.specs.Words.{most_jobs, figures, empty_tally, tally_ok, jobs_in, slot_at}
use Rattle.tally_call.specs.Calls.{figure}
use Rattle.tally_slot.specs.Slots.{tally_full, slot_of, is_known, figure_fits, room_for, counted}
use Rattle.tally.specs.Tally.{note_spec}
use Rattle.tally_laws.specs.Jobs.{Note, JobCall, answer, told_of, run, taken, calls_of, sum_of, jobs_of, told}
use Rattle.tally_laws.specs.Statements.{well_told, Crowded, Past, ElevenWhen}
use Rattle.tally_laws.specs.ListLaws.{member-at}
use Rattle.tally_laws.proofs.JobLaws.{calls_own, sum_snoc, jobs_told}
use Rattle.tally_laws.proofs.Holds.{Holds, old-word, top, hit, known-lt, new-at, new-member}
use Rattle.tally_laws.proofs.Counts.{holds, good-tally, figure-word}

-- where not every k below n passes, some k does not
record Missed (n : ℕ) (f : ℕ → Bool) : Type 0 where
  at : ℕ
  low : at < n
  no : f at ≡ false

missed_last : (a b : Bool) → b ≡ true → (a && b) ≡ false → a ≡ false
missed_last true b g h = absurd (false≢true (sym h ∙ g))
missed_last false b g h = refl

all-false : (n : ℕ) (f : ℕ → Bool) → all n f ≡ false → Missed n f
unfolding all
all-false zero f h = absurd (false≢true (sym h))
all-false (suc n) f h =
    by_bit (f n)
    (λ g. let r : Missed n f = all-false n f (missed_last (all n f) (f n) g h) in record { at = r.at; low = omega (arith, r.low); no = r.no })
    (λ g. record { at = n; low = omega arith; no = g })

module _ {st : List ℕ} {ts : List JobCall} (h : Holds st ts) (t : JobCall) where
  abbrev sum₀ : ℕ → ℕ
  sum₀ k = sum_of k (calls_of t.job (ts ++ (t ∷ [])))

  -- a figure fits where its sum over the job's calls and this one is below 2^64
  fits_sum : (k : ℕ) → k < figures → figure_fits st (slot_at (slot_of st t.job)) (is_known st t.job) t.call k ≡ ltb (sum₀ (k + 1)) (2 ^ 64)
  unfolding figure_fits
  fits_sum k l =
      let old = old-word h t.job (k + 1) (omega arith) (ne_of_gt (omega arith))
      ∙ figure-word t.job (k + 1) (calls_of t.job ts) (omega arith) (omega arith) in
      let new : sum₀ (k + 1) ≡ sum_of (k + 1) (calls_of t.job ts) + figure t.call (k + 1) =
      ap (sum_of (k + 1)) (calls_own ts t t.job refl) ∙ sum_snoc (k + 1) (calls_of t.job ts) t.call in
      ap (λ (x : ℕ). ltb x (2 ^ 64)) (ap (λ (x : ℕ). x + figure t.call (k + 1)) old ∙ sym new)

  listed : member t.job (jobs_of ts) ≡ told t.job ts
  unfolding member
  listed = jobs_told t.job [] ts

  -- ---- no room: what the reason is
  crowded_of : most_jobs ≤ slot_of st t.job → Crowded ts t
  crowded_of ge =
      let e : slot_of st t.job ≡ length (jobs_of ts) = omega (arith, top h t.job, h.few) in
      let b : ltb (slot_of st t.job) (jobs_in st) ≡ false = le-ltb (slot_of st t.job) (jobs_in st) (omega (arith, h.count)) in
      record { new = sym listed ∙ new-member h t.job b; many = omega (arith, h.few) }

  past_of : Missed figures (figure_fits st (slot_at (slot_of st t.job)) (is_known st t.job) t.call) → Past ts t
  past_of m = record {
    figure = m.at + 1;
    some = omega arith;
    most = omega (arith, m.low);
    past = ltb-false (sum₀ (m.at + 1)) (2 ^ 64) (sym (fits_sum m.at m.low) ∙ m.no);
  }

  pub reason : room_for st t.job t.call ≡ false → Crowded ts t ⊎ Past ts t
  unfolding room_for
  reason r =
      by_bit (ltb (slot_of st t.job) most_jobs)
      (λ b. inr (past_of (all-false figures _ (sym (and_t _ b) ∙ r))))
      (λ b. inl (crowded_of (ltb-false _ _ b)))

  -- ---- each reason leaves no room
  pub crowded-full : Crowded ts t → room_for st t.job t.call ≡ false
  unfolding room_for
  crowded-full c =
      by_bit (ltb (slot_of st t.job) (jobs_in st))
      (λ b.
      let k = known-lt h t.job b in
      absurd (false≢true (sym c.new ∙ sym listed ∙ member-at t.job (jobs_of ts) (slot_of st t.job) k (hit h t.job k))))
      (λ b. and_f _ (le-ltb (slot_of st t.job) most_jobs (omega (arith, new-at h t.job b, c.many))))

  pub past-full : Past ts t → room_for st t.job t.call ≡ false
  unfolding room_for
  past-full p =
      let e : p.figure - 1 + 1 ≡ p.figure = omega (arith, p.some) in
      let l : p.figure - 1 < figures = omega (arith, p.some, p.most) in
      let f : ltb (sum₀ p.figure) (2 ^ 64) ≡ false = le-ltb _ _ p.past in
      let g : ltb (sum₀ (p.figure - 1 + 1)) (2 ^ 64) ≡ false = ap (λ (k : ℕ). ltb (sum₀ k) (2 ^ 64)) e ∙ f in
      rw (
        all-fails figures (figure_fits st (slot_at (slot_of st t.job)) (is_known st t.job) t.call) (p.figure - 1) l
            (fits_sum (p.figure - 1) l ∙ g),
        and-false,
      )

-- ---- what a note that is well told answers, by its room
module _ (st : List ℕ) (n : Note) (ok : tally_ok st ≡ true) (w : well_told n ≡ true) where
  answer-counted : answer st n ≡ counted st n.job (told_of n).call
  unfolding note_spec
  answer-counted = cond-t _ _ ok ∙ cond-t _ _ w

  full-code : room_for st n.job (told_of n).call ≡ false → (answer st n).reply.code ≡ tally_full
  unfolding counted
  full-code r = ap (λ (z : AfterState). z.reply.code) (answer-counted ∙ cond-f _ _ r)

  done-code : room_for st n.job (told_of n).call ≡ true → (answer st n).reply.code ≡ 0
  unfolding counted
  done-code r = ap (λ (z : AfterState). z.reply.code) (answer-counted ∙ cond-t _ _ r)

  code-full : (answer st n).reply.code ≡ tally_full → room_for st n.job (told_of n).call ≡ false
  code-full e =
      by_bit (room_for st n.job (told_of n).call)
      (λ r. let z : (answer st n).reply.code ≡ 0 = done-code r in absurd (omega arith))
      (λ r. r)

-- after any notes to a fresh tally, one that is well told is refused by 11 where its job is new and 64 have a slot, or where one of
-- its job's figures would be 2^64 or more, and nowhere else: there it is taken
pub eleven_when : (ns : List Note) (n : Note) → well_told n ≡ true → ElevenWhen (run empty_tally ns) (taken empty_tally ns) n (told_of n)
eleven_when ns n w =
    let h : Holds (run empty_tally ns) (taken empty_tally ns) = holds ns in
    record {
      only = λ e. reason h (told_of n) (code-full _ n (good-tally h) w e);
      crowded = λ c. full-code _ n (good-tally h) w (crowded-full h (told_of n) c);
      past = λ p. full-code _ n (good-tally h) w (past-full h (told_of n) p);
      taken =
          λ c p. by_bit (room_for (run empty_tally ns) n.job (told_of n).call)
          (λ r. done-code _ n (good-tally h) w r)
          (λ r. absurd (⊎_elim c p (reason h (told_of n) r)));
    }
