-- LAWS. Finding a slot, what fits into it, and its words while they are written. Assumes nothing.
use Rattle.std.specs.Prelude.{ℕ, zero, suc, ◌+◌, ◌-◌, ◌^◌, ◌<◌, ◌≤◌, ◌≡◌, Bool, List, leb, ltb, length, get_or, set}
use Rattle.std.proofs.Math.Path.{refl, ap}
use Rattle.std.proofs.Common.{sym, ◌∙◌, ap₂, eq-or-lt_of_le, arith}
use Rattle.std.proofs.Math.Bool.{true, false}
use Rattle.std.proofs.Math.Logic.{⊎_elim}
use borrow.Author.Tests.{le-leb, lt-leb, ne_eqb, lt-ltb, le-ltb, ltb-true, eq-eqb}
use Rattle.floats.specs.Lists.{upto, spliced, all}
use Rattle.floats.specs.Fill.{length-upto, lt_or_le}
use Rattle.floats.specs.Splice.{Splicing, length-spliced, past-spliced}
use Rattle.floats.specs.Truth.{and_t, and_f, all-at}
use Rattle.tally_words.specs.Words.{most_jobs, w_job, w_try, w_jobs, job_words, figures, jobs_in, slot_at}
use Rattle.tally_call.specs.Calls.{figure}
use Rattle.tally_call.specs.declared.Call.{Call}
use Rattle.tally_slot.specs.Slots.{seek, is_job, slot_of, old_word, figure_fits, room_for, new_word, slot_after, jobs_after, noted}

-- ---- seek
pub seek-none : (f : ℕ → Bool) (n : ℕ) → ((k : ℕ) → k < n → f k ≡ false) → seek f n ≡ n
unfolding seek
seek-none f zero h = refl
seek-none f (suc n) h =
    let e : seek f n ≡ n = seek-none f n (λ k l. h k (omega arith)) in
    rw (e, le-ltb n n (omega arith), h n (omega arith))

-- one more that does not pass, or that comes after one that does, moves nothing
pub seek_is : (f : ℕ → Bool) (n i : ℕ) → ((k : ℕ) → k < i → f k ≡ false) → i < n → f i ≡ true → seek f n ≡ i
unfolding seek
seek_is f zero i h l e = absurd (omega arith)
seek_is f (suc n) i h l e =
    ⊎_elim
    (λ (w : i ≡ n).
    let g : seek f n ≡ n = seek-none f n (λ k m. h k (omega arith)) in
    let z : f n ≡ true = rw w at e in
    rw (g, le-ltb n n (omega arith), z) (sym w))
    (λ (w : i < n).
    let g : seek f n ≡ i = seek_is f n i h w e in
    rw (g, lt-ltb i n w))
    (eq-or-lt_of_le {n = i} {m = n} (omega arith))

-- ---- words behind those that were written
pub slot_long : (st s : List ℕ) (start : ℕ) (f : ℕ → ℕ) → s ≡ spliced st start (upto f job_words) → start + job_words ≤ length st → length s ≡ length st
slot_long st s start f e h = ap length e ∙ length-spliced st start (upto f job_words) (omega (arith, length-upto f job_words))

module _ {f : ℕ → ℕ} {i k : ℕ} {l xs : List ℕ} (s : Splicing f i k l xs) (h : i + k ≤ length l) where
  next-same : get_or xs (i + k) 0 ≡ get_or l (i + k) 0
  next-same =
      let n : length (upto f k) ≡ k = length-upto f k in
      ap (λ (z : List ℕ). get_or z (i + k) 0) s.is
      ∙ past-spliced l i (upto f k) (i + k) (omega arith) (omega (arith, n))

  pub old_same : (b : Bool) → old_word xs i b k ≡ old_word l i b k
  unfolding old_word
  old_same true = next-same
  old_same false = refl

  pub slot_value : (b : Bool) (job : ℕ) (c : Call) (v o : ℕ) → v ≡ new_word job c k o → o ≡ old_word xs i b k → v ≡ slot_after l i b job c k
  unfolding slot_after
  slot_value b job c v o ev eo = ev ∙ ap (new_word job c k) (eo ∙ old_same b)

  pub slot_fits : (b : Bool) (c : Call) (o : ℕ) → o ≡ old_word xs i b k → all figures (figure_fits l i b c) ≡ true → k < job_words → (k ≡ 0 → ⊥)
      → (k ≡ w_try → ⊥) → o + figure c k < 2 ^ 64
  unfolding figure_fits
  slot_fits b c o eo ok kl k0 kt =
      let e : k - 1 + 1 ≡ k = ⊎_elim (λ (z : 0 ≡ k). absurd (k0 (sym z))) (λ z. omega arith) (eq-or-lt_of_le {n = 0} {m = k} (omega arith)) in
      let m : k < w_try = ⊎_elim (λ (z : k ≡ w_try). absurd (kt z)) (λ z. z) (eq-or-lt_of_le {n = k} {m = w_try} (omega arith)) in
      let t : old_word l i b (k - 1 + 1) + figure c (k - 1 + 1) < 2 ^ 64 = ltb-true _ _ (all-at figures (figure_fits l i b c) (k - 1) ok (omega arith)) in
      let u : old_word l i b k + figure c k < 2 ^ 64 = rw e at t in
      rw (eo, old_same b) u

-- ---- a note
pub sum-test : (x y : ℕ) → y < 2 ^ 64 → leb x (0xFFFFFFFFFFFFFFFF - y) ≡ ltb (x + y) (2 ^ 64)
sum-test x y h =
    ⊎_elim
    (λ (l : x + y < 2 ^ 64). le-leb x (0xFFFFFFFFFFFFFFFF - y) (omega arith) ∙ sym (lt-ltb (x + y) (2 ^ 64) l))
    (λ (l : 2 ^ 64 ≤ x + y). lt-leb x (0xFFFFFFFFFFFFFFFF - y) (omega arith) ∙ sym (le-ltb (x + y) (2 ^ 64) l))
    (lt_or_le (x + y) (2 ^ 64))

pub fits-is : (st : List ℕ) (start : ℕ) (known : Bool) (c : Call) (k o f : ℕ) (r : Bool) → r ≡ ltb (o + f) (2 ^ 64)
    → o ≡ old_word st start known (k + 1) → f ≡ figure c (k + 1) → figure_fits st start known c k ≡ r
unfolding figure_fits
fits-is st start known c k o f r er eo ef = sym (er ∙ ap₂ (λ (x y : ℕ). ltb (x + y) (2 ^ 64)) eo ef)

pub job-hit : (st : List ℕ) (job i s : ℕ) → s ≡ slot_at i → get_or st (s + w_job) 0 ≡ job → is_job st job i ≡ true
unfolding is_job
job-hit st job i s e h = eq-eqb _ _ (ap (λ (j : ℕ). get_or st (j + w_job) 0) (sym e) ∙ h)

pub job-miss : (st : List ℕ) (job i s : ℕ) → s ≡ slot_at i → (get_or st (s + w_job) 0 ≡ job → ⊥) → is_job st job i ≡ false
unfolding is_job
job-miss st job i s e h = ne_eqb _ _ (λ z. h (ap (λ (j : ℕ). get_or st (j + w_job) 0) e ∙ z))

pub below_next : (f : ℕ → Bool) (i : ℕ) → ((k : ℕ) → k < i → f k ≡ false) → f i ≡ false → (k : ℕ) → k < i + 1 → f k ≡ false
below_next f i h g k l = ⊎_elim (λ (w : k ≡ i). rw w g) (λ (w : k < i). h k w) (eq-or-lt_of_le {n = k} {m = i} (omega arith))

module _ (st : List ℕ) (job i start : ℕ) (c : Call) (e : i ≡ slot_of st job) (es : start ≡ slot_at i) where
  pub room-few : most_jobs ≤ i → room_for st job c ≡ false
  unfolding room_for
  room-few l = rw (← e) (and_f _ (le-ltb _ _ l))

  pub room_when : (b : Bool) → i < most_jobs → all figures (figure_fits st start (ltb i (jobs_in st)) c) ≡ b → room_for st job c ≡ b
  unfolding room_for
  room_when b l h = rw (← e, ← es) (and_t _ (lt-ltb _ _ l) ∙ h)

  pub noted-is : (s : List ℕ) (v : ℕ) → s ≡ spliced st start (upto (slot_after st start (ltb i (jobs_in st)) job c) job_words)
      → v ≡ jobs_after i (jobs_in st) → set s w_jobs v ≡ noted st job c
  unfolding noted
  noted-is s v h g = rw (h, g, es, e)
