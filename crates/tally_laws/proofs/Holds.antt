-- LAWS. The words of a tally are counts over the calls that it took: one step, and any list of notes. Assumes nothing.
use Rattle.std.specs.Prelude.{ℕ, ◌+◌, ◌<◌, ◌≤◌, ◌≡◌, true, false, ◌⊎◌, length, get_or, set, eqb, ltb}
use Rattle.std.proofs.Math.Path.{refl, sym, ap}
use Rattle.std.proofs.Common.{◌∙◌, subst, arith, eq-or-lt_of_le, ne_of_gt, ne_of_lt, length-append, length-set, get_or-set_same, get_or-set_other}
use mathlib.Core.List.{List, [], ◌∷◌, ◌++◌, append_assoc, append-nil}
use Rattle.std.proofs.Math.Logic.{⊎_elim}
use Rattle.std.proofs.Math.ListN.{get_or-append}
use Rattle.std.proofs.lemmas.List.{get_or_at}
use borrow.Author.Tests.{ltb-true, ltb-false, eqb-true, eqb-false}
use Rattle.floats.specs.Lists.{upto, spliced, member}
use Rattle.floats.specs.Fill.{length-upto, at-upto, lt_or_le}
use Rattle.floats.specs.Splice.{length-spliced, below-spliced, in_spliced, past-spliced}
use Rattle.floats.specs.Truth.{by_bit, cond-t, cond-f, and_left}
use Rattle.tally_words.specs.Words.{most_jobs, w_job, job_words, tally_words, jobs_in, slot_at, empty_tally}
use Rattle.tally_call.specs.declared.Call.{Call}
use Rattle.tally_slot.specs.Slots.{seek, is_job, slot_of, is_known, old_word, room_for, new_word, slot_after, jobs_after, noted}
use Rattle.tally_laws.specs.Jobs.{Note, JobCall, answer, took, told_of, run, taken, calls_of, with_job, jobs_from, jobs_of}
use Rattle.tally_laws.specs.ListLaws.{member-at, member-none, seek_le, seek_hit, seek-miss}
use Rattle.tally_laws.proofs.JobLaws.{calls_own, calls_other, calls_none, jobs_told, jobs_snoc, slot_word, slot_none, slot_more}
use Rattle.tally_laws.specs.Turned.{turned-leaves, taken-room, taken-state}

abbrev job_at : List JobCall → ℕ → ℕ
job_at ts i = get_or (jobs_of ts) i 0

pub record Holds (st : List ℕ) (ts : List JobCall) : Type 0 where
  pub long : length st ≡ tally_words
  pub count : jobs_in st ≡ length (jobs_of ts)
  pub few : length (jobs_of ts) ≤ most_jobs
  pub once : (i k : ℕ) → i < k → k < length (jobs_of ts) → job_at ts i ≡ job_at ts k → ⊥
  pub word : (i k : ℕ) → i < length (jobs_of ts) → k < job_words → get_or st (slot_at i + k) 0 ≡ slot_word (job_at ts i) (calls_of (job_at ts i) ts) k

pub holds-none : Holds empty_tally []
unfolding empty_tally jobs_from
holds-none = record {
  long = length-upto (λ (k : ℕ). 0) tally_words;
  count = at-upto (λ (k : ℕ). 0) tally_words 0 0 (omega arith);
  few = omega arith;
  once = λ i k h l. absurd (omega arith);
  word = λ i k h. absurd (omega arith);
}

-- ---- the words after a note
module _ (st : List ℕ) (job : ℕ) (c : Call) (long : length st ≡ tally_words) (small : slot_of st job < most_jobs) where
  abbrev i₀ : ℕ
  i₀ = slot_of st job

  f₀ : ℕ → ℕ
  f₀ = slot_after st (slot_at i₀) (is_known st job) job c

  s₀ : List ℕ
  s₀ = spliced st (slot_at i₀) (upto f₀ job_words)

  wide : length (upto f₀ job_words) ≡ job_words
  wide = length-upto f₀ job_words

  same-long : length s₀ ≡ length st
  unfolding s₀
  same-long = length-spliced st (slot_at i₀) (upto f₀ job_words) (omega (arith, wide))

  noted-set : noted st job c ≡ set s₀ 0 (jobs_after i₀ (jobs_in st))
  unfolding noted s₀ f₀
  noted-set = refl

  pub noted-long : length (noted st job c) ≡ tally_words
  noted-long = ap length noted-set ∙ length-set s₀ 0 (jobs_after i₀ (jobs_in st)) ∙ same-long ∙ long

  pub noted-count : jobs_in (noted st job c) ≡ jobs_after i₀ (jobs_in st)
  noted-count = ap (λ (z : List ℕ). get_or z 0 0) noted-set ∙ get_or-set_same s₀ 0 (jobs_after i₀ (jobs_in st)) 0 (omega (arith, same-long))

  at_slot : (j : ℕ) → 0 < j → get_or (noted st job c) j 0 ≡ get_or s₀ j 0
  at_slot j h = ap (λ (z : List ℕ). get_or z j 0) noted-set ∙ get_or-set_other s₀ 0 j (jobs_after i₀ (jobs_in st)) 0 (ne_of_gt h)

  pub noted-own : (k : ℕ) → k < job_words → get_or (noted st job c) (slot_at i₀ + k) 0 ≡ new_word job c k (old_word st (slot_at i₀) (is_known st job) k)
  unfolding slot_after s₀ f₀
  noted-own k h =
      at_slot (slot_at i₀ + k) (omega arith) ∙ in_spliced st (slot_at i₀) (upto f₀ job_words) k (omega arith) (omega (arith, wide))
      ∙ at-upto f₀ job_words k 0 h

  pub noted_other : (i k : ℕ) → (i ≡ i₀ → ⊥) → k < job_words → get_or (noted st job c) (slot_at i + k) 0 ≡ get_or st (slot_at i + k) 0
  unfolding s₀
  noted_other i k ne h =
      at_slot (slot_at i + k) (omega arith)
      ∙ ⊎_elim
      (λ (w : i < i₀). below-spliced st (slot_at i₀) (upto f₀ job_words) (slot_at i + k) (omega arith) (omega arith))
      (λ (w : i₀ ≤ i).
      let g : i₀ < i = ⊎_elim (λ (z : i₀ ≡ i). absurd (ne (sym z))) (λ z. z) (eq-or-lt_of_le {n = i₀} {m = i} w) in
      past-spliced st (slot_at i₀) (upto f₀ job_words) (slot_at i + k) (omega arith) (omega (arith, wide)))
      (lt_or_le i i₀)

-- ---- the slot of a job
module _ {st : List ℕ} {ts : List JobCall} (h : Holds st ts) (job : ℕ) where
  abbrev n₀ : ℕ
  n₀ = length (jobs_of ts)

  first_word : (i : ℕ) → i < n₀ → get_or st (slot_at i + w_job) 0 ≡ job_at ts i
  unfolding slot_word
  first_word i l = h.word i w_job l (omega arith)

  pub top : slot_of st job ≤ n₀
  unfolding slot_of
  top = omega (arith, seek_le (is_job st job) (jobs_in st), h.count)

  pub hit : slot_of st job < n₀ → job_at ts (slot_of st job) ≡ job
  unfolding slot_of is_job
  hit l =
      let g : seek (is_job st job) (jobs_in st) < jobs_in st = omega (arith, h.count) in
      sym (first_word (slot_of st job) l) ∙ eqb-true _ _ (seek_hit (is_job st job) (jobs_in st) g)

  miss : (k : ℕ) → k < slot_of st job → k < n₀ → job_at ts k ≡ job → ⊥
  unfolding slot_of is_job
  miss k l g e = eqb-false _ _ (seek-miss (is_job st job) (jobs_in st) k l (omega (arith, h.count))) (first_word k g ∙ e)

  other : (k : ℕ) → k < n₀ → (k ≡ slot_of st job → ⊥) → job_at ts k ≡ job → ⊥
  other k l ne e =
      ⊎_elim
      (λ (w : k < slot_of st job). miss k w l e)
      (λ (w : slot_of st job ≤ k). ⊎_elim (λ (z : slot_of st job ≡ k). ne (sym z))
      (λ (z : slot_of st job < k). h.once (slot_of st job) k z l (hit (omega arith) ∙ sym e)) (eq-or-lt_of_le {n = slot_of st job} {m = k} w))
      (lt_or_le k (slot_of st job))

  module _ (b : ltb (slot_of st job) (jobs_in st) ≡ true) where
    pub known-lt : slot_of st job < n₀
    known-lt = omega (arith, ltb-true (slot_of st job) (jobs_in st) b, h.count)

    known_jobs : with_job job (jobs_of ts) ≡ jobs_of ts
    unfolding with_job
    known_jobs = cond-t _ _ (member-at job (jobs_of ts) (slot_of st job) known-lt (hit known-lt))

    known_old : (k : ℕ) → k < job_words → old_word st (slot_at (slot_of st job)) (is_known st job) k ≡ slot_word job (calls_of job ts) k
    unfolding old_word
    known_old k l =
        cond-t _ _ b
        ∙ h.word (slot_of st job) k known-lt l
        ∙ ap (λ (j : ℕ). slot_word j (calls_of j ts) k) (hit known-lt)

  module _ (b : ltb (slot_of st job) (jobs_in st) ≡ false) where
    pub new-at : slot_of st job ≡ n₀
    new-at = omega (arith, ltb-false (slot_of st job) (jobs_in st) b, h.count, top)

    pub new-member : member job (jobs_of ts) ≡ false
    new-member = member-none job (jobs_of ts) (λ k l e. miss k (omega (arith, new-at)) l e)

    new_jobs : with_job job (jobs_of ts) ≡ jobs_of ts ++ (job ∷ [])
    unfolding with_job
    new_jobs = cond-f _ _ new-member

    new_calls : calls_of job ts ≡ []
    unfolding member
    new_calls = calls_none ts job (sym (jobs_told job [] ts) ∙ new-member)

    new_old : (k : ℕ) → (k ≡ 0 → ⊥) → old_word st (slot_at (slot_of st job)) (is_known st job) k ≡ slot_word job (calls_of job ts) k
    unfolding old_word
    new_old k z = cond-f _ _ b ∙ sym (ap (λ (cs : List Call). slot_word job cs k) new_calls ∙ slot_none job k z)

  -- what the tally has of a job, whether it has a slot or not
  pub old-word : (k : ℕ) → k < job_words → (k ≡ 0 → ⊥) → old_word st (slot_at (slot_of st job)) (is_known st job) k ≡ slot_word job (calls_of job ts) k
  old-word k l z = by_bit (ltb (slot_of st job) (jobs_in st)) (λ b. known_old b k l) (λ b. new_old b k z)

-- ---- the jobs after one more call: those before, and the call's at its slot
record Listed (st : List ℕ) (ts : List JobCall) (t : JobCall) : Type 0 where
  len : length (jobs_of (ts ++ (t ∷ []))) ≡ jobs_after (slot_of st t.job) (jobs_in st)
  few : length (jobs_of (ts ++ (t ∷ []))) ≤ most_jobs
  low : (i : ℕ) → i < length (jobs_of ts) → job_at (ts ++ (t ∷ [])) i ≡ job_at ts i
  own : job_at (ts ++ (t ∷ [])) (slot_of st t.job) ≡ t.job
  lt : (i : ℕ) → i < length (jobs_of (ts ++ (t ∷ []))) → (i ≡ slot_of st t.job → ⊥) → i < length (jobs_of ts)

module _ {st : List ℕ} {ts : List JobCall} (h : Holds st ts) (t : JobCall) (small : slot_of st t.job < most_jobs) where
  listed-known : ltb (slot_of st t.job) (jobs_in st) ≡ true → Listed st ts t
  listed-known b =
      let e : jobs_of (ts ++ (t ∷ [])) ≡ jobs_of ts = jobs_snoc ts t ∙ known_jobs h t.job b in
      let l : length (jobs_of (ts ++ (t ∷ []))) ≡ length (jobs_of ts) = ap length e in
      record {
        len = l ∙ sym h.count ∙ sym (cond-t _ _ b);
        few = omega (arith, h.few);
        low = λ i g. ap (λ (z : List ℕ). get_or z i 0) e;
        own = ap (λ (z : List ℕ). get_or z (slot_of st t.job) 0) e ∙ hit h t.job (known-lt h t.job b);
        lt = λ i g ne. omega arith;
      }

  listed-new : ltb (slot_of st t.job) (jobs_in st) ≡ false → Listed st ts t
  listed-new b =
      let e : jobs_of (ts ++ (t ∷ [])) ≡ jobs_of ts ++ (t.job ∷ []) = jobs_snoc ts t ∙ new_jobs h t.job b in
      let l : length (jobs_of (ts ++ (t ∷ []))) ≡ length (jobs_of ts) + 1 = ap length e ∙ length-append (jobs_of ts) (t.job ∷ []) in
      let a : slot_of st t.job ≡ length (jobs_of ts) = new-at h t.job b in
      record {
        len = l ∙ ap (λ (i : ℕ). i + 1) (sym a) ∙ sym (cond-f _ _ b);
        few = omega arith;
        low = λ i g. ap (λ (z : List ℕ). get_or z i 0) e ∙ get_or-append (jobs_of ts) (t.job ∷ []) 0 i g;
        own = ap (λ (z : List ℕ). get_or z (slot_of st t.job) 0) e ∙ get_or_at (jobs_of ts) t.job [] 0 (slot_of st t.job) (sym a);
        lt =
            λ i g ne. ⊎_elim (λ (z : i ≡ length (jobs_of ts)). absurd (ne (z ∙ sym a))) (λ z. z)
            (eq-or-lt_of_le {n = i} {m = length (jobs_of ts)} (omega arith));
      }

  listed : Listed st ts t
  listed = by_bit (ltb (slot_of st t.job) (jobs_in st)) listed-known listed-new

  or_other : {A : Type 0} (i : ℕ) → (i ≡ slot_of st t.job → A) → ((i ≡ slot_of st t.job → ⊥) → A) → A
  or_other i f g = by_bit (eqb i (slot_of st t.job)) (λ b. f (eqb-true _ _ b)) (λ b. g (eqb-false _ _ b))

  apart : (i : ℕ) → i < length (jobs_of (ts ++ (t ∷ []))) → (i ≡ slot_of st t.job → ⊥) → job_at (ts ++ (t ∷ [])) i ≡ t.job → ⊥
  apart i l ne e = let g : i < length (jobs_of ts) = listed.lt i l ne in other h t.job i g ne (sym (listed.low i g) ∙ e)

  once_more : (i k : ℕ) → i < k → k < length (jobs_of (ts ++ (t ∷ []))) → job_at (ts ++ (t ∷ [])) i ≡ job_at (ts ++ (t ∷ [])) k → ⊥
  once_more i k ik l e =
      or_other k
      (λ w. apart i (omega arith) (λ v. ne_of_lt ik (v ∙ sym w)) (e ∙ ap (job_at (ts ++ (t ∷ []))) w ∙ listed.own))
      (λ nk. or_other i
      (λ w. apart k l nk (sym e ∙ ap (job_at (ts ++ (t ∷ []))) w ∙ listed.own))
      (λ ni. h.once i k ik (listed.lt k l nk) (sym (listed.low i (listed.lt i (omega arith) ni)) ∙ e ∙ listed.low k (listed.lt k l nk))))

  word-own : (k : ℕ) → k < job_words
      → get_or (noted st t.job t.call) (slot_at (slot_of st t.job) + k) 0 ≡ slot_word t.job (calls_of t.job (ts ++ (t ∷ []))) k
  word-own k l =
      noted-own st t.job t.call h.long small k l
      ∙ slot_more t.job (calls_of t.job ts) t.call k _ (λ z. old-word h t.job k l z)
      ∙ ap (λ (cs : List Call). slot_word t.job cs k) (sym (calls_own ts t t.job refl))

  word-other : (i k : ℕ) → i < length (jobs_of ts) → (i ≡ slot_of st t.job → ⊥) → k < job_words
      → get_or (noted st t.job t.call) (slot_at i + k) 0 ≡ slot_word (job_at ts i) (calls_of (job_at ts i) (ts ++ (t ∷ []))) k
  word-other i k l ne g =
      noted_other st t.job t.call h.long small i k ne g
      ∙ h.word i k l g
      ∙ ap (λ (cs : List Call). slot_word (job_at ts i) cs k) (sym (calls_other ts t (job_at ts i) (λ e. other h t.job i l ne (sym e))))

  word_more : (i k : ℕ) → i < length (jobs_of (ts ++ (t ∷ []))) → k < job_words
      → get_or (noted st t.job t.call) (slot_at i + k) 0 ≡ slot_word (job_at (ts ++ (t ∷ [])) i) (calls_of (job_at (ts ++ (t ∷ [])) i) (ts ++ (t ∷ []))) k
  word_more i k l g =
      or_other i
      (λ w.
      ap (λ (j : ℕ). get_or (noted st t.job t.call) (slot_at j + k) 0) w
      ∙ word-own k g
      ∙ ap (λ (j : ℕ). slot_word j (calls_of j (ts ++ (t ∷ []))) k) (sym (ap (job_at (ts ++ (t ∷ []))) w ∙ listed.own)))
      (λ ne.
      let m : i < length (jobs_of ts) = listed.lt i l ne in
      word-other i k m ne g ∙ ap (λ (j : ℕ). slot_word j (calls_of j (ts ++ (t ∷ []))) k) (sym (listed.low i m)))

  pub holds-next : Holds (noted st t.job t.call) (ts ++ (t ∷ []))
  holds-next = record {
    long = noted-long st t.job t.call h.long small;
    count = noted-count st t.job t.call h.long small ∙ sym listed.len;
    few = listed.few;
    once = once_more;
    word = word_more;
  }

room_small : (st : List ℕ) (job : ℕ) (c : Call) → room_for st job c ≡ true → slot_of st job < most_jobs
unfolding room_for
room_small st job c r = ltb-true _ _ (and_left (ltb (slot_of st job) most_jobs) _ r)

pub holds_more : {st : List ℕ} {ts : List JobCall} → Holds st ts → (t : JobCall) → room_for st t.job t.call ≡ true
    → Holds (noted st t.job t.call) (ts ++ (t ∷ []))
holds_more {st} {ts} h t r = holds-next h t (room_small st t.job t.call r)

-- after any notes
pub holds-run : (ns : List Note) (st : List ℕ) (ts : List JobCall) → Holds st ts → Holds (run st ns) (ts ++ taken st ns)
unfolding run taken
holds-run [] st ts h = subst (λ (z : List JobCall). Holds st z) (sym (append-nil ts)) h
holds-run (n ∷ ns) st ts h =
    by_bit (took st n)
    (λ b.
    let g : Holds (answer st n).state (ts ++ (told_of n ∷ [])) = subst (λ (z : List ℕ). Holds z (ts ++ (told_of n ∷ []))) (sym (taken-state st n b))
    (holds_more h (told_of n) (taken-room st n b)) in
    let r : Holds (run (answer st n).state ns) ((ts ++ (told_of n ∷ [])) ++ taken (answer st n).state ns) = holds-run ns (answer st n).state
    (ts ++ (told_of n ∷ [])) g in
    subst (λ (z : List JobCall). Holds (run (answer st n).state ns) z)
    (append_assoc ts (told_of n ∷ []) (taken (answer st n).state ns) ∙ ap (λ (z : List JobCall). ts ++ z) (sym (cond-t _ _ b))) r)
    (λ b.
    let g : Holds (answer st n).state ts = subst (λ (z : List ℕ). Holds z ts) (sym (turned-leaves st n b)) h in
    subst (λ (z : List JobCall). Holds (run (answer st n).state ns) z) (ap (λ (z : List JobCall). ts ++ z) (sym (cond-f _ _ b)))
    (holds-run ns (answer st n).state ts g))
