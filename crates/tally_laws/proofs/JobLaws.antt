-- LAWS. What one more call does to the lists and counts over calls. Assumes nothing.
use Rattle.std.specs.Prelude.{ℕ, ◌+◌, ◌*◌, ◌≡◌, refl, eqb}
use Rattle.std.proofs.Common.{sym, ◌∙◌, arith}
use Rattle.std.proofs.Math.Path.{ap}
use mathlib.Core.Bool.{Bool, true, false, ◌||◌, not, cond, or_assoc, or-false}
use mathlib.Core.List.{List, [], ◌∷◌, ◌++◌, append-nil}
use borrow.Author.Tests.{eq-eqb, ne_eqb}
use Rattle.floats.specs.Lists.{member, any_of}
use Rattle.floats.specs.Truth.{by_bit, cond-t, cond-f}
use Rattle.row_cells.specs.Masks.{member_append}
use Rattle.row_cells.specs.Bits.{has}
use Rattle.tally_words.specs.Words.{w_job, w_try, b_closed, b_first, b_final, b_failing, try_ok}
use Rattle.tally_call.specs.declared.Call.{Call}
use Rattle.tally_call.specs.Calls.{figure, fails, closes, try_number, try_after}
use Rattle.tally_slot.specs.Slots.{new_word}
use Rattle.tally_laws.specs.Jobs.{JobCall, calls_of, sum_of, with_job, jobs_from, jobs_of, tries_from, open_from}
use Rattle.tally_laws.specs.Jobs.{tries_of, open_of, passes, any_try, first_passes, last_from, final_passes, told}
use Rattle.tally_laws.specs.ListLaws.{any_snoc}

-- ---- the calls of a job
pub calls_append : (j : ℕ) (ts us : List JobCall) → calls_of j (ts ++ us) ≡ calls_of j ts ++ calls_of j us
unfolding calls_of
calls_append j [] us = refl
calls_append j (t ∷ ts) us = by_bit (eqb t.job j) (λ b. rw (b, calls_append j ts us)) (λ b. rw (b, calls_append j ts us))

pub calls_own : (ts : List JobCall) (t : JobCall) (j : ℕ) → t.job ≡ j → calls_of j (ts ++ (t ∷ [])) ≡ calls_of j ts ++ (t.call ∷ [])
unfolding calls_of
calls_own ts t j e = calls_append j ts (t ∷ []) ∙ ap (λ (cs : List Call). calls_of j ts ++ cs) (cond-t _ _ (eq-eqb t.job j e))

pub calls_other : (ts : List JobCall) (t : JobCall) (j : ℕ) → (t.job ≡ j → ⊥) → calls_of j (ts ++ (t ∷ [])) ≡ calls_of j ts
unfolding calls_of
calls_other ts t j h = calls_append j ts (t ∷ []) ∙ ap (λ (cs : List Call). calls_of j ts ++ cs) (cond-f _ _ (ne_eqb t.job j h)) ∙ append-nil (calls_of j ts)

pub calls_none : (ts : List JobCall) (j : ℕ) → told j ts ≡ false → calls_of j ts ≡ []
unfolding calls_of told any_of
calls_none [] j = λ h. refl
calls_none (t ∷ ts) j =
    by_bit (eqb t.job j)
    (λ b. rw b (λ h. absurd (mathlib.Core.Bool.false≢true (sym h))))
    (λ b. rw b (λ h. calls_none ts j h))

-- ---- the jobs
pub member-with : (j x : ℕ) (js : List ℕ) → member j (with_job x js) ≡ (member j js || eqb x j)
unfolding with_job member
member-with j x js =
    by_bit (member x js)
    (λ m. rw m (by_bit (eqb x j)
    (λ b. let e : x ≡ j = borrow.Author.Tests.eqb-true x j b in let n : member j js ≡ true = rw e at m in rw (b, n))
    (λ b. rw b (sym (or-false (member j js))))))
    (λ m. rw m (member_append j js (x ∷ []) ∙ ap (λ (b : Bool). member j js || b) (or-false (eqb x j))))

pub jobs_told : (j : ℕ) (seen : List ℕ) (ts : List JobCall) → member j (jobs_from seen ts) ≡ (member j seen || told j ts)
unfolding jobs_from told any_of
jobs_told j seen [] = sym (or-false (member j seen))
jobs_told j seen (t ∷ ts) =
    jobs_told j (with_job t.job seen) ts
    ∙ ap (λ (b : Bool). b || told j ts) (member-with j t.job seen)
    ∙ or_assoc (member j seen) (eqb t.job j) (told j ts)

pub jobs_append : (seen : List ℕ) (ts us : List JobCall) → jobs_from seen (ts ++ us) ≡ jobs_from (jobs_from seen ts) us
unfolding jobs_from
jobs_append seen [] us = refl
jobs_append seen (t ∷ ts) us = jobs_append (with_job t.job seen) ts us

pub jobs_snoc : (ts : List JobCall) (t : JobCall) → jobs_of (ts ++ (t ∷ [])) ≡ with_job t.job (jobs_of ts)
unfolding jobs_from
jobs_snoc ts t = jobs_append [] ts (t ∷ [])

-- ---- a figure
pub sum_append : (k : ℕ) (cs ds : List Call) → sum_of k (cs ++ ds) ≡ sum_of k cs + sum_of k ds
unfolding sum_of
sum_append k [] ds = omega arith
sum_append k (c ∷ cs) ds = omega (arith, sum_append k cs ds)

pub sum_snoc : (k : ℕ) (cs : List Call) (c : Call) → sum_of k (cs ++ (c ∷ [])) ≡ sum_of k cs + figure c k
unfolding sum_of
sum_snoc k cs c = omega (arith, sum_append k cs (c ∷ []))

-- the same call told twice adds its figures twice
pub repeat_counts : (k : ℕ) (cs : List Call) (c : Call) → sum_of k (cs ++ (c ∷ c ∷ [])) ≡ sum_of k cs + 2 * figure c k
unfolding sum_of
repeat_counts k cs c = omega (arith, sum_append k cs (c ∷ c ∷ []))

-- ---- tries
pub tries_snoc : (since cs : List Call) (c : Call)
    → tries_from since (cs ++ (c ∷ [])) ≡ tries_from since cs ++ cond (closes c) ((open_from since cs ++ (c ∷ [])) ∷ []) []
unfolding tries_from open_from
tries_snoc since [] c = refl
tries_snoc since (x ∷ cs) c =
    by_bit (closes x)
    (λ b. rw b (ap (λ (z : List (List Call)). (since ++ (x ∷ [])) ∷ z) (tries_snoc [] cs c)))
    (λ b. rw b (tries_snoc (since ++ (x ∷ [])) cs c))

pub open_snoc : (since cs : List Call) (c : Call) → open_from since (cs ++ (c ∷ [])) ≡ cond (closes c) [] (open_from since cs ++ (c ∷ []))
unfolding open_from
open_snoc since [] c = refl
open_snoc since (x ∷ cs) c = by_bit (closes x) (λ b. rw b (open_snoc [] cs c)) (λ b. rw b (open_snoc (since ++ (x ∷ [])) cs c))

any_end : (xs : List (List Call)) (y : List Call) → any_try (xs ++ (y ∷ [])) ≡ true
unfolding any_try
any_end [] y = refl
any_end (x ∷ xs) y = refl

first-end : (xs : List (List Call)) (y : List Call) → first_passes (xs ++ (y ∷ [])) ≡ cond (any_try xs) (first_passes xs) (passes y)
unfolding first_passes any_try
first-end [] y = refl
first-end (x ∷ xs) y = refl

last_end : (b : Bool) (xs : List (List Call)) (y : List Call) → last_from b (xs ++ (y ∷ [])) ≡ passes y
unfolding last_from
last_end b [] y = refl
last_end b (x ∷ xs) y = last_end (passes x) xs y

-- ---- the try word of a job's calls
unfoldable pub try_of : List Call → ℕ
try_of cs = try_number (any_try (tries_of cs)) (first_passes (tries_of cs)) (final_passes (tries_of cs)) (any_of fails (open_of cs))

pub record Bits (w : ℕ) (a b x y : Bool) : Type 0 where
  pub b0 : has w b_closed ≡ a
  pub b1 : has w b_first ≡ b
  pub b2 : has w b_final ≡ x
  pub b3 : has w b_failing ≡ y

pub bits_of : (a b x y : Bool) → Bits (try_number a b x y) a b x y
unfolding try_number has
bits_of true true true true = record { b0 = refl; b1 = refl; b2 = refl; b3 = refl }
bits_of true true true false = record { b0 = refl; b1 = refl; b2 = refl; b3 = refl }
bits_of true true false true = record { b0 = refl; b1 = refl; b2 = refl; b3 = refl }
bits_of true true false false = record { b0 = refl; b1 = refl; b2 = refl; b3 = refl }
bits_of true false true true = record { b0 = refl; b1 = refl; b2 = refl; b3 = refl }
bits_of true false true false = record { b0 = refl; b1 = refl; b2 = refl; b3 = refl }
bits_of true false false true = record { b0 = refl; b1 = refl; b2 = refl; b3 = refl }
bits_of true false false false = record { b0 = refl; b1 = refl; b2 = refl; b3 = refl }
bits_of false true true true = record { b0 = refl; b1 = refl; b2 = refl; b3 = refl }
bits_of false true true false = record { b0 = refl; b1 = refl; b2 = refl; b3 = refl }
bits_of false true false true = record { b0 = refl; b1 = refl; b2 = refl; b3 = refl }
bits_of false true false false = record { b0 = refl; b1 = refl; b2 = refl; b3 = refl }
bits_of false false true true = record { b0 = refl; b1 = refl; b2 = refl; b3 = refl }
bits_of false false true false = record { b0 = refl; b1 = refl; b2 = refl; b3 = refl }
bits_of false false false true = record { b0 = refl; b1 = refl; b2 = refl; b3 = refl }
bits_of false false false false = record { b0 = refl; b1 = refl; b2 = refl; b3 = refl }

pub try-bits : (cs : List Call) → Bits (try_of cs) (any_try (tries_of cs)) (first_passes (tries_of cs)) (final_passes (tries_of cs)) (any_of fails (open_of cs))
unfolding try_of
try-bits cs = bits_of (any_try (tries_of cs)) (first_passes (tries_of cs)) (final_passes (tries_of cs)) (any_of fails (open_of cs))

ok-closed : (b x y : Bool) → try_ok (try_number true b x y) ≡ true
unfolding try_ok try_number has
ok-closed true true true = refl
ok-closed true true false = refl
ok-closed true false true = refl
ok-closed true false false = refl
ok-closed false true true = refl
ok-closed false true false = refl
ok-closed false false true = refl
ok-closed false false false = refl

ok_open : (y : Bool) → try_ok (try_number false false false y) ≡ true
unfolding try_ok try_number has
ok_open true = refl
ok_open false = refl

ok_tries : (xs : List (List Call)) (y : Bool) → try_ok (try_number (any_try xs) (first_passes xs) (final_passes xs) y) ≡ true
unfolding any_try first_passes last_from
ok_tries [] y = ok_open y
ok_tries (x ∷ xs) y = ok-closed (passes x) (last_from (passes x) xs) y

pub try_ok_lem : (cs : List Call) → try_ok (try_of cs) ≡ true
unfolding try_of
try_ok_lem cs = ok_tries (tries_of cs) (any_of fails (open_of cs))

pub try-none : try_of [] ≡ 0
unfolding try_of tries_from open_from any_try first_passes last_from any_of try_number
try-none = refl

-- one more call: the try word steps as the tally's does
module _ (cs : List Call) (c : Call) where
  bad_more : any_of fails (open_of cs ++ (c ∷ [])) ≡ (has (try_of cs) b_failing || fails c)
  bad_more = any_snoc fails (open_of cs) c ∙ ap (λ (b : Bool). b || fails c) (sym (try-bits cs).b3)

  pass_more : passes (open_of cs ++ (c ∷ [])) ≡ not (has (try_of cs) b_failing || fails c)
  unfolding passes
  pass_more = ap not bad_more

  closed-number : tries_of (cs ++ (c ∷ [])) ≡ tries_of cs ++ ((open_of cs ++ (c ∷ [])) ∷ []) → open_of (cs ++ (c ∷ [])) ≡ []
      → try_of (cs ++ (c ∷ [])) ≡ try_number true (cond (any_try (tries_of cs)) (first_passes (tries_of cs)) (passes (open_of cs ++ (c ∷ []))))
      (passes (open_of cs ++ (c ∷ []))) false
  unfolding try_of any_of
  closed-number t o = rw (t, o, any_end, first-end, last_end)

  step-closed : closes c ≡ true → try_after (try_of cs) c ≡ try_of (cs ++ (c ∷ []))
  unfolding try_after
  step-closed b =
      let t : tries_of (cs ++ (c ∷ [])) ≡ tries_of cs ++ ((open_of cs ++ (c ∷ [])) ∷ []) = tries_snoc [] cs c
      ∙ ap (λ (z : List (List Call)). tries_of cs ++ z) (cond-t _ _ b) in
      let o : open_of (cs ++ (c ∷ [])) ≡ [] = open_snoc [] cs c ∙ cond-t _ _ b in
      cond-t _ _ b ∙ rw ((try-bits cs).b0, (try-bits cs).b1, ← pass_more) (sym (closed-number t o))

  open_number : tries_of (cs ++ (c ∷ [])) ≡ tries_of cs → open_of (cs ++ (c ∷ [])) ≡ open_of cs ++ (c ∷ [])
      → try_of (cs ++ (c ∷ []))
      ≡ try_number (any_try (tries_of cs)) (first_passes (tries_of cs)) (final_passes (tries_of cs)) (any_of fails (open_of cs ++ (c ∷ [])))
  unfolding try_of
  open_number t o = rw (t, o)

  step_open : closes c ≡ false → try_after (try_of cs) c ≡ try_of (cs ++ (c ∷ []))
  unfolding try_after
  step_open b =
      let t : tries_of (cs ++ (c ∷ [])) ≡ tries_of cs = tries_snoc [] cs c ∙ ap (λ (z : List (List Call)). tries_of cs ++ z) (cond-f _ _ b)
      ∙ append-nil (tries_of cs) in
      let o : open_of (cs ++ (c ∷ [])) ≡ open_of cs ++ (c ∷ []) = open_snoc [] cs c ∙ cond-f _ _ b in
      cond-f _ _ b ∙ rw ((try-bits cs).b0, (try-bits cs).b1, (try-bits cs).b2, ← bad_more) (sym (open_number t o))

  pub try-step : try_after (try_of cs) c ≡ try_of (cs ++ (c ∷ []))
  try-step = by_bit (closes c) step-closed step_open

-- ---- word k of the slot of job j, whose calls are cs
unfoldable pub slot_word : ℕ → List Call → ℕ → ℕ
slot_word j cs k = cond (eqb k w_job) j (cond (eqb k w_try) (try_of cs) (sum_of k cs))

pub slot_none : (j k : ℕ) → (k ≡ w_job → ⊥) → slot_word j [] k ≡ 0
unfolding slot_word sum_of
slot_none j k h = cond-f _ _ (ne_eqb k 0 h) ∙ by_bit (eqb k w_try) (λ b. cond-t _ _ b ∙ try-none) (λ b. cond-f _ _ b)

pub slot_more : (j : ℕ) (cs : List Call) (c : Call) (k o : ℕ) → ((k ≡ w_job → ⊥) → o ≡ slot_word j cs k) → new_word j c k o ≡ slot_word j (cs ++ (c ∷ [])) k
unfolding slot_word new_word
slot_more j cs c k o h =
    by_bit (eqb k w_job)
    (λ b. cond-t _ _ b ∙ sym (cond-t _ _ b))
    (λ b.
    let e : o ≡ cond (eqb k w_try) (try_of cs) (sum_of k cs) = h (borrow.Author.Tests.eqb-false k 0 b) ∙ cond-f _ _ b in
    cond-f _ _ b
    ∙ by_bit (eqb k w_try)
    (λ w. cond-t _ _ w ∙ ap (λ (z : ℕ). try_after z c) (e ∙ cond-t _ _ w) ∙ try-step cs c ∙ sym (cond-t _ _ w))
    (λ w. cond-f _ _ w ∙ ap (λ (z : ℕ). z + figure c k) (e ∙ cond-f _ _ w) ∙ sym (sum_snoc k cs c) ∙ sym (cond-f _ _ w))
    ∙ sym (cond-f _ _ b))
