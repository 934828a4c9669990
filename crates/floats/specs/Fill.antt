-- LAWS. `upto` and `filled`: a slice that a loop fills from the front. Assumes nothing.
use Rattle.std.specs.Prelude.{◌≡◌, ◌⊎◌, length, get_or, drop, set, Bool, true, false, ltb, Float}
use Rattle.std.proofs.Math.Path.{refl}
use Rattle.std.proofs.Common.{sym, ◌∙◌, ap, suc-mul, mul-le-mul_right, le_trans, eq-or-lt_of_le, ne_of_gt, inl, inr, arith, length-drop, length-set}
use Rattle.std.proofs.Common.{ltb-true, ltb-false, get_or-set_same, get_or-set_other, get_or-append-add, get_or-drop, drop-set-lt, ext_get_or}
use mathlib.Core.List.{List, [], ◌∷◌, ◌++◌, append-nil}
use Prim.Native.Nat.{ℕ, zero, suc, ◌+◌, ◌*◌, ◌-◌, ◌<◌, ◌≤◌}
use Rattle.std.proofs.Math.Numerals.{add-one}
use Rattle.std.proofs.Math.Logic.{⊎_elim}
use Rattle.std.proofs.Math.ListN.{length-append, get_or-append}
use Rattle.std.proofs.Math.Seq.{drop-length, drop-cons, append_snoc}
use Rattle.std.proofs.lemmas.List.{set_at, get_or_at}
use Rattle.floats.specs.Lists.{upto, filled, Agrees}
use Rattle.std.specs.Float.{nan}

module _ {A : Type 0} (f : ℕ → A) where
  pub length-upto : (n : ℕ) → length (upto f n) ≡ n
  unfolding upto
  length-upto zero = refl
  length-upto (suc n) = length-append (upto f n) (f n ∷ []) ∙ rw (length-upto n) (add-one n)

  pub at-upto : (n k : ℕ) (d : A) → k < n → get_or (upto f n) k d ≡ f k
  unfolding upto
  at-upto zero k d h = absurd (omega arith)
  at-upto (suc n) k d h = ⊎_elim
      (λ e. rw e (get_or_at (upto f n) (f n) [] d n (length-upto n)))
      (λ lt. get_or-append (upto f n) (f n ∷ []) d k (rw (length-upto n) lt) ∙ at-upto n k d lt)
      (eq-or-lt_of_le {n = k} {m = n} (omega arith))

  empty-filled : (l : List A) → l ≡ filled f 0 l
  unfolding upto
  empty-filled l = refl

  pub filled_more : (l xs : List A) (i : ℕ) {v : A} → i < length l → xs ≡ filled f i l → v ≡ f i → set xs i v ≡ filled f (i + 1) l
  unfolding upto
  filled_more l xs i {v} h e ev = rw (e, ev, add-one, drop-cons l i v, append_snoc) (set_at (upto f i) _ _ _ i (length-upto i))

  pub filled-same : (l : List A) (n i : ℕ) (v : A) → i < n → filled f n (set l i v) ≡ filled f n l
  filled-same l n i v h = ap (λ (r : List A). upto f n ++ r) (drop-set-lt n l i v h)

  -- where the first is stored before the loop
  pub filled-first : (l : List A) (v : A) → 0 < length l → v ≡ f 0 → set l 0 v ≡ filled f 1 (set l 0 v)
  filled-first l v h e = filled_more l l 0 h (empty-filled l) e ∙ sym (filled-same l 1 0 v (omega arith))

  pub filled-end : (l : List A) (v : A) (k n : ℕ) → k + 1 ≡ n → filled f (k + 1) (set l 0 v) ≡ filled f n l
  filled-end l v k n e = filled-same l (k + 1) 0 v (omega arith) ∙ rw e

  pub length-filled : (l : List A) (n : ℕ) → n ≤ length l → length (filled f n l) ≡ length l
  length-filled l n h = simp (length-append, length-upto, length-drop) (omega arith)

  pub at-filled : (l : List A) (n k : ℕ) (d : A) → k < n → get_or (filled f n l) k d ≡ f k
  at-filled l n k d h = get_or-append (upto f n) (drop n l) d k (rw (length-upto n) h) ∙ at-upto n k d h

  pub past-filled : (l : List A) (n k : ℕ) (d : A) → n ≤ k → get_or (filled f n l) k d ≡ get_or l k d
  past-filled l n k d h =
      let e : k ≡ length (upto f n) + (k - n) = rw (length-upto n) (omega arith) in
      let g : n + (k - n) ≡ k = omega arith in
      ap (λ (j : ℕ). get_or (filled f n l) j d) e ∙ get_or-append-add (upto f n) (drop n l) (k - n) d ∙ get_or-drop n l (k - n) d
      ∙ ap (λ (j : ℕ). get_or l j d) g

pub upto-same : {A : Type 0} (f g : ℕ → A) → ((k : ℕ) → f k ≡ g k) → (n : ℕ) → upto f n ≡ upto g n
unfolding upto
upto-same f g e zero = refl
upto-same f g e (suc n) = rw (upto-same f g e n, e n)

pub filled_agrees : (f : ℕ → Float) (n : ℕ) (l : List Float) {xs : List Float} → xs ≡ filled f n l → Agrees xs f n
unfolding Agrees
filled_agrees f n l e k h = rw e (at-filled f l n k nan h)

-- A loop's invariant: xs is l with f 0 .. f (i - 1) written over its first i.
pub record Filling {A : Type 0} (f : ℕ → A) (i : ℕ) (l xs : List A) : Type 0 where
  pub same : length xs ≡ length l
  pub is : xs ≡ filled f i l

module _ {A : Type 0} {f : ℕ → A} where
  pub filling-none : {l : List A} → Filling f 0 l l
  filling-none {l} = record { same = refl; is = empty-filled f l }

  pub filling-more : {i : ℕ} {l xs : List A} {v : A} → Filling f i l xs → i < length l → v ≡ f i → Filling f (i + 1) l (set xs i v)
  filling-more {i} {l} {xs} {v} h lt e = record { same = length-set xs i v ∙ h.same; is = filled_more f l xs i lt h.is e }

  pub filling-first : (l : List A) {v : A} → 0 < length l → v ≡ f 0 → Filling f 1 (set l 0 v) (set l 0 v)
  filling-first l {v} lt e = record { same = refl; is = filled-first f l v lt e }

split : (k n : ℕ) (b : Bool) → ltb k n ≡ b → (k < n) ⊎ (n ≤ k)
split k n true e = inl (ltb-true k n e)
split k n false e = inr (ltb-false k n e)

pub lt_or_le : (k n : ℕ) → (k < n) ⊎ (n ≤ k)
lt_or_le k n = split k n (ltb k n) refl

-- A loop's invariant, from the back: of xs, which was l, those from i up to n are f i .. f (n - 1), and those past n are as they were.
-- d is what stands past an end.
pub record Backing {A : Type 0} (d : A) (f : ℕ → A) (i n : ℕ) (l xs : List A) : Type 0 where
  pub same : length xs ≡ length l
  pub is : (k : ℕ) → i ≤ k → k < n → get_or xs k d ≡ f k
  pub rest : (k : ℕ) → n ≤ k → get_or xs k d ≡ get_or l k d

module _ {A : Type 0} {d : A} {f : ℕ → A} where
  pub backing_first : (l : List A) (m : ℕ) {v : A} → m < length l → v ≡ f m → Backing d f m (m + 1) (set l m v) (set l m v)
  backing_first l m {v} lt e = record {
    same = refl;
    is = λ k h g. let ek : k ≡ m = omega arith in rw (ek, get_or-set_same l m v d lt) e;
    rest = λ k h. refl;
  }

  pub backing_more : {i j n : ℕ} {l xs : List A} {v : A} → Backing d f i n l xs → i ≡ j + 1 → j < length l → j < n → v ≡ f j → Backing d f j n l (set xs j v)
  backing_more {i} {j} {n} {l} {xs} {v} b ei lt ln e = record {
    same = length-set xs j v ∙ b.same;
    is = λ k h g. ⊎_elim
        (λ ek. rw (← ek) (get_or-set_same xs j v d (omega (arith, b.same)) ∙ e))
        (λ jk. get_or-set_other xs j k v d (ne_of_gt jk) ∙ b.is k (omega arith) g)
        (eq-or-lt_of_le h);
    rest = λ k h. get_or-set_other xs j k v d (ne_of_gt (omega arith)) ∙ b.rest k h;
  }

  pub backing_end : {n : ℕ} {l xs : List A} → Backing d f 0 n l xs → n ≤ length l → xs ≡ filled f n l
  backing_end {n} {l} {xs} b le = ext_get_or d xs (filled f n l) (b.same ∙ sym (length-filled f l n le)) (λ k h. ⊎_elim
      (λ lt. b.is k (omega arith) lt ∙ sym (at-filled f l n k d lt))
      (λ ge. b.rest k ge ∙ sym (past-filled f l n k d ge))
      (lt_or_le k n))

-- rows of n cells: row k and the one after lie within m rows
pub two-rows : (k m n at len : ℕ) → k + 1 < m → m * n ≤ len → at ≡ k * n → at + n + n ≤ len
two-rows k m n at len h hl e = rw (e, ← suc-mul k n, ← suc-mul (suc k) n) (le_trans (mul-le-mul_right n (omega arith)) hl)

pub upto-below : {A : Type 0} (f g : ℕ → A) (n : ℕ) → ((k : ℕ) → k < n → f k ≡ g k) → upto f n ≡ upto g n
unfolding upto
upto-below f g zero e = refl
upto-below f g (suc n) e = rw (upto-below f g n (λ k h. e k (omega arith)), e n (omega arith))

-- a slice filled to its end
pub filled-all : {A : Type 0} (f : ℕ → A) (l : List A) {i : ℕ} {xs : List A} → i ≡ length l → xs ≡ filled f i l → xs ≡ upto f (length l)
filled-all f l {i} {xs} e h =
    h ∙ ap (λ (k : ℕ). filled f k l) e ∙ ap (λ (r : List _). upto f (length l) ++ r) (drop-length l) ∙ append-nil (upto f (length l))
