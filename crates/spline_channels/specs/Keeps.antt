-- LAWS. `keep`, `any_of`, `member` and `place_of` for code that searches a list. Assumes nothing.
use Prim.Native.Nat.{ℕ, zero, suc, ◌+◌, ◌≤◌, ◌<◌}
use Rattle.std.specs.Prelude.{◌≡◌, ◌≢◌, ◌↔◌, Bool, ◌&&◌, ◌||◌, eqb, get_or, take, drop, IsTrue, EachIndex, Option, Some, None, MatchOption}
use Rattle.std.specs.Option.{unwrap_or}
use Rattle.std.specs.List.{list_any}
use Rattle.std.proofs.lemmas.Bool.{false≢true}
use Rattle.std.proofs.Math.Path.{refl, ap}
use Rattle.std.proofs.Common.{sym, ◌∙◌, add-one, eq-eqb, ne_eqb, length-append, take-append-drop}
use Rattle.std.proofs.Common.{take-suc}
use Rattle.std.proofs.Math.Bool.{true, false, cond, or-true}
use mathlib.Core.List.{List, [], ◌∷◌, ◌++◌}
use native.Mathlib.Omega.{arith}
use Rattle.std.proofs.Math.ListN.{length}
use Rattle.floats.specs.Fill.{length-upto}
use Rattle.floats.specs.Joins.{keep_append}
use Rattle.floats.specs.Lists.{upto, keep, member, any_of}
use Rattle.floats.specs.Truth.{by_bit}
use Rattle.spline_channels.specs.Channels.{place_of}

module _ {A : Type 0} (p : A → Bool) where
  pub keep-yes : (x : A) → p x ≡ true → keep p (x ∷ []) ≡ x ∷ []
  unfolding keep
  keep-yes x e = rw e

  pub keep-no : (x : A) → p x ≡ false → keep p (x ∷ []) ≡ []
  unfolding keep
  keep-no x e = rw e

  pub keep-most : (xs : List A) → length (keep p xs) ≤ length xs
  unfolding keep
  keep-most [] = omega arith
  keep-most (x ∷ xs) = most (p x) (keep p xs) (keep-most xs)
    where
      most : (b : Bool) (r : List A) → length r ≤ length xs → length (cond b (x ∷ r) r) ≤ suc (length xs)
      most true r h = omega arith
      most false r h = omega arith

  pub keep-next : (xs : List A) (i : ℕ) (d : A) → i < length xs → keep p (take (i + 1) xs) ≡ keep p (take i xs) ++ keep p (get_or xs i d ∷ [])
  keep-next xs i d h = rw add-one (ap (keep p) (take-suc xs i d h) ∙ keep_append p (take i xs) (get_or xs i d ∷ []))

  pub keep-room : (xs : List A) (i : ℕ) (d : A) → i < length xs → length (keep p (take i xs)) + length (keep p (get_or xs i d ∷ [])) ≤ length (keep p xs)
  keep-room xs i d h =
      let a : List A = take (i + 1) xs in
      let b : List A = drop (i + 1) xs in
      let e : length (keep p a) ≡ length (keep p (take i xs)) + length (keep p (get_or xs i d ∷ [])) =
      ap length (keep-next xs i d h) ∙ length-append (keep p (take i xs)) (keep p (get_or xs i d ∷ [])) in
      let f : length (keep p a) + length (keep p b) ≡ length (keep p xs) =
      sym (length-append (keep p a) (keep p b)) ∙ ap length (sym (keep_append p a b) ∙ ap (keep p) (take-append-drop (i + 1) xs)) in
      omega arith

  any-at : (xs : List A) (i : ℕ) (d : A) → i < length xs → p (get_or xs i d) ≡ true → any_of p xs ≡ true
  unfolding any_of
  any-at [] i d h e = absurd (omega arith)
  any-at (x ∷ xs) zero d h e = rw e
  any-at (x ∷ xs) (suc i) d h e = rw (any-at xs i d (omega arith) e) (or-true (p x))

  any-where : (xs : List A) (d : A) → any_of p xs ≡ true → (i : ℕ) × (i < length xs) × (p (get_or xs i d) ≡ true)
  unfolding any_of
  any-where [] d e = absurd (false≢true e)
  any-where (x ∷ xs) d e = one (p x) refl (any-where xs d)
    where
      one : (b : Bool) → p x ≡ b → (any_of p xs ≡ true → (i : ℕ) × (i < length xs) × (p (get_or xs i d) ≡ true))
          → (i : ℕ) × (i < suc (length xs)) × (p (get_or (x ∷ xs) i d) ≡ true)
      one true h more = (0, omega arith, h)
      one false h more = let r = more (rw h at e) in (suc r.0, omega (arith, r.1), r.2)

  -- a search says whether one passes
  pub any-is : (xs : List A) (d : A) (b : Bool) → IsTrue b ↔ ((i : ℕ) × (i < length xs) × (p (get_or xs i d) ≡ true)) → b ≡ any_of p xs
  any-is xs d true h = let r = h.0 refl in sym (any-at xs r.0 d r.1 r.2)
  any-is xs d false h = by_bit (any_of p xs) (λ e. absurd (false≢true (h.1 (any-where xs d e)))) (λ e. sym e)

module _ {A : Type 0} (p q : A → Bool) where
  pub any_keep : (xs : List A) → any_of p (keep q xs) ≡ any_of (λ (x : A). q x && p x) xs
  unfolding any_of keep
  any_keep [] = refl
  any_keep (x ∷ xs) = kept (q x) (keep q xs) (any_of (λ (x : A). q x && p x) xs) (any_keep xs)
    where
      kept : (b : Bool) (l : List A) (r : Bool) → any_of p l ≡ r → any_of p (cond b (x ∷ l) l) ≡ ((b && p x) || r)
      kept true l r e = ap (λ (z : Bool). p x || z) e
      kept false l r e = e

  pub keep-keep : (xs : List A) → keep p (keep q xs) ≡ keep (λ (x : A). q x && p x) xs
  unfolding keep
  keep-keep [] = refl
  keep-keep (x ∷ xs) = kept (q x) (keep q xs) (keep (λ (x : A). q x && p x) xs) (keep-keep xs)
    where
      kept : (b : Bool) (l r : List A) → keep p l ≡ r → keep p (cond b (x ∷ l) l) ≡ cond (b && p x) (x ∷ r) r
      kept true l r e = ap (λ (z : List A). cond (p x) (x ∷ z) z) e
      kept false l r e = e

pub keep-upto : {A : Type 0} (p : A → Bool) (f : ℕ → A) (i : ℕ) → keep p (upto f (i + 1)) ≡ keep p (upto f i) ++ keep p (f i ∷ [])
unfolding upto
keep-upto p f i = rw add-one (keep_append p (upto f i) (f i ∷ []))

pub keep-upto-most : {A : Type 0} (p : A → Bool) (f : ℕ → A) (i : ℕ) → length (keep p (upto f i)) ≤ i
keep-upto-most p f i = omega (arith, keep-most p (upto f i), length-upto f i)

-- ---- membership
pub member-here : (k : ℕ) (xs : List ℕ) → member k (k ∷ xs) ≡ true
unfolding member
member-here k xs = rw (eq-eqb k k refl)

pub member-none : (k : ℕ) (xs : List ℕ) → ((j : ℕ) → j < length xs → get_or xs j 0 ≡ k → ⊥) → member k xs ≡ false
unfolding member
member-none k [] h = refl
member-none k (x ∷ xs) h = rw (ne_eqb x k (h 0 (omega arith))) (member-none k xs (λ j l. h (suc j) (omega arith)))

pub member-at : (xs : List ℕ) (i : ℕ) → i < length xs → member (get_or xs i 0) xs ≡ true
unfolding member
member-at [] i h = absurd (omega arith)
member-at (x ∷ xs) zero h = member-here x xs
member-at (x ∷ xs) (suc i) h = rw (member-at xs i (omega arith)) (or-true (eqb x (get_or xs i 0)))

-- ---- the place of a code, found by a search
pub place-found : (k : ℕ) (cs : List ℕ) (o : Option ℕ) → MatchOption o (EachIndex cs (λ i. get_or cs i 0 ≢ k))
    (λ i. (i < length cs) × ((get_or cs i 0 ≡ k) × ((j : ℕ) → j < i → get_or cs j 0 ≢ k))) → unwrap_or o (length cs) ≡ place_of k cs
unfolding place_of
place-found k [] None h = refl
place-found k [] (Some i) h = absurd (omega (arith, h.0))
place-found k (c ∷ cs) None h = rw (ne_eqb c k (h 0 (omega arith)), ← place-found k cs None (λ i l. h (suc i) (omega arith))) (omega arith)
place-found k (c ∷ cs) (Some zero) h = rw (eq-eqb c k h.1.0)
place-found k (c ∷ cs) (Some (suc i)) h =
    rw (ne_eqb c k (h.1.1 0 (omega arith)), ← place-found k cs (Some i) (omega (arith, h.0), (h.1.0, λ j l. h.1.1 (suc j) (omega arith)))) (omega arith)

-- a code is listed where the list contains it
pub member-listed : (k : ℕ) (xs : List ℕ) → list_any (λ y. eqb y k) xs ≡ member k xs
unfolding member
member-listed k [] = refl
member-listed k (x ∷ xs) = rw (member-listed k xs)
