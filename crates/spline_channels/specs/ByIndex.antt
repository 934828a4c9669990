-- LAWS. `any_of`, `member` and `place_of` for code that goes by index. Assumes nothing.
use Prim.Native.Nat.{ℕ, suc, ◌+◌, ◌≤◌, ◌<◌}
use Rattle.std.specs.Prelude.{◌≡◌, Bool, ◌||◌, eqb, ltb, get_or, drop}
use Rattle.std.proofs.Common.{sym, ◌∙◌, add-one, eq-eqb, ne_eqb, lt-ltb, le-ltb, ltb-true, ltb-false, drop_of_length-le}
use Rattle.std.proofs.Math.Bool.{true, false, cond}
use mathlib.Core.List.{List, [], ◌∷◌}
use native.Mathlib.Omega.{arith}
use Rattle.std.proofs.Math.ListN.{length}
use Rattle.std.proofs.Math.Seq.{drop-cons}
use Rattle.floats.specs.Lists.{member, any_of}
use Rattle.floats.specs.Truth.{by_bit}
use Rattle.spline_channels.specs.Channels.{place_of}

module _ {A : Type 0} (p : A → Bool) where
  any_here : (xs : List A) (i : ℕ) (d : A) → i < length xs → any_of p (drop i xs) ≡ (p (get_or xs i d) || any_of p (drop (i + 1) xs))
  unfolding any_of
  any_here xs i d h = rw (add-one, drop-cons xs i d)

  pub any_hit : (xs : List A) (i : ℕ) (d : A) → i < length xs → p (get_or xs i d) ≡ true → any_of p (drop i xs) ≡ true
  any_hit xs i d h e = any_here xs i d h ∙ rw e

  pub any_miss : (xs : List A) (i : ℕ) (d : A) → i < length xs → p (get_or xs i d) ≡ false → any_of p (drop i xs) ≡ any_of p (drop (i + 1) xs)
  any_miss xs i d h e = any_here xs i d h ∙ rw e

  pub any_none : (xs : List A) (i : ℕ) → length xs ≤ i → any_of p (drop i xs) ≡ false
  unfolding any_of
  any_none xs i h = rw (drop_of_length-le xs h)

-- ---- the place of a code, searched from the first on
pub place-hit : (k : ℕ) (cs : List ℕ) (i : ℕ) → i < length cs → get_or cs i 0 ≡ k → i ≡ i + place_of k (drop i cs)
unfolding place_of
place-hit k cs i h e = rw (drop-cons cs i 0 h, eq-eqb (get_or cs i 0) k e) (omega arith)

pub place-miss : (k : ℕ) (cs : List ℕ) (i : ℕ) → i < length cs → (get_or cs i 0 ≡ k → ⊥) → i + place_of k (drop i cs) ≡ i + 1 + place_of k (drop (i + 1) cs)
unfolding place_of
place-miss k cs i h e = rw (drop-cons cs i 0 h, ne_eqb (get_or cs i 0) k e, add-one i) (omega arith)

pub place_end : (k : ℕ) (cs : List ℕ) (i : ℕ) → length cs ≤ i → i ≡ i + place_of k (drop i cs)
unfolding place_of
place_end k cs i h = rw (drop_of_length-le cs h) (omega arith)

-- a code is listed where its place is one of the list's
pub member-placed : (k : ℕ) (xs : List ℕ) → ltb (place_of k xs) (length xs) ≡ member k xs
unfolding member place_of
member-placed k [] = le-ltb 0 0 (omega arith)
member-placed k (x ∷ xs) = one (eqb x k) (member-placed k xs)
  where
    next : (m n : ℕ) → ltb (m + 1) (suc n) ≡ ltb m n
    next m n = by_bit (ltb m n)
        (λ b. lt-ltb (m + 1) (suc n) (omega (arith, ltb-true m n b)) ∙ sym b)
        (λ b. le-ltb (m + 1) (suc n) (omega (arith, ltb-false m n b)) ∙ sym b)

    one : (b : Bool) → ltb (place_of k xs) (length xs) ≡ member k xs → ltb (cond b 0 (place_of k xs + 1)) (suc (length xs)) ≡ (b || member k xs)
    one true e = lt-ltb 0 (suc (length xs)) (omega arith)
    one false e = next (place_of k xs) (length xs) ∙ e
