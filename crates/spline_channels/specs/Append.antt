-- LAWS. Appending: a slice whose first elements are written one after another. Assumes nothing.
use Rattle.std.specs.Prelude.{ℕ, ◌+◌, ◌≤◌, ◌<◌, ◌≡◌, refl, Bool, true, false, List, [], ◌∷◌, ◌++◌, length, get_or, take, set}
use Rattle.std.proofs.Common.{sym, ◌∙◌, ap, append-nil, append_assoc, add_assoc, arith, length-append, length-set, length-take-le, take_at, take-take}
use Rattle.std.proofs.Common.{take_all, take-suc-set}
use Rattle.std.proofs.Math.Numerals.{add-one}
use Rattle.floats.specs.Lists.{upto, keep}
use Rattle.spline_channels.specs.Gathers.{Appended}
use Rattle.spline_channels.specs.Keeps.{keep-yes, keep-no, keep-next}

module _ {A : Type 0} where
  pub appended_none : {n : ℕ} {xs : List A} → Appended [] n xs xs n
  appended_none {n} {xs} = record { same = refl; count = omega arith; is = sym (append-nil (take n xs)) }

  pub appended_one : {n : ℕ} {xs : List A} {v : A} → n < length xs → Appended (v ∷ []) n xs (set xs n v) (n + 1)
  appended_one {n} {xs} {v} h = record { same = length-set xs n v; count = omega arith; is = rw add-one (take-suc-set xs n v h) }

  pub appended_then : {a b : List A} {n m p : ℕ} {xs ys zs : List A} → Appended a n xs ys m → Appended b m ys zs p → Appended (a ++ b) n xs zs p
  appended_then {a} {b} {n} {m} {p} {xs} {ys} {zs} f g = record {
    same = g.same ∙ f.same;
    count = g.count ∙ ap (λ (k : ℕ). k + length b) f.count ∙ add_assoc n (length a) (length b) ∙ ap (λ (k : ℕ). n + k) (sym (length-append a b));
    is = g.is ∙ ap (λ (l : List A). l ++ b) f.is ∙ append_assoc (take n xs) a b;
  }

  -- what stood there before still does
  pub appended_before : {new : List A} {n m : ℕ} {xs ys : List A} → Appended new n xs ys m → n ≤ length xs → take n ys ≡ take n xs
  appended_before {new} {n} {m} {xs} {ys} f h =
      sym (take-take n m ys (omega (arith, f.count))) ∙ ap (take n) f.is ∙ take_at (take n xs) new n (length-take-le n xs h)

  -- one element, where it passes
  pub appended_kept : (p : A → Bool) (v : A) {n : ℕ} {xs : List A} → p v ≡ true → n < length xs → Appended (keep p (v ∷ [])) n xs (set xs n v) (n + 1)
  appended_kept p v e h = rw (keep-yes p v e) (appended_one h)

  pub appended_left : (p : A → Bool) (v : A) {n : ℕ} {xs : List A} → p v ≡ false → Appended (keep p (v ∷ [])) n xs xs n
  appended_left p v e = rw (keep-no p v e) appended_none

  -- the same list, written otherwise
  pub appended_as : {a b : List A} {n m : ℕ} {xs ys : List A} → a ≡ b → Appended a n xs ys m → Appended b n xs ys m
  appended_as {a} {b} {n} {m} {xs} {ys} e f = rw e at f

  -- of a list, one element more
  pub appended_next : (p : A → Bool) (l : List A) (i : ℕ) (d : A) {n m r : ℕ} {xs ys zs : List A} → i < length l
      → Appended (keep p (take i l)) n xs ys m → Appended (keep p (get_or l i d ∷ [])) m ys zs r → Appended (keep p (take (i + 1) l)) n xs zs r
  appended_next p l i d h f g = appended_as (sym (keep-next p l i d h)) (appended_then f g)

  pub appended_all : (p : A → Bool) (l : List A) (i : ℕ) {n m : ℕ} {xs ys : List A} → length l ≤ i
      → Appended (keep p (take i l)) n xs ys m → Appended (keep p l) n xs ys m
  appended_all p l i h f = appended_as (ap (keep p) (take_all i l h)) f

  -- of f 0, f 1, .. , one more
  pub appended_upto : (f : ℕ → A) (i : ℕ) {n m r : ℕ} {xs ys zs : List A}
      → Appended (upto f i) n xs ys m → Appended (f i ∷ []) m ys zs r → Appended (upto f (i + 1)) n xs zs r
  unfolding upto
  appended_upto f i g h = rw add-one (appended_then g h)

  -- and the count
  pub appended_to : {new : List A} {n m k : ℕ} {xs ys : List A} → Appended new n xs ys m → k ≡ m → Appended new n xs ys k
  appended_to {new} {n} {m} {k} {xs} {ys} f e = rw (sym e) at f

  -- from the first place on, what stood there does not matter
  pub appended_fresh : {new : List A} {m : ℕ} {xs ys zs : List A} → length ys ≡ length xs → Appended new 0 ys zs m → Appended new 0 xs zs m
  appended_fresh e f = record { same = f.same ∙ e; count = f.count; is = f.is }
