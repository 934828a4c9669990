-- LAWS. What a whole B-spline's samples leave in the counts: for each control point after the start, the length of its run. Assumes nothing.
use mathlib.Core.Path.{◌≡◌, refl, ap, ◌∙◌}
use mathlib.Core.List.{List, [], ◌∷◌, map}
use mathlib.Core.Bool.{Bool, true, false}
use Prim.Native.Nat.{ℕ, suc, ◌+◌, ◌-◌, ◌<◌, ◌≤◌}
use native.Mathlib.Omega.{arith}
use lib.Dec.{eqb}
use lib.ListN.{length, get_or, length-set}
use lib.Seq.{get_or-set_same, get_or-set_other}
use lib.Ieee.{Float}
use borrow.Author.Tests.{eqb-true, eqb-false, eq-eqb, ne_eqb}
use Rattle.floats.specs.Lists.{keep}
use Rattle.floats.specs.Joins.{keep-here, keep-not}
use Rattle.curve_metric.specs.Walk.{Sample}
use Rattle.bspline_tables.specs.Basis.{Bspline, owner_from, Owned, owned, run_of}
use Rattle.bspline_tables.specs.BasisLaws.{owner_in}
use Rattle.curve_walk.specs.Walks.{bumped, counted}

abbrev pub own_from : Bspline → ℕ → Float → ℕ
own_from b o t = owner_from b t (length b.points - 1 - o) o

-- how many points there are
abbrev many : List Owned → ℕ
many l = length (map (λ (s : Owned). s.point) l)

here : (x : Owned) (xs : List Owned) (k : ℕ) → x.owner ≡ k + 1 → length (run_of (x ∷ xs) k) ≡ suc (length (run_of xs k))
unfolding run_of
here x xs k e = ap many (keep-here (λ (s : Owned). eqb s.owner (k + 1)) x xs (eq-eqb x.owner (k + 1) e))

not-here : (x : Owned) (xs : List Owned) (k : ℕ) → (x.owner ≡ k + 1 → ⊥) → length (run_of (x ∷ xs) k) ≡ length (run_of xs k)
unfolding run_of
not-here x xs k e = ap many (keep-not (λ (s : Owned). eqb s.owner (k + 1)) x xs (ne_eqb x.owner (k + 1) e))

none : (k : ℕ) → length (run_of [] k) ≡ 0
unfolding run_of keep
none k = refl

module _ (b : Bspline) where
  pub count-owned : (o : ℕ) (ss : List Sample) (l : List ℕ) (k : ℕ) → 1 ≤ o → o ≤ length b.points - 1 → length b.points - 1 ≤ length l
      → k < length b.points - 1
      → get_or (counted (own_from b) o ss l) k 0 ≡ get_or l k 0 + length (run_of (owned b o ss) k)
  unfolding counted owned
  count-owned o [] l k some h table g = omega (arith, none k)
  count-owned o (s ∷ ss) l k some h table g =
      let i = owner_in b s.time (length b.points - 1 - o) o in
      let ih = count-owned (own_from b o s.time) ss (bumped l (own_from b o s.time - 1)) k (omega arith) (omega arith) (rw length-set table) g in
      go (own_from b o s.time) (eqb (own_from b o s.time) (k + 1)) refl (omega arith) ih
    where
      go : (o' : ℕ) (t : Bool) → eqb o' (k + 1) ≡ t → 1 ≤ o'
          → get_or (counted (own_from b) o' ss (bumped l (o' - 1))) k 0 ≡ get_or (bumped l (o' - 1)) k 0 + length (run_of (owned b o' ss) k)
          → get_or (counted (own_from b) o' ss (bumped l (o' - 1))) k 0
          ≡ get_or l k 0 + length (run_of (record { owner = o'; point = s.point } ∷ owned b o' ss) k)
      go o' true e p ih =
          let is : o' ≡ k + 1 = eqb-true o' (k + 1) e in
          let j : o' - 1 ≡ k = omega arith in
          let v : get_or (bumped l (o' - 1)) k 0 ≡ get_or l k 0 + 1 =
          ap (λ (z : ℕ). get_or (bumped l z) k 0) j ∙ get_or-set_same l k (get_or l k 0 + 1) 0 (omega arith) in
          omega (arith, here (record { owner = o'; point = s.point }) (owned b o' ss) k is)
      go o' false e p ih =
          let v : get_or (bumped l (o' - 1)) k 0 ≡ get_or l k 0 =
          get_or-set_other l (o' - 1) k (get_or l (o' - 1) 0 + 1) 0 (λ z. eqb-false o' (k + 1) e (omega arith)) in
          omega (arith, not-here (record { owner = o'; point = s.point }) (owned b o' ss) k (eqb-false o' (k + 1) e))

  pub count_past : (o : ℕ) (ss : List Sample) (l : List ℕ) (k : ℕ) → 1 ≤ o → o ≤ length b.points - 1 → length b.points - 1 ≤ k
      → get_or (counted (own_from b) o ss l) k 0 ≡ get_or l k 0
  unfolding counted
  count_past o [] l k some h g = refl
  count_past o (s ∷ ss) l k some h g =
      let i = owner_in b s.time (length b.points - 1 - o) o in
      count_past (own_from b o s.time) ss (bumped l (own_from b o s.time - 1)) k (omega arith) (omega arith) g
      ∙ get_or-set_other l (own_from b o s.time - 1) k (get_or l (own_from b o s.time - 1) 0 + 1) 0 (λ z. absurd (omega arith))
