-- LAWS. At its last parameter a B-spline is at its last control point, up to the sign of a zero. Assumes nothing.
use Rattle.std.specs.Prelude.{◌≡◌, refl, List, ◌⊎◌, true, false, T, negsuc, length}
use Rattle.std.proofs.Common.{sym, ◌∙◌, inl, inr, lit≤, lt-ltb, le-ltb}
use Rattle.std.proofs.Math.Path.{ap, subst}
use Prim.Native.Nat.{ℕ, zero, suc, ◌+◌, ◌-◌, ◌<◌, ◌≤◌, min}
use native.Mathlib.Omega.{arith}
use Rattle.std.specs.Float.Ieee as Ieee
use Rattle.std.specs.Float.Ieee.{Float, nan, binary64, fits}
use Rattle.std.specs.Float.{fin}
use Rattle.std.specs.Float.Ieee.Fits.{add-fits, mul-fits}
use Rattle.std.specs.Float.Ieee.Scale.{finite}
use Rattle.floats.specs.Numbers.{◌⊕◌, ◌⊖◌, ◌⊗◌, ◌⊘◌, of_nat, f0, f1, 1e-30, abs_of, held_in, at}
use Rattle.floats.specs.Lists.{upto}
use Rattle.floats.specs.Fill.{length-upto, at-upto, lt_or_le}
use Rattle.floats.specs.FloatLaws.{one, naught, tidy, one-is, div_self, sub_self, mul_zero_left, one_by_mul, mul_by_one, div_by_one}
use Rattle.floats.specs.FloatLaws.{add_zero_left, tidy_finite, tidy-nonzero, whole_sub, whole-lt, whole_finite, whole-nonzero}
use Rattle.floats.specs.FloatLaws.{whole_le_self, not-under, modest, modest_finite, mul_finite}
use Rattle.layout.specs.Layout.{most_points}
use Rattle.curve_metric.specs.Metric.{point_of}
use Rattle.bspline_tables.specs.Basis.{Bspline, degree_of, knots, share, raised_at, levels, spans_of, basis_of, span_of, top_of, eval_basis}
use Rattle.bspline_tables.specs.LastOwner.{knot-at}

-- a number that a format holds, like y up to the sign of a zero
record Like (x y : Float) : Type 0 where
  same : tidy x ≡ tidy y
  held : T (fits binary64 x)
  kept : T (finite x)

zero-whole : f0 ≡ of_nat 0
unfolding Ieee.of_bits Ieee.of_int
zero-whole = refl

tiny-is : 1e-30 ≡ fin false 178405961588245 (negsuc 146)
unfolding Ieee.of_bits
tiny-is = refl

not-tiny : (m : ℕ) → 0 < m → m ≤ 1000 → Ieee.lt (abs_of (of_nat m)) 1e-30 ≡ false
not-tiny m p h =
    let a : Ieee.lt f0 (of_nat m) ≡ true = ap (λ (z : Float). Ieee.lt z (of_nat m)) zero-whole ∙ whole-lt 0 m (omega arith) (omega arith) ∙ lt-ltb 0 m p in
    rw (a, tiny-is) (not-under m 178405961588245 146 p (omega arith) (lit≤ tt))

module _ (p n : ℕ) (some : 1 ≤ p) (under : p < n) (few : n ≤ most_points) where
  knot-is : (i v : ℕ) → i < n + p + 1 → min (i - p) (n - p) ≡ v → at (knots n p) i ≡ of_nat v
  knot-is i v h e = knot-at n p i h ∙ ap of_nat e

  -- every share is 1
  share-one : (r j : ℕ) → 1 ≤ r → r ≤ j → j ≤ p → share (knots n p) (of_nat (n - p)) p (n - 1) r j ≡ one
  unfolding share
  share-one r j h g l =
      let lo : at (knots n p) (j + (n - 1) - p) ≡ of_nat (j + (n - 1) - p - p) = knot-is (j + (n - 1) - p) (j + (n - 1) - p - p) (omega arith) (omega arith) in
      let hi : at (knots n p) (j + (n - 1) - p + p + 1 - r) ≡ of_nat (n - p) = knot-is (j + (n - 1) - p + p + 1 - r) (n - p) (omega arith) (omega arith) in
      let x = j + (n - 1) - p - p in
      let d : of_nat (n - p) ⊖ of_nat x ≡ of_nat (n - p - x) = whole_sub (n - p) x (omega arith) (omega arith) in
      let m : 0 < n - p - x = omega arith in
      rw (hi, lo, d, not-tiny (n - p - x) m (omega arith))
      (div_self binary64 (of_nat (n - p - (j + (n - 1) - p - p))) (whole_finite _ (omega arith)) (whole-nonzero _ m (omega arith)))

  mixed : (x y : Float) {a : Float} → a ≡ one → T (finite x) → T (fits binary64 y) → tidy ((f1 ⊖ a) ⊗ x ⊕ a ⊗ y) ≡ tidy y
  mixed x y {a} e fx fy =
      let z : f1 ⊖ one ≡ naught false = ap (λ (w : Float). w ⊖ one) one-is ∙ sub_self binary64 one tt in
      let o : one ⊗ y ≡ y = one_by_mul binary64 y fy in
      rw (e, z, o) (add_zero_left binary64 (naught false ⊗ x) y (mul_zero_left binary64 false x fx) fy)

  mixed_like : (a x y z : Float) → a ≡ one → T (finite x) → Like y z → Like ((f1 ⊖ a) ⊗ x ⊕ a ⊗ y) z
  mixed_like a x y z e fx l =
      let m : tidy ((f1 ⊖ a) ⊗ x ⊕ a ⊗ y) ≡ tidy y = mixed x y e fx l.held in
      record { same = m ∙ l.same; held = add-fits binary64 ((f1 ⊖ a) ⊗ x) (a ⊗ y); kept = tidy_finite ((f1 ⊖ a) ⊗ x ⊕ a ⊗ y) y m l.kept }

  step : (d q : List Float) (r j : ℕ) → suc r ≤ p → j < p + 1 → ((i : ℕ) → i < p + 1 → Like (at q i) (at d i)) → (j < suc r) ⊎ (suc r ≤ j)
      → Like (raised_at (share (knots n p) (of_nat (n - p)) p (n - 1) (suc r)) (suc r) q j) (at d j)
  unfolding raised_at
  step d q r j h g prev (inl lt) = rw (lt-ltb j (suc r) lt) (prev j g)
  step d q r j h g prev (inr ge) =
      rw (le-ltb j (suc r) ge)
      (mixed_like (share (knots n p) (of_nat (n - p)) p (n - 1) (suc r) j) (at q (j - 1)) (at q j) (at d j)
      (share-one (suc r) j (omega arith) ge (omega arith)) (prev (j - 1) (omega arith)).kept (prev j g))

  -- every row stays
  rows_stay : (d : List Float) → length d ≡ p + 1 → ((j : ℕ) → j < p + 1 → T (fits binary64 (at d j)) × T (finite (at d j)))
      → (r : ℕ) → r ≤ p → (j : ℕ) → j < p + 1 → Like (at (levels (knots n p) (of_nat (n - p)) p (n - 1) d r) j) (at d j)
  unfolding levels
  rows_stay d len good zero h j g = record { same = refl; held = (good j g).0; kept = (good j g).1 }
  rows_stay d len good (suc r) h j g =
      let e : at (levels (knots n p) (of_nat (n - p)) p (n - 1) d (suc r)) j
      ≡ raised_at (share (knots n p) (of_nat (n - p)) p (n - 1) (suc r)) (suc r) (levels (knots n p) (of_nat (n - p)) p (n - 1) d r) j =
      at-upto _ (length d) j nan (omega arith) in
      subst (λ (x : Float). Like x (at d j)) (sym e)
      (step d (levels (knots n p) (of_nat (n - p)) p (n - 1) d r) r j h g (rows_stay d len good r (omega arith)) (lt_or_le j (suc r)))

  held-is : held_in f0 (of_nat (n - p)) (of_nat (n - p)) ≡ of_nat (n - p)
  held-is =
      let a : Ieee.lt (of_nat (n - p)) f0 ≡ false =
      ap (Ieee.lt (of_nat (n - p))) zero-whole ∙ whole-lt (n - p) 0 (omega arith) (omega arith) ∙ le-ltb (n - p) 0 (omega arith) in
      let b : Ieee.lt (of_nat (n - p)) (of_nat (n - p)) ≡ false = whole-lt (n - p) (n - p) (omega arith) (omega arith) ∙ le-ltb (n - p) (n - p) (omega arith) in
      rw (a, b)

  -- the top of the triangle is the last row
  end-top : (b : Bspline) → b.power ≡ p → b.knot ≡ knots n p → (f : ℕ → Float) → ((i : ℕ) → i < n → T (fits binary64 (f i)) × T (finite (f i)))
      → Like (top_of b (of_nat (n - p)) (n - 1) f) (f (n - 1))
  unfolding top_of
  end-top b ep ek f good =
      let g : ℕ → Float = λ (j : ℕ). f (j + (n - 1) - p) in
      let rows = upto g (p + 1) in
      let row : (j : ℕ) → j < p + 1 → at rows j ≡ g j = λ j h. at-upto g (p + 1) j nan h in
      let e : p + (n - 1) - p ≡ n - 1 = omega arith in
      let l = rows_stay rows (length-upto _ (p + 1)) (λ j h. rw (row j h) (good (j + (n - 1) - p) (omega arith))) p (omega arith) p (omega arith) in
      rw (ep, ek) (subst (λ (y : Float). Like (at (levels (knots n p) (of_nat (n - p)) p (n - 1) rows p) p) y) (row p (omega arith) ∙ ap f e) l)

  eval_end : (pts : List (List Float)) (ws : List Float) → length pts ≡ n
      → eval_basis (record { power = p; knot = knots n p; points = pts; weights = ws }) (of_nat (n - p))
      ≡ upto (λ (c : ℕ). top_of (record { power = p; knot = knots n p; points = pts; weights = ws }) (of_nat (n - p)) (n - 1)
      (λ (i : ℕ). at (point_of pts i) c ⊗ at ws i)
      ⊘ top_of (record { power = p; knot = knots n p; points = pts; weights = ws }) (of_nat (n - p)) (n - 1) (at ws)) (length (point_of pts 0))
  unfolding eval_basis span_of
  eval_end pts ws len = rw (len, held-is, whole_le_self (n - p) (omega arith))

  end_of : (pts : List (List Float)) (ws : List Float) (c : ℕ) → length pts ≡ n → c < length (point_of pts 0)
      → ((i : ℕ) → i < n → modest (at (point_of pts i) c)) → ((i : ℕ) → i < n → modest (at ws i) × T (fits binary64 (at ws i)))
      → T (fits binary64 (at (point_of pts (n - 1)) c)) → at ws (n - 1) ≡ one
      → tidy (at (eval_basis (record { power = p; knot = knots n p; points = pts; weights = ws }) (of_nat (n - p))) c) ≡ tidy (at (point_of pts (n - 1)) c)
  end_of pts ws c len h small weights fit last =
      let b : Bspline = record { power = p; knot = knots n p; points = pts; weights = ws } in
      let lw = end-top (record { power = p; knot = knots n p; points = pts; weights = ws }) refl refl (at ws)
      (λ i g. ((weights i g).1, modest_finite (at ws i) (weights i g).0)) in
      let lc = end-top (record { power = p; knot = knots n p; points = pts; weights = ws }) refl refl (λ (i : ℕ). at (point_of pts i) c ⊗ at ws i)
      (λ i g. (mul-fits binary64 (at (point_of pts i) c) (at ws i), mul_finite (at (point_of pts i) c) (at ws i) (small i g) (weights i g).0)) in
      let o : top_of (record { power = p; knot = knots n p; points = pts; weights = ws }) (of_nat (n - p)) (n - 1) (at ws) ≡ one =
      tidy-nonzero (top_of (record { power = p; knot = knots n p; points = pts; weights = ws }) (of_nat (n - p)) (n - 1) (at ws)) one
      (lw.same ∙ ap tidy last) tt in
      ap (λ (z : List Float). tidy (at z c)) (eval_end pts ws len)
      ∙ ap tidy (at-upto _ (length (point_of pts 0)) c nan h)
      ∙ rw (
        o,
        div_by_one binary64 (top_of (record { power = p; knot = knots n p; points = pts; weights = ws }) (of_nat (n - p)) (n - 1)
            (λ (i : ℕ). at (point_of pts i) c ⊗ at ws i)) lc.held,
      ) lc.same
      ∙ ap tidy (ap (λ (z : Float). at (point_of pts (n - 1)) c ⊗ z) last ∙ mul_by_one binary64 (at (point_of pts (n - 1)) c) fit)

-- numbers and weights of a modest size, and the last weight 1
pub end-point : (sd : ℕ) (pts : List (List Float)) (ws : List Float) (c : ℕ) → 2 ≤ length pts → length pts ≤ most_points → c < length (point_of pts 0)
    → ((i : ℕ) → i < length pts → modest (at (point_of pts i) c)) → ((i : ℕ) → i < length pts → modest (at ws i) × T (fits binary64 (at ws i)))
    → T (fits binary64 (at (point_of pts (length pts - 1)) c)) → at ws (length pts - 1) ≡ one
    → tidy (at (eval_basis (basis_of sd pts ws) (of_nat (spans_of (basis_of sd pts ws)))) c) ≡ tidy (at (point_of pts (length pts - 1)) c)
unfolding basis_of
end-point sd pts ws c two few h small weights fit last =
    let i = degree_in sd (length pts) two in
    end_of (degree_of (length pts) sd) (length pts) i.0 i.1 few pts ws c refl h small weights fit last
  where
    degree_in : (sd n : ℕ) → 2 ≤ n → (1 ≤ degree_of n sd) × (degree_of n sd < n)
    degree_in sd n k = unfold degree_of in omega arith
