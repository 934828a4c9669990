-- LAWS. The tables of a B-spline give its points and its owners. Assumes nothing.
use Rattle.std.specs.Prelude.{◌≡◌, length, take, drop}
use Rattle.std.proofs.Math.Path.{refl, sym, ap}
use Rattle.std.proofs.Common.{◌∙◌, arith, length-drop, ext_get_or, get_or-drop, length-take-le, lt-ltb, le-ltb}
use Rattle.std.proofs.Math.Bool.{cond}
use mathlib.Core.List.{List}
use Prim.Native.Nat.{ℕ, zero, suc, ◌+◌, ◌-◌, ◌<◌, ◌≤◌}
use Rattle.std.proofs.Math.Seq.{get_or-take}
use Rattle.std.specs.Float.Ieee.{Float, nan, lt}
use Rattle.floats.specs.Numbers.{◌⊗◌, ◌⊘◌, of_nat, at}
use Rattle.floats.specs.Lists.{upto, row, rows_of, Agrees}
use Rattle.floats.specs.Fill.{length-upto, at-upto, upto-below}
use Rattle.curve_metric.specs.Metric.{point_of}
use Rattle.curve_metric.specs.Points.{length-rows, point-rows, row_fits_lem, length-row, at_row}
use Rattle.bspline_tables.specs.Basis.{Bspline, knots, share, raised_at, levels, basis_of, span_of, top_of, eval_basis, knot_sum, greville, owner_from}
use Rattle.bspline_tables.specs.Tables.{control_at, window, weighted, span_in, held_at, curve_at, curve, BasisIs, greville_at, advanced}
use Rattle.bspline_tables.specs.Spans.{span-in}

raised_same : (a b : ℕ → Float) (r : ℕ) (d : List Float) (j : ℕ) → a j ≡ b j → raised_at a r d j ≡ raised_at b r d j
unfolding raised_at
raised_same a b r d j e = rw e

-- two lists of knots that agree as far as they are read
module _ (us vs : List Float) (m : ℕ) (same : (i : ℕ) → i < m → at us i ≡ at vs i) where
  share-same : (t : Float) (p k r j : ℕ) → p ≤ k → k + p < m → 1 ≤ r → j < p + 1 → share us t p k r j ≡ share vs t p k r j
  unfolding share
  share-same t p k r j h g hr hj = rw (same (j + k - p) (omega arith), same (j + k - p + p + 1 - r) (omega arith))

  levels-same : (t : Float) (p k : ℕ) (d : List Float) (r : ℕ) → p ≤ k → k + p < m → length d ≡ p + 1 → levels us t p k d r ≡ levels vs t p k d r
  unfolding levels
  levels-same t p k d zero h g n = refl
  levels-same t p k d (suc r) h g n =
      upto-below (raised_at (share us t p k (suc r)) (suc r) (levels us t p k d r)) (raised_at (share vs t p k (suc r)) (suc r) (levels us t p k d r))
      (length d)
      (λ j hj. raised_same (share us t p k (suc r)) (share vs t p k (suc r)) (suc r) (levels us t p k d r) j
      (share-same t p k (suc r) j h g (omega arith) (omega arith)))
      ∙ ap (λ (e : List Float). upto (raised_at (share vs t p k (suc r)) (suc r) e) (length d)) (levels-same t p k d r h g n)

  sum_same : (i k : ℕ) → i + k < m → knot_sum us i k ≡ knot_sum vs i k
  unfolding knot_sum
  sum_same i zero h = refl
  sum_same i (suc k) h = rw (sum_same i k (omega arith), same (i + 1 + k) (omega arith))

-- the curve whose tables they are
abbrev pub plain_of : ℕ → ℕ → ℕ → List Float → List Float → Bspline
plain_of n ch p pts ws = record { power = p; knot = knots n p; points = rows_of pts ch n; weights = take n ws }

module _ {degree n ch : ℕ} {pts ws : List Float} {p : ℕ} {ks cw : List Float} (b : BasisIs degree n ch pts ws p ks cw) where
  pub basis-is : basis_of degree (rows_of pts ch n) (take n ws) ≡ plain_of n ch p pts ws
  unfolding basis_of
  basis-is = rw (length-rows pts ch n, ← b.power)

  same-knots : (i : ℕ) → i < n + p + 1 → at ks i ≡ at (knots n p) i
  unfolding Agrees
  same-knots = b.knot

  window-length : (k c : ℕ) → p ≤ k → k < n → c < ch + 1 → length (window cw n p k c) ≡ p + 1
  window-length k c h g hc =
      let e : length (row cw n c) ≡ n = length-row cw n c (row_fits_lem c (ch + 1) n (length cw) hc b.tables.controls) in
      length-take-le (p + 1) (drop (k - p) (row cw n c)) (rw length-drop (omega arith))

  window-is : (k c : ℕ) (f : ℕ → Float) → p ≤ k → k < n → c < ch + 1 → ((i : ℕ) → i < n → at (row cw n c) i ≡ f i)
      → window cw n p k c ≡ upto (λ (j : ℕ). f (j + k - p)) (p + 1)
  window-is k c f h g hc e =
      let at_row : ℕ → Float = λ (j : ℕ). f (j + k - p) in
      ext_get_or nan (window cw n p k c) (upto at_row (p + 1)) (window-length k c h g hc ∙ sym (length-upto _ (p + 1))) (λ j hj.
      let l : j < p + 1 = omega (arith, window-length k c h g hc) in
      let i : k - p + j ≡ j + k - p = omega arith in
      get_or-take (p + 1) (drop (k - p) (row cw n c)) j nan l ∙ get_or-drop (k - p) (row cw n c) j nan ∙ e (k - p + j) (omega arith)
      ∙ ap f i ∙ sym (at-upto at_row (p + 1) j nan l))

  top-is : (u : Float) (k c : ℕ) (f : ℕ → Float) → p ≤ k → k < n → c < ch + 1 → ((i : ℕ) → i < n → at (row cw n c) i ≡ f i)
      → weighted ks cw n p u k c ≡ top_of (plain_of n ch p pts ws) u k f
  unfolding weighted top_of
  top-is u k c f h g hc e =
      let at_row : ℕ → Float = λ (j : ℕ). f (j + k - p) in
      let long = length-upto at_row (p + 1) in
      ap (λ (d : List Float). at (levels ks u p k d p) p) (window-is k c f h g hc e)
      ∙ ap (λ (d : List Float). at d p) (levels-same ks (knots n p) (n + p + 1) same-knots u p k (upto at_row (p + 1)) p h (omega arith) long)

  channel_is : (c i : ℕ) → c < ch → i < n → at (row cw n c) i ≡ at (point_of (rows_of pts ch n) i) c ⊗ at (take n ws) i
  unfolding control_at
  channel_is c i hc h =
      ap (λ (z : List Float). at z i) (b.control.is c (omega arith)) ∙ at-upto (control_at pts ws ch c) n i nan h
      ∙ rw (lt-ltb c ch hc, point-rows pts ch n i h, at_row pts ch i c hc, get_or-take n ws i nan h)

  weight_is : (i : ℕ) → i < n → at (row cw n ch) i ≡ at (take n ws) i
  unfolding control_at
  weight_is i h =
      ap (λ (z : List Float). at z i) (b.control.is ch (omega arith)) ∙ at-upto (control_at pts ws ch ch) n i nan h
      ∙ rw (le-ltb ch ch (omega arith), get_or-take n ws i nan h)

  first_width : length (point_of (rows_of pts ch n) 0) ≡ ch
  first_width =
      let some : 0 < n = omega (arith, b.tables.under) in
      ap length (point-rows pts ch n 0 some) ∙ length-row pts ch 0 (row_fits_lem 0 n ch (length pts) some b.points)

  eval_plain : (t : Float) → eval_basis (plain_of n ch p pts ws) t
      ≡ upto (λ (c : ℕ). top_of (plain_of n ch p pts ws) (held_at n p t) (span_in n p (held_at n p t))
      (λ (i : ℕ). at (point_of (rows_of pts ch n) i) c ⊗ at (take n ws) i)
      ⊘ top_of (plain_of n ch p pts ws) (held_at n p t) (span_in n p (held_at n p t)) (at (take n ws))) ch
  unfolding eval_basis span_of span_in
  eval_plain t = rw (first_width, length-rows pts ch n)

  -- the tables give the curve's points
  pub curve-is : (t : Float) → curve ks cw n p ch t ≡ eval_basis (basis_of degree (rows_of pts ch n) (take n ws)) t
  unfolding curve_at
  curve-is t =
      let k = span-in n p (held_at n p t) b.tables.under b.tables.few in
      upto-below _ _ ch (λ c hc.
      ap (λ (x : Float). x ⊘ weighted ks cw n p (held_at n p t) (span_in n p (held_at n p t)) ch)
      (top-is (held_at n p t) (span_in n p (held_at n p t)) c (λ (i : ℕ). at (point_of (rows_of pts ch n) i) c ⊗ at (take n ws) i) k.0 k.1 (omega arith)
      (λ i h. channel_is c i hc h))
      ∙ ap (λ (x : Float). top_of (plain_of n ch p pts ws) (held_at n p t) (span_in n p (held_at n p t))
      (λ (i : ℕ). at (point_of (rows_of pts ch n) i) c ⊗ at (take n ws) i) ⊘ x)
      (top-is (held_at n p t) (span_in n p (held_at n p t)) ch (at (take n ws)) k.0 k.1 (omega arith) weight_is))
      ∙ sym (eval_plain t)
      ∙ ap (λ (z : Bspline). eval_basis z t) (sym basis-is)

  greville-is : (i : ℕ) → i < n → greville_at ks p i ≡ greville (plain_of n ch p pts ws) i
  unfolding greville_at greville
  greville-is i h = ap (λ (z : Float). z ⊘ of_nat p) (sum_same ks (knots n p) (n + p + 1) same-knots i p (omega arith))

  owner-plain : (t : Float) (left o : ℕ) → o + left ≤ n → advanced ks p t left o ≡ owner_from (plain_of n ch p pts ws) t left o
  unfolding advanced owner_from
  owner-plain t zero o h = refl
  owner-plain t (suc left) o h =
      ap (λ (z : Float). cond (lt z t) (advanced ks p t left (o + 1)) o) (greville-is o (omega arith))
      ∙ ap (λ (z : ℕ). cond (lt (greville (plain_of n ch p pts ws) o) t) z o) (owner-plain t left (o + 1) (omega arith))

  -- and its owners
  pub owner-is : (t : Float) (left o : ℕ) → o + left ≤ n → advanced ks p t left o ≡ owner_from (basis_of degree (rows_of pts ch n) (take n ws)) t left o
  owner-is t left o h = owner-plain t left o h ∙ ap (λ (z : Bspline). owner_from z t left o) (sym basis-is)

  pub points_are : length (basis_of degree (rows_of pts ch n) (take n ws)).points ≡ n
  points_are = ap (λ (z : Bspline). length z.points) basis-is ∙ length-rows pts ch n

  pub spans_are : length (basis_of degree (rows_of pts ch n) (take n ws)).points - (basis_of degree (rows_of pts ch n) (take n ws)).power ≡ n - p
  spans_are = ap (λ (z : Bspline). length z.points - z.power) basis-is ∙ ap (λ (k : ℕ). k - p) (length-rows pts ch n)
