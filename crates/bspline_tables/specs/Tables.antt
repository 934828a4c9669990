-- CONTRACTS. The tables that a B-spline is evaluated from, and its point as they give it. Assumes nothing.
use Rattle.std.specs.Prelude.{List, ◌≡◌, cond, ℕ, zero, suc, ◌+◌, ◌-◌, ◌*◌, ◌<◌, ◌≤◌, ltb, length, take, drop, Float}
use Rattle.std.specs.Float.Ieee.{lt, le}
use Rattle.floats.specs.Numbers.{◌⊗◌, ◌⊘◌, of_nat, f0, held_in, at}
use Rattle.floats.specs.Lists.{upto, row, Agrees}
use Rattle.layout.specs.Layout.{axis_codes, most_points}
use Rattle.whole.specs.Whole.{trunc_count}
use Rattle.bspline_tables.specs.Basis.{degree_of, knots, levels, knot_sum}

-- number i of channel c, weighted; channel ch has the weights
unfoldable pub control_at : List Float → List Float → ℕ → ℕ → ℕ → Float
control_at pts ws ch c i = cond (ltb c ch) (at pts (i * ch + c) ⊗ at ws i) (at ws i)

-- f c is row c of the m rows of w cells
pub record Rows (xs : List Float) (w m : ℕ) (f : ℕ → List Float) : Type 0 where
  pub is : (c : ℕ) → c < m → row xs w c ≡ f c

-- the knot span of u, of n control points
unfoldable pub span_in : ℕ → ℕ → Float → ℕ
span_in n p u = cond (le (of_nat (n - p)) u) (n - 1) (p + trunc_count u)

-- channel c of the control numbers that bear on span k
abbrev pub window : List Float → ℕ → ℕ → ℕ → ℕ → List Float
window cw n p k c = take (p + 1) (drop (k - p) (row cw n c))

-- channel c at u in span k, still weighted
unfoldable pub weighted : List Float → List Float → ℕ → ℕ → Float → ℕ → ℕ → Float
weighted ks cw n p u k c = at (levels ks u p k (window cw n p k c) p) p

abbrev pub held_at : ℕ → ℕ → Float → Float
held_at n p t = held_in f0 (of_nat (n - p)) t

-- channel c at t
unfoldable pub curve_at : List Float → List Float → ℕ → ℕ → ℕ → Float → ℕ → Float
curve_at ks cw n p ch t c =
    let u = held_at n p t in
    let k = span_in n p u in
    weighted ks cw n p u k c ⊘ weighted ks cw n p u k ch

-- the curve as a function of its parameter
abbrev pub curve : List Float → List Float → ℕ → ℕ → ℕ → Float → List Float
curve ks cw n p ch t = upto (curve_at ks cw n p ch t) ch

-- what an evaluation asks of its tables
pub record Curve (ks cw : List Float) (n p ch : ℕ) : Type 0 where
  pub some : 1 ≤ p
  pub under : p < n
  pub few : n ≤ most_points
  pub narrow : ch ≤ axis_codes
  pub knots : n + p < length ks
  pub controls : (ch + 1) * n ≤ length cw
  pub top : at ks n ≡ of_nat (n - p)

-- the tables are those of the control points pts, n of ch numbers each, and of their weights
pub record BasisIs (degree n ch : ℕ) (pts ws : List Float) (p : ℕ) (ks cw : List Float) : Type 0 where
  pub tables : Curve ks cw n p ch
  pub power : p ≡ degree_of n degree
  pub knot : Agrees ks (at (knots n p)) (n + p + 1)
  pub control : Rows cw n (ch + 1) (λ c. upto (control_at pts ws ch c) n)
  pub points : n * ch ≤ length pts
  pub weights : n ≤ length ws

-- the Greville value of control point i, and the owner of t from o on, as the knots give them
unfoldable pub greville_at : List Float → ℕ → ℕ → Float
greville_at ks p i = knot_sum ks i p ⊘ of_nat p

unfoldable pub advanced : List Float → ℕ → Float → ℕ → ℕ → ℕ
advanced ks p t zero o = o
advanced ks p t (suc left) o = let next = advanced ks p t left (o + 1) in cond (lt (greville_at ks p o) t) next o
