-- CONTRACTS. What gathering points asks of its slices and leaves in them. Assumes nothing.
use Rattle.std.specs.Prelude.{ℕ, ◌+◌, ◌*◌, ◌-◌, ◌≡◌, List, [], ◌∷◌, map, length, take, drop, Float}
use Rattle.std.proofs.Math.Option.{Option}
use Rattle.floats.specs.Numbers.{f1}
use Rattle.floats.specs.Lists.{upto, keep, flatten, rows_of}
use Rattle.row_cells.specs.Codes.{geometric_of}
use Rattle.row_cells.specs.Row.{shown, has_point}
use Rattle.spline_points.specs.Points.{start_value, next_point, points_from, weight_of}
use Rattle.spline_channels.specs.Channels.{block_at}
use Rattle.spline_channels.specs.Gathers.{Appended}

-- the curve's start, the point that stands before place n, and the one that follows it
abbrev pub StartPut : ℕ → List ℕ → List ℕ → ℕ → List ℕ → List Float → List Float → Type 0
StartPut start words store held cs xs ys = Appended (map (start_value (shown start words) (upto (block_at store) held)) cs) 0 xs ys (length cs)

abbrev pub point_before : List ℕ → ℕ → List Float → List Float
point_before cs n xs = take (length cs) (drop (n - length cs) xs)

abbrev pub NextPut : List ℕ → List ℕ → ℕ → List Float → List Float → Type 0
NextPut cs row n xs ys = Appended (next_point cs (point_before cs n xs) row) n xs ys (n + length cs)

-- the point and the weight of a row behind n others, where it has one
abbrev pub point_in : List ℕ → List ℕ → List (List ℕ)
point_in axes row = keep (has_point (geometric_of axes)) (row ∷ [])

abbrev pub PointPut : List ℕ → List ℕ → List ℕ → ℕ → List Float → List Float → ℕ → Type 0
PointPut axes row cs n xs ys r =
    let at : ℕ = n * length cs in
    Appended (flatten (points_from cs (point_before cs at xs) (point_in axes row))) at xs ys (r * length cs)

abbrev pub WeightPut : List ℕ → List ℕ → ℕ → List Float → List Float → ℕ → Type 0
WeightPut axes row n xs ys r = Appended (map weight_of (point_in axes row)) n xs ys r

-- those of the held rows, behind the first
abbrev pub points_in : List ℕ → List ℕ → ℕ → List (List ℕ)
points_in axes store held = keep (has_point (geometric_of axes)) (upto (block_at store) held)

abbrev pub PointsPut : List ℕ → List ℕ → ℕ → List ℕ → List Float → List Float → ℕ → Type 0
PointsPut axes store held cs xs ys n =
    Appended (flatten (points_from cs (take (length cs) xs) (points_in axes store held))) (length cs) xs ys (n * length cs)

abbrev pub WeightsPut : List ℕ → List ℕ → ℕ → List Float → List Float → ℕ → Type 0
WeightsPut axes store held xs ys n = Appended (map weight_of (points_in axes store held)) 1 xs ys n

-- ---- the points and weights of a curve
pub record PointsAre (gs : List ℕ) (start : ℕ → Option ℕ) (blocks : List (List ℕ)) (cs : List ℕ) (pts ws : List Float) (n : ℕ) : Type 0 where
  pub count : n ≡ length (keep (has_point gs) blocks) + 1
  pub points : let p : List Float = map (start_value start blocks) cs in rows_of pts (length cs) n ≡ p ∷ points_from cs p (keep (has_point gs) blocks)
  pub weights : take n ws ≡ f1 ∷ map weight_of (keep (has_point gs) blocks)

abbrev pub Path : List ℕ → ℕ → List ℕ → List ℕ → ℕ → List ℕ → List Float → List Float → ℕ → Type 0
Path axes start words store held cs pts ws n = PointsAre (geometric_of axes) (shown start words) (upto (block_at store) held) cs pts ws n
