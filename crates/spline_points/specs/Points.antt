-- DEFINITIONS. From held blocks to points and weights. Assumes nothing.
use Rattle.std.specs.Prelude.{ℕ, List, [], ◌∷◌, map, length, get_or, Float}
use Rattle.std.proofs.Math.Option
use Rattle.std.proofs.Math.Option.{Option}
use Rattle.floats.specs.Numbers.{num, f1, 1e-4, larger_of, at}
use Rattle.floats.specs.Lists.{upto}
use Rattle.layout.specs.Layout.{c_pw}
use Rattle.row_cells.specs.Row.{cell, number}
use Rattle.spline_channels.specs.Channels.{Spline}

-- a channel begins at the curve's start, else at the first number that a block gives it
unfoldable pub first_cell : ℕ → List (List ℕ) → ℕ
first_cell k [] = 0
first_cell k (r ∷ rs) = Option.get_or (cell r k) (first_cell k rs)

abbrev pub start_value : (ℕ → Option ℕ) → List (List ℕ) → ℕ → Float
start_value start blocks k = num (Option.get_or (start k) (first_cell k blocks))

unfoldable pub start_point : Spline → List ℕ → List Float
start_point s cs = map (start_value s.start s.blocks) cs

-- a channel that a block does not program stays where it is
unfoldable pub next_point : List ℕ → List Float → List ℕ → List Float
next_point cs p r = upto (λ (i : ℕ). Option.get_or (number r (get_or cs i 0)) (at p i)) (length cs)

unfoldable pub points_from : List ℕ → List Float → List (List ℕ) → List (List Float)
points_from cs p [] = []
points_from cs p (r ∷ rs) = let q = next_point cs p r in q ∷ points_from cs q rs

-- a point weighs its PW, at least 1e-4, and 1 where it has none
unfoldable pub weight_of : List ℕ → Float
weight_of r = larger_of (Option.get_or (number r c_pw) f1) 1e-4
