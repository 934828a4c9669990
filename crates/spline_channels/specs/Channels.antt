-- DEFINITIONS. What a spline is, its blocks with a point, its channels and their places. Assumes nothing.
use Rattle.std.specs.Prelude.{ℕ, ◌+◌, ◌*◌, cond, not, ◌&&◌, List, [], ◌∷◌, ◌++◌, eqb, take, drop, Float}
use Rattle.std.proofs.Math.Option.{Option}
use Rattle.floats.specs.Lists.{upto, keep, member}
use Rattle.layout.specs.Layout.{row_words}
use Rattle.row_cells.specs.Codes.{geometric_of}
use Rattle.row_cells.specs.Row.{shown, present_of, has_point}
use Rattle.row_cells.specs.Bits.{has}

-- what a spline is made of: its word, degree, tolerance, geometric axes, curve start, blocks
pub record Spline : Type 0 where
  pub motion : ℕ
  pub power : ℕ
  pub tol : Float
  pub axes : List ℕ
  pub start : ℕ → Option ℕ
  pub blocks : List (List ℕ)

-- the blocks with a point
unfoldable pub point_rows : Spline → List (List ℕ)
point_rows s = keep (has_point s.axes) s.blocks

-- a channel is an axis that some block programs; the first to program one goes first, within a block the list's order
unfoldable pub channels_from : List ℕ → List ℕ → List (List ℕ) → List ℕ
channels_from gs cs [] = cs
channels_from gs cs (r ∷ rs) = channels_from gs (cs ++ keep (λ (k : ℕ). has (present_of r) k && not (member k cs)) gs) rs

unfoldable pub channels : Spline → List ℕ
channels s = channels_from s.axes [] s.blocks

-- the place of channel k, their number where it is none
unfoldable pub place_of : ℕ → List ℕ → ℕ
place_of k [] = 0
place_of k (c ∷ cs) = let more = place_of k cs + 1 in cond (eqb c k) 0 more

-- the row held at place i of a store, the rows held, and the spline that they are
unfoldable pub block_at : List ℕ → ℕ → List ℕ
block_at store i = take row_words (drop (i * row_words) store)

abbrev pub spline_of : ℕ → ℕ → Float → List ℕ → ℕ → List ℕ → List ℕ → ℕ → Spline
spline_of motion power tol axes start words store held =
    record {
      motion = motion;
      power = power;
      tol = tol;
      axes = geometric_of axes;
      start = shown start words;
      blocks = upto (block_at store) held;
    }
