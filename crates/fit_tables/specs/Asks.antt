-- CONTRACTS. What laying a fit's tables asks and leaves. Assumes nothing.
use Rattle.std.specs.Prelude.{◌≡◌, Bool, List, ℕ, ◌*◌, ◌<◌, Float}
use Rattle.floats.specs.Numbers.{at}
use Rattle.floats.specs.Lists.{rows_of}
use Rattle.layout.specs.Layout.{most_points}
use Rattle.curve_metric.specs.Metric.{chords}
use Rattle.fit_slopes.specs.Sizes.{small_points}
use Rattle.fit_knots.specs.Prepare.{FitReady}
use Rattle.fit_knots.specs.Memory.{fit_times, fit_points, fit_slopes}

-- channels that work memory is made for: few, and as many as are usual
abbrev few_channels : ℕ
few_channels = 4

abbrev pub usual_channels : ℕ
usual_channels = 10

-- numbers that it has room for, points times channels
abbrev pub small_numbers : ℕ
small_numbers = usual_channels * small_points

abbrev pub large_numbers : ℕ
large_numbers = few_channels * most_points

abbrev pub wide_numbers : ℕ
wide_numbers = usual_channels * most_points

-- the tables of a fit: the chord sums of the n points first, then the fit
pub record Fitted (cubic : Bool) (n ch : ℕ) (ms : List ℕ) (pts : List Float) (m : ℕ) (ks cs : List Float) : Type 0 where
  pub sums : (i : ℕ) → i < n → at ks i ≡ at (chords (rows_of pts ch n) ms) i
  pub fit : FitReady cubic (rows_of pts ch n) (chords (rows_of pts ch n) ms) n ch (fit_times n ks) (fit_points (n * ch) cs) (fit_slopes (n * ch) cs) m
