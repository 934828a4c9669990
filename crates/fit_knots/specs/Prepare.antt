-- CONTRACTS. What is written where a fit is prepared, and what that asks. Assumes nothing.
use Rattle.std.specs.Prelude.{◌≡◌, Bool, true, cond, List, ℕ, ◌+◌, ◌*◌, ◌-◌, ◌<◌, ◌≤◌, length, get_or, take, Float}
use Rattle.std.specs.Float.Ieee.{le}
use Rattle.floats.specs.Numbers.{at}
use Rattle.floats.specs.Lists.{upto, rows_of}
use Rattle.curve_metric.specs.Widest.{widest}
use Rattle.layout.specs.Layout.{most_points}
use Rattle.fit_knots.specs.Fit.{kept_to, fit_of}
use Rattle.fit_slopes.specs.Slopes.{akima_slope, cubic_slope}
use Rattle.fit_knots.specs.Memory.{FitHeld}

-- the slope of either kind of spline at knot k of n
abbrev pub slope_of : Bool → List Float → List Float → ℕ → ℕ → Float
slope_of cubic ts ys n = cond cubic (cubic_slope ts ys n) (akima_slope ts ys n)

-- time k of the kept points ks, and number c of kept point w
abbrev pub time_at : List Float → List ℕ → ℕ → Float
time_at ts ks k = at ts (get_or ks k 0)

abbrev pub number_at : List Float → ℕ → List ℕ → ℕ → ℕ → Float
number_at pts ch ks w c = at pts (get_or ks w 0 * ch + c)

-- the times of the points ks never fall
unfoldable pub TimesRise : List Float → List ℕ → Type 0
TimesRise ts ks = (k : ℕ) → k + 1 < length ks → le (time_at ts ks k) (time_at ts ks (k + 1)) ≡ true

-- channel c of m points
abbrev pub column_of : List Float → ℕ → ℕ → ℕ → List Float
column_of fps ch m c = upto (λ (w : ℕ). at fps (w * ch + c)) m

-- the slopes of channel c
abbrev pub channel_at : Bool → List Float → List Float → ℕ → ℕ → ℕ → ℕ → Float
channel_at cubic fts fps ch m c = slope_of cubic (take m fts) (column_of fps ch m c) m

-- what preparing a fit of n points asks of its slices
pub record FitRoom (pts ts fts fps slopes : List Float) (n ch : ℕ) : Type 0 where
  pub some : 1 ≤ n
  pub few : n ≤ most_points
  pub narrow : ch ≤ widest
  pub given : n * ch ≤ length pts
  pub sums : n ≤ length ts
  pub times : n ≤ length fts
  pub points : n * ch ≤ length fps
  pub bends : ch * n ≤ length slopes

-- the slices hold the fit through the points ks
abbrev pub Gathered : Bool → List Float → ℕ → ℕ → List Float → List ℕ → List Float → List Float → List Float → Type 0
Gathered cubic pts ch n ts ks fts fps slopes = FitHeld (fit_of cubic (rows_of pts ch n) ts ks) fts fps slopes (length ks) ch

-- m knots are kept, and where they are two or more the slices hold the fit
pub record FitReady (cubic : Bool) (pts : List (List Float)) (ts : List Float) (n ch : ℕ) (fts fps slopes : List Float) (m : ℕ) : Type 0 where
  pub count : m ≡ length (kept_to ts (n - 1))
  pub held : 2 ≤ m → FitHeld (fit_of cubic pts ts (kept_to ts (n - 1))) fts fps slopes m ch
