-- CONTRACTS. How a fit stands in memory: the times of m knots, their points, ch numbers each, the m slopes of each channel. Assumes nothing.
use Rattle.std.specs.Prelude.{◌≡◌, true, List, [], ℕ, ◌+◌, ◌-◌, ◌*◌, ◌<◌, ◌≤◌, length, get_or, take, drop, Float}
use Rattle.std.specs.Float.Ieee.{le}
use Rattle.floats.specs.Numbers.{◌⊖◌, ◌⊘◌, f0, f1, held_in, at}
use Rattle.floats.specs.Lists.{row}
use Rattle.curve_metric.specs.Widest.{widest}
use Rattle.curve_metric.specs.Metric.{point_of}
use Rattle.fit_knots.specs.Fit.{Fit, piece_of, hermite_of}

-- the first n numbers of ts never fall
unfoldable pub Rising : List Float → ℕ → Type 0
Rising ts n = (k : ℕ) → k + 1 < n → le (at ts k) (at ts (k + 1)) ≡ true

-- what an evaluation asks of its slices
pub record Prepared (fts fps slopes : List Float) (m ch : ℕ) : Type 0 where
  pub two : 2 ≤ m
  pub narrow : ch ≤ widest
  pub times : m ≤ length fts
  pub rising : Rising fts m
  pub points : m * ch ≤ length fps
  pub bends : ch * m ≤ length slopes

-- the slices hold the fit
pub record FitIs (fit : Fit) (fts fps slopes : List Float) (m ch : ℕ) : Type 0 where
  pub count : length fit.times ≡ m
  pub times : (k : ℕ) → k < m → at fit.times k ≡ at fts k
  pub points : (w : ℕ) → w < m → point_of fit.points w ≡ row fps ch w
  pub bends : (c w : ℕ) → c < ch → w < m → at (get_or fit.slopes c []) w ≡ at slopes (c * m + w)

-- both
pub record FitHeld (fit : Fit) (fts fps slopes : List Float) (m ch : ℕ) : Type 0 where
  pub room : Prepared fts fps slopes m ch
  pub is : FitIs fit fts fps slopes m ch

-- the cubic piece from time a to time b, at t
unfoldable pub piece_at : Float → Float → Float → Float → Float → Float → Float → Float
piece_at t a b y m z k = hermite_of (held_in f0 f1 ((t ⊖ a) ⊘ (b ⊖ a))) (b ⊖ a) y m z k

-- channel c of the curve at t, read from the slices
unfoldable pub fit_at : List Float → List Float → List Float → ℕ → ℕ → Float → ℕ → Float
fit_at fts fps slopes m ch t c =
    let w = piece_of fts m t in
    piece_at t (at fts w) (at fts (w + 1)) (at fps (w * ch + c)) (at slopes (c * m + w)) (at fps ((w + 1) * ch + c)) (at slopes (c * m + (w + 1)))

-- ---- the tables of a fit of n points: n chord sums, then as many times; the w numbers of the points, then as many slopes
abbrev pub fit_times : ℕ → List Float → List Float
fit_times n ks = take (n + n - n) (drop n ks)

abbrev pub fit_points : ℕ → List Float → List Float
fit_points w cs = take w cs

abbrev pub fit_slopes : ℕ → List Float → List Float
fit_slopes w cs = take (w + w - w) (drop w cs)
