-- CONTRACTS. What preparing, counting and writing a curve's runs ask, and what they leave. Assumes nothing.
use Rattle.std.specs.Prelude.{◌≡◌, true, false, List, ℕ, ◌+◌, ◌*◌, ◌≤◌, length, Float}
use Rattle.layout.specs.Layout.{axis_codes, most_points}
use Rattle.motion.specs.Motion.{basis_kind, cubic_kind}
use Rattle.curve_metric.specs.Below.{Below}
use Rattle.fit_tables.specs.Asks.{Fitted}
use Rattle.bspline_tables.specs.Tables.{BasisIs}
use Rattle.curve_walk.specs.declared.Form.{Form}
use Rattle.curve_walk.specs.declared.Form.TheVariants.{Basis, Fit}
use Rattle.curve_walk.specs.declared.Kept.{Kept}
use Rattle.curve_walk.specs.declared.Shape.{Shape}
use Rattle.curve_walk.specs.Asks.{Recalls}
use Rattle.curve_drawing.specs.declared.Drawing.{Drawing}
use Rattle.curve_runs.specs.Lefts.{curve_lefts}

-- the tables are in this form those of a drawing's points
pub record LaidBasis (p : ℕ) (d : Drawing) (pts ws ks cs : List Float) : Type 0 where
  pub kind : basis_kind d.kind ≡ true
  pub tables : BasisIs d.degree d.n d.ch pts ws p ks cs

pub record LaidFit (k : Kept) (d : Drawing) (ms : List ℕ) (pts ks cs : List Float) : Type 0 where
  pub kind : basis_kind d.kind ≡ false
  pub tables : Fitted (cubic_kind d.kind) d.n d.ch ms pts k.points ks cs

abbrev pub Laid : Form → Drawing → List ℕ → List Float → List Float → List Float → List Float → Type 0
Laid (Basis p) d ms pts ws ks cs = LaidBasis p d pts ws ks cs
Laid (Fit k) d ms pts ws ks cs = LaidFit k d ms pts ks cs

-- room for the table of n points of ch numbers: of a fit these and as many slopes, of a B-spline these and the weights
pub record Controls (n ch : ℕ) (cs : List Float) : Type 0 where
  pub fit : 2 * (n * ch) ≤ length cs
  pub basis : (ch + 1) * n ≤ length cs

-- what a curve's preparation leaves, for the counting and the writing of its runs
pub record Ready (d : Drawing) (f : Form) (ms : List ℕ) (pts ws ks cs : List Float) : Type 0 where
  pub two : 2 ≤ d.n
  pub few : d.n ≤ most_points
  pub narrow : d.ch ≤ axis_codes
  pub metric : Below ms d.ch
  pub points : d.n * d.ch ≤ length pts
  pub knots : 2 * d.n ≤ length ks
  pub controls : 2 * (d.n * d.ch) ≤ length cs
  pub laid : Laid f d ms pts ws ks cs

-- the memory is of the whole curve
pub record Remembers (s : Shape) (ms : List ℕ) (pts ks cs : List Float) (lefts : List ℕ) : Type 0 where
  pub all : Recalls lefts 0 (curve_lefts s ms pts ks cs)
