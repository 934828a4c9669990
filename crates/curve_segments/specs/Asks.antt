-- CONTRACTS. What the stretches of a fit ask. Assumes nothing.
use Rattle.std.specs.Prelude.{◌≡◌, List, ℕ, ◌+◌, ◌-◌, ◌*◌, ◌^◌, ◌<◌, ◌≤◌, length, get_or, Float}
use Rattle.layout.specs.Layout.{most_points}
use Rattle.curve_metric.specs.Below.{Below}
use Rattle.curve_metric.specs.Walk.{depth}
use Rattle.fit_knots.specs.Memory.{Rising, fit_times}
use Rattle.curve_walk.specs.declared.Form.{Form}
use Rattle.curve_walk.specs.declared.Form.TheVariants.{Basis, Fit}
use Rattle.curve_walk.specs.declared.Kept.{Kept}
use Rattle.curve_walk.specs.declared.Shape.{Shape}
use Rattle.curve_walk.specs.Asks.{Tables}

-- what a search for a piece of a fit asks
pub record Pieces (s : Shape) (k : Kept) (ks : List Float) : Type 0 where
  pub two : 2 ≤ k.points
  pub times : k.points ≤ length (fit_times s.n ks)
  pub rising : Rising (fit_times s.n ks) k.points
  pub few : s.n ≤ most_points
  pub knots : 2 * s.n ≤ length ks

abbrev pub IsFit : Form → Type 0
IsFit (Basis p) = ⊥
IsFit (Fit k) = Unit

-- what the stretches ask: the tables of a fit, and its n points
pub record Segments (s : Shape) (ms : List ℕ) (pts ks cs : List Float) : Type 0 where
  pub kind : IsFit s.form
  pub tables : Tables s ks cs
  pub metric : Below ms s.ch
  pub two : 2 ≤ s.n
  pub points : s.n * s.ch ≤ length pts

-- what counting one stretch asks
pub record FreshAt (s : Shape) (i : ℕ) (l : List ℕ) : Type 0 where
  pub here : i + 1 ≤ s.n - 1
  pub table : s.n - 1 ≤ length l
  pub none : get_or l i 0 ≡ 0
  pub small : (k : ℕ) → k < s.n - 1 → get_or l k 0 ≤ 2 ^ depth
