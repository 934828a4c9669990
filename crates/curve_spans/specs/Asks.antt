-- CONTRACTS. What the spans of a B-spline ask. Assumes nothing.
use Rattle.std.specs.Prelude.{◌≡◌, List, ℕ, Float}
use Rattle.curve_walk.specs.declared.Form.TheVariants.{Basis}
use Rattle.curve_walk.specs.declared.Shape.{Shape}
use Rattle.curve_walk.specs.Asks.{Tables}

-- of one of degree p
pub record Spans (s : Shape) (p : ℕ) (ks cs : List Float) : Type 0 where
  pub tables : Tables s ks cs
  pub form : s.form ≡ Basis p
