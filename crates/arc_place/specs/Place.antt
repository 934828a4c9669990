-- CONTRACTS. The place of a sample, as the code hands it on. Assumes nothing.
use Rattle.std.specs.Prelude.{◌≡◌, Float}
use Rattle.floats.specs.Numbers.{◌⊕◌, ◌⊗◌}
use Rattle.trig.specs.Trig.{sin_steps, cos_steps}
use Rattle.arc_numbers.specs.Arc.{Arc, angle_at, radius_at}
use Rattle.arc_place.specs.declared.Point.{Point}

-- the point at the fraction f
pub record PointAt (c : Arc) (f : Float) (p : Point) : Type 0 where
  pub u : p.u ≡ c.cu ⊕ radius_at c f ⊗ cos_steps (angle_at c f)
  pub v : p.v ≡ c.cv ⊕ radius_at c f ⊗ sin_steps (angle_at c f)
