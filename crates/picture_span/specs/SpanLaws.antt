-- LAWS. The lower of two numbers. Assumes nothing.
use Rattle.std.specs.Prelude.{ℕ, ◌≤◌, ◌≡◌, refl, Bool, true, false, cond, ltb}
use Rattle.std.proofs.Common.{arith, ltb-false}
use Rattle.picture_span.specs.Span.{lower_of}

pub lower_second : (a b : ℕ) → lower_of a b ≤ b
unfolding lower_of
lower_second a b = go (ltb b a) refl
  where
    go : (t : Bool) → ltb b a ≡ t → cond t b a ≤ b
    go true e = omega arith
    go false e = omega (arith, ltb-false b a e)
