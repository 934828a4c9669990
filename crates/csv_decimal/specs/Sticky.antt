-- CONTRACTS. A number cut short so that it rounds as before. Assumes nothing.
use Rattle.std.specs.Prelude.{ℕ, ◌/◌, ◌%◌, ◌^◌, ◌<◌, ◌≡◌}

-- d is twice the whole part of a / 1024, and one more where the division leaves a rest
pub record Sticky (a d : ℕ) : Type 0 where
  pub half : d / 2 ≡ a / 1024
  pub exact : a % 1024 ≡ 0 → d % 2 ≡ 0
  pub rest : (a % 1024 ≡ 0 → ⊥) → d % 2 ≡ 1
  pub low : d < 2 ^ 63
