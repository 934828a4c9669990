-- DEFINITIONS. A piece of a fit at one place of it, channel by channel. Assumes nothing.
use Rattle.std.specs.Prelude.{List, ◌≡◌, cond, ℕ, ◌+◌, ◌*◌, ltb, Float}
use Rattle.floats.specs.Numbers.{◌⊕◌, ◌⊗◌, f0, at}
use Rattle.fit_knots.specs.Fit.{h00, h10, h01, h11}
use Rattle.fit_point.specs.declared.Blend.{Blend}

-- what the ends and the slopes are multiplied by at the fraction s of a step h
pub record BlendIs (s h : Float) (b : Blend) : Type 0 where
  pub first : b.y ≡ h00 s
  pub rise : b.m ≡ h10 s ⊗ h
  pub last : b.z ≡ h01 s
  pub fall : b.k ≡ h11 s ⊗ h

abbrev pub blend_of : Blend → Float → Float → Float → Float → Float
blend_of b y m z k = b.y ⊗ y ⊕ b.m ⊗ m ⊕ b.z ⊗ z ⊕ b.k ⊗ k

-- channel c of the piece after knot w; 0 where there is none
unfoldable pub channel_of : Blend → List Float → List Float → ℕ → ℕ → ℕ → ℕ → Float
channel_of b fps slopes m ch w c =
    cond (ltb c ch) (blend_of b (at fps (w * ch + c)) (at slopes (c * m + w)) (at fps ((w + 1) * ch + c)) (at slopes (c * m + (w + 1)))) f0
