-- LAWS. One channel of a point, and all of them. Assumes nothing.
use mathlib.Core.Path.{◌≡◌}
use mathlib.Core.List.{List}
use Prim.Native.Nat.{ℕ, ◌<◌, ◌+◌, ◌*◌}
use borrow.Author.Tests.{lt-ltb}
use lib.Ieee.{Float}
use Rattle.floats.specs.Numbers.{◌⊖◌, ◌⊘◌, f0, f1, held_in, at}
use Rattle.fit_slopes.specs.Slopes.{step}
use Rattle.fit_knots.specs.Fit.{piece_of}
use Rattle.fit_knots.specs.Memory.{piece_at, fit_at}
use Rattle.fit_point.specs.Channels.{BlendIs, blend_of, channel_of}
use Rattle.fit_point.specs.declared.Blend.{Blend}

-- ---- one channel
module _ (b : Blend) (fps slopes : List Float) (m ch w c : ℕ) where
  pub channel_in : {y a z k r : Float} → c < ch
      → y ≡ at fps (w * ch + c) → a ≡ at slopes (c * m + w) → z ≡ at fps ((w + 1) * ch + c) → k ≡ at slopes (c * m + (w + 1))
      → r ≡ blend_of b y a z k → r ≡ channel_of b fps slopes m ch w c
  unfolding channel_of
  channel_in h ey ea ez ek er = rw (er, ey, ea, ez, ek, lt-ltb c ch h)

-- ---- all of them
module _ (fts fps slopes : List Float) (m ch : ℕ) (t : Float) {w : ℕ} {h s : Float} {b : Blend}
    (ew : w ≡ piece_of fts m t) (eh : h ≡ step fts w) (es : s ≡ held_in f0 f1 ((t ⊖ at fts w) ⊘ h)) (eb : BlendIs s h b) where
  pub blended_is : (c : ℕ) → c < ch → channel_of b fps slopes m ch w c ≡ fit_at fts fps slopes m ch t c
  unfolding channel_of fit_at piece_at
  blended_is c l = rw (lt-ltb c ch l, eb.first, eb.rise, eb.last, eb.fall, es, eh, ew)
