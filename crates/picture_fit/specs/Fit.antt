-- DEFINITIONS. How the box of a picture's points is fitted into the area of the picture. Assumes nothing.
use Rattle.std.specs.Prelude.{ℕ, ◌+◌, ◌-◌, ◌*◌, ◌/◌, ◌≤◌, ◌<◌, true, false, cond, ltb}
use Rattle.picture_span.specs.Span.{lower_of}
use Rattle.picture_fit.specs.declared.Scale.{Scale}
use Rattle.picture_fit.specs.declared.Fit.{Fit}

-- the picture's width in its own units, and the area of the path in it: how wide and high, and how far down its middle is
abbrev pub wide : ℕ
wide = 1000

abbrev pub area_wide : ℕ
area_wide = 940

abbrev pub area_high : ℕ
area_high = 820

abbrev pub middle : ℕ
middle = 440

-- a millimetre in millionths, a unit in their millionths, and that in parts 10^-4
abbrev pub millimetre : ℕ
millimetre = 1000000

abbrev pub unit : ℕ
unit = 1000000000000

abbrev pub fine_unit : ℕ
fine_unit = 10000000000000000

-- ---- a smaller box is not made larger than this one would be: what draws a picture has its limits
abbrev pub least : ℕ
least = 100

unfoldable pub at_least : ℕ → ℕ
at_least w = cond (ltb w least) least w

-- the scale at which w millionths of a millimetre are `units` wide, rounded down: in millionths of a unit a millimetre, or for
-- boxes of a millimetre and more in parts 10^-4 of that
unfoldable pub scale_by : ℕ → ℕ → Scale
scale_by units w =
    let v = at_least w in
    cond (ltb v millimetre) (record { millionths = units * unit / v; fine = false }) (record { millionths = units * fine_unit / v; fine = true })

-- how many units v is drawn over, where w is drawn over `units`
unfoldable pub drawn : ℕ → ℕ → ℕ → ℕ
drawn units v w = lower_of (units * v / at_least w) area_wide

-- 12.5: a box of w by h is drawn as high as the area, or as wide, in its middle; a side below the least one is drawn shorter
unfoldable pub fit_by : ℕ → ℕ → ℕ → ℕ → Fit
fit_by units side w h = record { scale = scale_by units side; left = (wide - drawn units w side) / 2; base = middle + drawn units h side / 2 }

unfoldable pub fit_of : ℕ → ℕ → Fit
fit_of w h = cond (ltb (w * area_high) (h * area_wide)) (fit_by area_high h w h) (fit_by area_wide w w h)

-- ---- numbers that have a text
abbrev pub most_scale : ℕ
most_scale = 1000000000000000

pub record Small (f : Fit) : Type 0 where
  pub scale : f.scale.millionths < most_scale
  pub left : f.left ≤ wide
  pub base : f.base ≤ wide
