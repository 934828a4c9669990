-- LAWS. How large the numbers of a fit are; and a box that is fitted is no wider and no higher than the area. Assumes nothing.
use Rattle.std.specs.Prelude.{ℕ, ◌*◌, ◌/◌, ◌≤◌, ◌<◌, ◌≡◌, refl, Bool, true, false, cond, ltb}
use Rattle.std.proofs.Common.{arith, div-mul-le_self, mul-le-mul_left, mul-le-mul_right, mul_assoc, le_trans, ltb-true, ltb-false}
use Rattle.picture_span.specs.Span.{widest}
use Rattle.picture_fit.specs.declared.Scale.{Scale}
use Rattle.picture_fit.specs.Fit.{area_wide, area_high, millimetre, unit, fine_unit, least, at_least}
use Rattle.picture_fit.specs.Fit.{scale_by, fit_by, fit_of, most_scale}

-- ---- numbers that stay in their width
pub product_small : (a b : ℕ) → a ≤ area_wide → b ≤ widest → a * b ≤ 1880000000000000000
product_small a b h k = let p = mul-le-mul_right b h in omega arith

pub share-small : (n w : ℕ) → 0 < w → n < most_scale → n / w < most_scale
share-small n w p h = let q = mul-le-mul_left (n / w) p in omega (arith, div-mul-le_self n w)

pub fine-small : (n w : ℕ) → millimetre ≤ w → n ≤ 9400000000000000000 → n / w < most_scale
fine-small n w p h = let q = mul-le-mul_left (n / w) p in omega (arith, div-mul-le_self n w)

-- ---- the box lies in the area: at the scale, which is a number of `parts` a unit, it is no wider and no higher
abbrev pub parts : Scale → ℕ
parts s = cond s.fine fine_unit unit

abbrev scale_in : ℕ → ℕ → Bool → Scale
scale_in units v b = cond b (record { millionths = units * unit / v; fine = false }) (record { millionths = units * fine_unit / v; fine = true })

pub at-least : (w : ℕ) → w ≤ at_least w
unfolding at_least
at-least w = go (ltb w least) refl
  where
    go : (b : Bool) → ltb w least ≡ b → w ≤ cond b least w
    go true e = omega (arith, ltb-true w least e)
    go false e = omega arith

pub scaled_within : (units w : ℕ) → (scale_by units w).millionths * w ≤ units * parts (scale_by units w)
unfolding scale_by
scaled_within units w = go (at_least w) (ltb (at_least w) millimetre) (at-least w)
  where
    go : (v : ℕ) (b : Bool) → w ≤ v → (scale_in units v b).millionths * w ≤ units * parts (scale_in units v b)
    go v true h = le_trans (mul-le-mul_left (units * unit / v) h) (div-mul-le_self (units * unit) v)
    go v false h = le_trans (mul-le-mul_left (units * fine_unit / v) h) (div-mul-le_self (units * fine_unit) v)

-- what is less wide for its share of the area is drawn less wide
tall_wide : (q w h u : ℕ) → w * area_high ≤ h * area_wide → q * h ≤ area_high * u → q * w ≤ area_wide * u
tall_wide q w h u l k =
    let x = mul-le-mul_left q l in
    let a = mul_assoc q w area_high in
    let b = mul_assoc q h area_wide in
    omega arith

wide_high : (q w h u : ℕ) → h * area_wide ≤ w * area_high → q * w ≤ area_wide * u → q * h ≤ area_high * u
wide_high q w h u l k =
    let x = mul-le-mul_left q l in
    let a = mul_assoc q w area_high in
    let b = mul_assoc q h area_wide in
    omega arith

pub record InArea (w h : ℕ) (s : Scale) : Type 0 where
  pub wide : s.millionths * w ≤ area_wide * parts s
  pub high : s.millionths * h ≤ area_high * parts s

abbrev fit_in : ℕ → ℕ → Bool → Scale
fit_in w h b = cond b (scale_by area_high h) (scale_by area_wide w)

fit-scale : (w h : ℕ) → (fit_of w h).scale ≡ fit_in w h (ltb (w * area_high) (h * area_wide))
unfolding fit_of fit_by
fit-scale w h = go (ltb (w * area_high) (h * area_wide))
  where
    go : (b : Bool) → (cond b (fit_by area_high h w h) (fit_by area_wide w w h)).scale ≡ fit_in w h b
    go true = refl
    go false = refl

pub in_area : (w h : ℕ) → InArea w h (fit_of w h).scale
in_area w h = rw (fit-scale w h) (go (ltb (w * area_high) (h * area_wide)) refl)
  where
    go : (b : Bool) → ltb (w * area_high) (h * area_wide) ≡ b → InArea w h (fit_in w h b)
    go true e =
        let s = scale_by area_high h in
        let k = scaled_within area_high h in
        record { wide = tall_wide s.millionths w h (parts s) (omega (arith, ltb-true (w * area_high) (h * area_wide) e)) k; high = k }
    go false e =
        let s = scale_by area_wide w in
        let k = scaled_within area_wide w in
        record { wide = k; high = wide_high s.millionths w h (parts s) (omega (arith, ltb-false (w * area_high) (h * area_wide) e)) k }
