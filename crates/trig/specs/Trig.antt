-- DEFINITIONS. Sine, cosine, arc cosine and arc tangent of two arguments, by the step lists of docs/TRIG.md, numbers by their bits. Assumes nothing.
use Rattle.std.specs.Prelude.{cond, Float}
use Rattle.std.specs.Float.{binary64}
use Rattle.std.specs.Float.Ieee.{neg, lt, le, eq}
use Rattle.std.specs.Float.Ieee as Ieee
use Rattle.floats.specs.Numbers.{◌⊕◌, ◌⊖◌, ◌⊗◌, ◌⊘◌, num, f0, f¼, f½, f1, f4, tau}
use Rattle.root.specs.Root.{root}

-- 2 / pi, the number whose sum rounds to whole numbers, and pi / 2 in two parts
abbrev pub two_over_pi : Float
two_over_pi = num 0x3fe45f306dc9c883

abbrev pub magic : Float
magic = num 0x4338000000000000

abbrev pub pi_half_a : Float
pi_half_a = num 0x3ff921fb54442000

abbrev pub pi_half_b : Float
pi_half_b = num 0x3d6a308d313198a3

-- the whole number nearest to x, ties to even, of an x below 2 ^ 51 in size
abbrev pub whole : Float → Float
whole x = (x ⊕ magic) ⊖ magic

abbrev pub reduced : Float → Float → Float
reduced x k = (x ⊖ k ⊗ pi_half_a) ⊖ k ⊗ pi_half_b

abbrev pub sin_of : Float → Float → Float → Float
sin_of r z zz =
    r ⊕ (r ⊗ z) ⊗ ((num 0xbfc555555555553d ⊕ z ⊗ num 0x3f8111111110ea87)
    ⊕ zz ⊗ ((num 0xbf2a01a019aa371b ⊕ z ⊗ num 0x3ec71de3467571c9)
    ⊕ zz ⊗ (num 0xbe5ae5da9ea69140 ⊕ z ⊗ num 0x3de5d61cffa10a02)))

abbrev pub cos_of : Float → Float → Float
cos_of z zz =
    f1 ⊖ (f½ ⊗ z ⊖ zz ⊗ ((num 0x3fa555555555554c ⊕ z ⊗ num 0xbf56c16c16c1521f)
    ⊕ zz ⊗ ((num 0x3efa01a019cbf626 ⊕ z ⊗ num 0xbe927e4f812b61de)
    ⊕ zz ⊗ (num 0x3e21ee9f1523ec55 ⊕ z ⊗ num 0xbda8fb130c41847d))))

-- which quarter of the turn k is: 0, 1, -1, and 2 or -2
abbrev pub quarter_of : Float → Float
quarter_of k = k ⊖ f4 ⊗ whole (k ⊗ f¼)

abbrev pub sin_turned : Float → Float → Float → Float
sin_turned q s c = cond (eq q f0) s (cond (eq q f1) c (cond (eq q (neg f1)) (neg c) (neg s)))

abbrev pub cos_turned : Float → Float → Float → Float
cos_turned q s c = cond (eq q f0) c (cond (eq q f1) (neg s) (cond (eq q (neg f1)) s (neg c)))

abbrev pub sin_at : Float → Float → Float
sin_at k r = let z = r ⊗ r in let zz = z ⊗ z in sin_turned (quarter_of k) (sin_of r z zz) (cos_of z zz)

abbrev pub cos_at : Float → Float → Float
cos_at k r = let z = r ⊗ r in let zz = z ⊗ z in cos_turned (quarter_of k) (sin_of r z zz) (cos_of z zz)

unfoldable pub sin_steps : Float → Float
sin_steps x = let k = whole (x ⊗ two_over_pi) in sin_at k (reduced x k)

unfoldable pub cos_steps : Float → Float
cos_steps x = let k = whole (x ⊗ two_over_pi) in cos_at k (reduced x k)

-- ---- tan(pi/8), and angles with the rest that each f64 leaves off
abbrev pub edge : Float
edge = num 0x3fda827999fcef32

abbrev pub pi : Float
pi = num 0x400921fb54442d18

abbrev pub pi_low : Float
pi_low = num 0x3ca1a62633145c07

abbrev pub pi_half : Float
pi_half = num 0x3ff921fb54442d18

abbrev pub pi_half_low : Float
pi_half_low = num 0x3c91a62633145c07

abbrev pub pi_fourth : Float
pi_fourth = num 0x3fe921fb54442d18

abbrev pub pi_fourth_low : Float
pi_fourth_low = num 0x3c81a62633145c07

abbrev pub pi_three_fourths : Float
pi_three_fourths = num 0x4002d97c7f3321d2

abbrev pub pi_three_fourths_low : Float
pi_three_fourths_low = num 0x3c9a79394c9e8a0a

-- ---- the arc tangent of a t of at most 0.415 in size, added to hi + lo
abbrev pub atan_of : Float → Float → Float
atan_of z zz =
    (num 0xbfd5555555554f7f ⊕ z ⊗ num 0x3fc99999998f724f)
    ⊕ zz ⊗ ((num 0xbfc249248ef90a38 ⊕ z ⊗ num 0x3fbc71c5fd34f159)
    ⊕ zz ⊗ ((num 0xbfb745b497f2b7a6 ⊕ z ⊗ num 0x3fb3af6425653ef8)
    ⊕ zz ⊗ ((num 0xbfb0fd6af0721904 ⊕ z ⊗ num 0x3fad09a8e2f9bb2c)
    ⊕ zz ⊗ (num 0xbfa60842d711ed04 ⊕ z ⊗ num 0x3f951f50b7c3f291))))

unfoldable pub atan_from : Float → Float → Float → Float
atan_from hi lo t = let z = t ⊗ t in hi ⊕ (t ⊕ ((t ⊗ z) ⊗ atan_of z (z ⊗ z) ⊕ lo))

-- y is above zero: x at or above zero, x below zero with w for -x
unfoldable pub atan_right : Float → Float → Float
unfolding atan_from
atan_right y x =
    cond (le y (edge ⊗ x)) (atan_from f0 f0 (y ⊘ x))
    (cond (le x (edge ⊗ y)) (atan_from pi_half pi_half_low (neg (x ⊘ y)))
    (atan_from pi_fourth pi_fourth_low ((y ⊖ x) ⊘ (y ⊕ x))))

unfoldable pub atan_left : Float → Float → Float
unfolding atan_from
atan_left y w =
    cond (le y (edge ⊗ w)) (atan_from pi pi_low (neg (y ⊘ w)))
    (cond (le w (edge ⊗ y)) (atan_from pi_half pi_half_low (w ⊘ y))
    (atan_from pi_three_fourths pi_three_fourths_low ((w ⊖ y) ⊘ (w ⊕ y))))

unfoldable pub atan_up : Float → Float → Float
unfolding atan_right atan_left
atan_up y x = cond (lt x f0) (atan_left y (neg x)) (atan_right y x)

-- y is a zero
abbrev pub atan_flat : Float → Float → Float
atan_flat y x = cond (lt (f1 ⊘ x) f0) (cond (lt (f1 ⊘ y) f0) (neg pi) pi) y

unfoldable pub atan2_steps : Float → Float → Float
unfolding atan_up
atan2_steps y x = cond (eq y f0) (atan_flat y x) (cond (lt y f0) (neg (atan_up (neg y) x)) (atan_up y x))

unfoldable pub acos_steps : Float → Float
unfolding atan2_steps
acos_steps x = atan2_steps (root ((f1 ⊖ x) ⊗ (f1 ⊕ x))) x

-- an angle brought to 0 .. tau: Rust's rem_euclid by tau
abbrev pub euclid : Float → Float
euclid x = let r = Ieee.rem binary64 x tau in cond (lt r f0) (r ⊕ tau) r
