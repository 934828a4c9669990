-- DEFINITIONS. What a motion word says: the one place that judges its number. Assumes nothing.
use Rattle.std.specs.Prelude.{ℕ, Bool, true, false, cond, leb, eqb}
use Rattle.motion.specs.declared.Kind.{Kind}
use Rattle.motion.specs.declared.Kind.TheVariants.{Same, Linear, Clockwise, Counter, Akima, Basis, Cubic, Other, Refused}

-- the word of a rapid move, and that of a straight move at feed
abbrev pub g_zero : ℕ
g_zero = 1

abbrev pub g_one : ℕ
g_one = 2

abbrev pub last_motion : ℕ
last_motion = 31

-- 0 none, 1 G0, 2 G1, 3 G2, 4 G3, 5 ASPLINE, 6 BSPLINE, 7 CSPLINE, up to 31 other curve words
unfoldable pub kind_of : ℕ → Kind
kind_of m =
    cond (eqb m 0) Same
    (cond (leb m 2) Linear
    (cond (eqb m 3) Clockwise
    (cond (eqb m 4) Counter
    (cond (eqb m 5) Akima
    (cond (eqb m 6) Basis
    (cond (eqb m 7) Cubic
    (cond (leb m last_motion) Other Refused)))))))

-- a block of this kind is buffered
abbrev pub spline_kind : Kind → Bool
spline_kind Same = false
spline_kind Linear = false
spline_kind Clockwise = false
spline_kind Counter = false
spline_kind Akima = true
spline_kind Basis = true
spline_kind Cubic = true
spline_kind Other = false
spline_kind Refused = false

abbrev pub other_kind : Kind → Bool
other_kind Same = false
other_kind Linear = false
other_kind Clockwise = false
other_kind Counter = false
other_kind Akima = false
other_kind Basis = false
other_kind Cubic = false
other_kind Other = true
other_kind Refused = false

abbrev pub basis_kind : Kind → Bool
basis_kind Same = false
basis_kind Linear = false
basis_kind Clockwise = false
basis_kind Counter = false
basis_kind Akima = false
basis_kind Basis = true
basis_kind Cubic = false
basis_kind Other = false
basis_kind Refused = false

abbrev pub cubic_kind : Kind → Bool
cubic_kind Same = false
cubic_kind Linear = false
cubic_kind Clockwise = false
cubic_kind Counter = false
cubic_kind Akima = false
cubic_kind Basis = false
cubic_kind Cubic = true
cubic_kind Other = false
cubic_kind Refused = false

-- a block of this kind does not go straight: everything but no word, G0 and G1
abbrev pub curve_kind : Kind → Bool
curve_kind Same = false
curve_kind Linear = false
curve_kind Clockwise = true
curve_kind Counter = true
curve_kind Akima = true
curve_kind Basis = true
curve_kind Cubic = true
curve_kind Other = true
curve_kind Refused = true

unfoldable pub is_spline : ℕ → Bool
is_spline m = spline_kind (kind_of m)

unfoldable pub is_other : ℕ → Bool
is_other m = other_kind (kind_of m)

unfoldable pub is_basis : ℕ → Bool
is_basis m = basis_kind (kind_of m)

unfoldable pub is_cubic : ℕ → Bool
is_cubic m = cubic_kind (kind_of m)

unfoldable pub is_curve : ℕ → Bool
is_curve m = curve_kind (kind_of m)

abbrev pub is_rapid : ℕ → Bool
is_rapid m = eqb m g_zero
