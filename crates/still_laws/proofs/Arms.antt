-- Where the code names some kinds and leaves the rest to `_`: what each arm answers, by the places of its kinds. Assumes nothing.
use Prim.Native.Nat.{ℕ}
use mathlib.Core.Path.{◌≡◌, refl}
use mathlib.Core.Bool.{true, false}
use mathlib.Core.List.{List, [], ◌∷◌}
use types.Run.{OneOf, miss}
use denote.Enum.Declared.{tag_of}
use Rattle.motion.specs.declared.Kind.{Kind}
use Rattle.motion.specs.declared.Kind.TheVariants.{Same, Linear, Clockwise, Counter, Akima, Basis, Cubic, Other, Refused}
use Rattle.motion.specs.Motion.{spline_kind, other_kind, basis_kind, cubic_kind, curve_kind}
use Rattle.motion.specs.contracts.Kind.{the_type}

abbrev named-spline-places : List ℕ
named-spline-places = 4 ∷ 5 ∷ 6 ∷ []

pub named-spline : (k : Kind) → OneOf named-spline-places (tag_of the_type k) → true ≡ spline_kind k
named-spline Same h = absurd (miss named-spline-places 0 tt h)
named-spline Linear h = absurd (miss named-spline-places 1 tt h)
named-spline Clockwise h = absurd (miss named-spline-places 2 tt h)
named-spline Counter h = absurd (miss named-spline-places 3 tt h)
named-spline Akima h = refl
named-spline Basis h = refl
named-spline Cubic h = refl
named-spline Other h = absurd (miss named-spline-places 7 tt h)
named-spline Refused h = absurd (miss named-spline-places 8 tt h)

abbrev rest-spline-places : List ℕ
rest-spline-places = 0 ∷ 1 ∷ 2 ∷ 3 ∷ 7 ∷ 8 ∷ []

pub rest-spline : (k : Kind) → OneOf rest-spline-places (tag_of the_type k) → false ≡ spline_kind k
rest-spline Same h = refl
rest-spline Linear h = refl
rest-spline Clockwise h = refl
rest-spline Counter h = refl
rest-spline Akima h = absurd (miss rest-spline-places 4 tt h)
rest-spline Basis h = absurd (miss rest-spline-places 5 tt h)
rest-spline Cubic h = absurd (miss rest-spline-places 6 tt h)
rest-spline Other h = refl
rest-spline Refused h = refl

abbrev rest-other-places : List ℕ
rest-other-places = 0 ∷ 1 ∷ 2 ∷ 3 ∷ 4 ∷ 5 ∷ 6 ∷ 8 ∷ []

pub rest-other : (k : Kind) → OneOf rest-other-places (tag_of the_type k) → false ≡ other_kind k
rest-other Same h = refl
rest-other Linear h = refl
rest-other Clockwise h = refl
rest-other Counter h = refl
rest-other Akima h = refl
rest-other Basis h = refl
rest-other Cubic h = refl
rest-other Other h = absurd (miss rest-other-places 7 tt h)
rest-other Refused h = refl

abbrev rest-basis-places : List ℕ
rest-basis-places = 0 ∷ 1 ∷ 2 ∷ 3 ∷ 4 ∷ 6 ∷ 7 ∷ 8 ∷ []

pub rest-basis : (k : Kind) → OneOf rest-basis-places (tag_of the_type k) → false ≡ basis_kind k
rest-basis Same h = refl
rest-basis Linear h = refl
rest-basis Clockwise h = refl
rest-basis Counter h = refl
rest-basis Akima h = refl
rest-basis Basis h = absurd (miss rest-basis-places 5 tt h)
rest-basis Cubic h = refl
rest-basis Other h = refl
rest-basis Refused h = refl

abbrev rest-cubic-places : List ℕ
rest-cubic-places = 0 ∷ 1 ∷ 2 ∷ 3 ∷ 4 ∷ 5 ∷ 7 ∷ 8 ∷ []

pub rest-cubic : (k : Kind) → OneOf rest-cubic-places (tag_of the_type k) → false ≡ cubic_kind k
rest-cubic Same h = refl
rest-cubic Linear h = refl
rest-cubic Clockwise h = refl
rest-cubic Counter h = refl
rest-cubic Akima h = refl
rest-cubic Basis h = refl
rest-cubic Cubic h = absurd (miss rest-cubic-places 6 tt h)
rest-cubic Other h = refl
rest-cubic Refused h = refl

abbrev named-curve-places : List ℕ
named-curve-places = 0 ∷ 1 ∷ []

pub named-curve : (k : Kind) → OneOf named-curve-places (tag_of the_type k) → false ≡ curve_kind k
named-curve Same h = refl
named-curve Linear h = refl
named-curve Clockwise h = absurd (miss named-curve-places 2 tt h)
named-curve Counter h = absurd (miss named-curve-places 3 tt h)
named-curve Akima h = absurd (miss named-curve-places 4 tt h)
named-curve Basis h = absurd (miss named-curve-places 5 tt h)
named-curve Cubic h = absurd (miss named-curve-places 6 tt h)
named-curve Other h = absurd (miss named-curve-places 7 tt h)
named-curve Refused h = absurd (miss named-curve-places 8 tt h)

abbrev rest-curve-places : List ℕ
rest-curve-places = 2 ∷ 3 ∷ 4 ∷ 5 ∷ 6 ∷ 7 ∷ 8 ∷ []

pub rest-curve : (k : Kind) → OneOf rest-curve-places (tag_of the_type k) → true ≡ curve_kind k
rest-curve Same h = absurd (miss rest-curve-places 0 tt h)
rest-curve Linear h = absurd (miss rest-curve-places 1 tt h)
rest-curve Clockwise h = refl
rest-curve Counter h = refl
rest-curve Akima h = refl
rest-curve Basis h = refl
rest-curve Cubic h = refl
rest-curve Other h = refl
rest-curve Refused h = refl
