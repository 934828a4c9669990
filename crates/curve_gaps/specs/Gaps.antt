-- DEFINITIONS. The squared distance from a chord written out, channel by channel, for two and three channels. Assumes nothing.
use Rattle.std.specs.Prelude.{cond, List, ℕ, Float}
use Rattle.std.specs.Float.Ieee.{lt}
use Rattle.floats.specs.Numbers.{◌⊕◌, ◌⊖◌, ◌⊗◌, ◌⊘◌, f0, f1, held_in, at}
use Rattle.curve_gaps.specs.declared.Gap.{Gap}

-- channel i of the point p and the chord from a to b
abbrev pub gap_of : List Float → List Float → List Float → ℕ → Gap
gap_of p a b i = record { p = at p i; a = at a i; d = at b i ⊖ at a i }

-- what a channel adds: to the product of the way to p and the chord, to the squared distance from the chord's point at t
abbrev pub toward_of : Gap → Float
toward_of g = (g.p ⊖ g.a) ⊗ g.d

abbrev pub missed_of : Gap → Float → Float
missed_of g t = (g.p ⊖ (g.a ⊕ t ⊗ g.d)) ⊗ (g.p ⊖ (g.a ⊕ t ⊗ g.d))

abbrev pub foot_of : Float → Float → Float
foot_of d l = cond (lt f0 l) (held_in f0 f1 (d ⊘ l)) f0

abbrev pub dist_two : Gap → Gap → Float
dist_two x y =
    let t : Float = foot_of (f0 ⊕ toward_of x ⊕ toward_of y) (f0 ⊕ x.d ⊗ x.d ⊕ y.d ⊗ y.d) in
    f0 ⊕ missed_of x t ⊕ missed_of y t

abbrev pub dist_three : Gap → Gap → Gap → Float
dist_three x y z =
    let t : Float = foot_of (f0 ⊕ toward_of x ⊕ toward_of y ⊕ toward_of z) (f0 ⊕ x.d ⊗ x.d ⊕ y.d ⊗ y.d ⊕ z.d ⊗ z.d) in
    f0 ⊕ missed_of x t ⊕ missed_of y t ⊕ missed_of z t
