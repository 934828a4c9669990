-- DEFINITIONS. The centre of one arc. Assumes nothing.
use Rattle.std.specs.Prelude.{ℕ, Bool, ◌||◌, not, cond, Float}
use Rattle.std.specs.Bool.{beq}
use Rattle.std.proofs.Math.Option.{Option, none, some, get_or}
use Rattle.std.specs.Float.Ieee.{neg, lt}
use Rattle.floats.specs.Numbers.{◌⊕◌, ◌⊖◌, ◌⊗◌, ◌⊘◌, f0, f1, f2, 1e-9, 1e-12, abs_of, larger_of}
use Rattle.root.specs.Root.{root}

-- ---- the centre, or the warning where there is none
pub data Centre : Type 0 where
  centred : Float → Float → Centre
  warned : ℕ → Centre

-- start and end on the two plane axes
pub record Ends : Type 0 where
  pub su : Float
  pub sv : Float
  pub eu : Float
  pub ev : Float

-- by CR the centre lies left of the way from start to end for G3; G2 turns the side round, and so does a CR below 0
unfoldable pub side_of : Bool → Float → Float
side_of cw cr = cond (beq cw (not (lt cr f0))) (neg f1) f1

-- by CR: warning 2 where start and end coincide, 3 where CR does not reach
unfoldable pub cr_centre : Bool → Ends → Float → Centre
cr_centre cw e cr =
    let du = e.eu ⊖ e.su in
    let dv = e.ev ⊖ e.sv in
    let chord = root (du ⊗ du ⊕ dv ⊗ dv) in
    let half = chord ⊘ f2 in
    let h = root (larger_of (abs_of cr ⊗ abs_of cr ⊖ half ⊗ half) f0) in
    let far = side_of cw cr ⊗ h in
    cond (lt chord 1e-12) (warned 2)
    (cond (lt (abs_of cr) (half ⊖ 1e-9)) (warned 3)
    (centred ((e.su ⊕ e.eu) ⊘ f2 ⊕ far ⊗ (neg dv ⊘ chord)) ((e.sv ⊕ e.ev) ⊘ f2 ⊕ far ⊗ (du ⊘ chord))))

-- an offset goes before CR; warning 4 where there is neither
unfoldable pub centre_of : Bool → Ends → Option Float → Option Float → Option Float → Centre
centre_of cw e none none none = warned 4
centre_of cw e none none (some cr) = cr_centre cw e cr
centre_of cw e none (some j) cr = centred (e.su ⊕ f0) (e.sv ⊕ j)
centre_of cw e (some i) j cr = centred (e.su ⊕ i) (e.sv ⊕ get_or j f0)

-- warning 5 where a radius is too small
unfoldable pub radius : Float → Float → Float → Float → Float
radius u v cu cv = root ((u ⊖ cu) ⊗ (u ⊖ cu) ⊕ (v ⊖ cv) ⊗ (v ⊖ cv))

unfoldable pub wide_centre : Ends → Centre → Centre
wide_centre e (warned n) = warned n
wide_centre e (centred cu cv) =
    cond (lt (radius e.su e.sv cu cv) 1e-9 || lt (radius e.eu e.ev cu cv) 1e-9) (warned 5) (centred cu cv)
