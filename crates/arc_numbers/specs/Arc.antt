-- DEFINITIONS. The numbers of one arc. Assumes nothing.
use Rattle.std.specs.Prelude.{ℕ, min, max, Bool, cond, ◌&&◌, Float}
use Rattle.std.proofs.Math.Option.{Option, none, some}
use Rattle.std.specs.Float.Ieee.{neg, lt}
use Rattle.floats.specs.Numbers.{◌⊕◌, ◌⊖◌, ◌⊗◌, ◌⊘◌, of_nat, f1, f2, tau, 1e-9, 1e-12, abs_of, larger_of, held_in}
use Rattle.whole.specs.Whole.{ceil_count, half_up_count}
pub use Rattle.arc_centre.specs.Centre.{Centre, centred, warned, Ends}
unfoldable pub use Rattle.arc_centre.specs.Centre.{side_of, cr_centre, centre_of, radius, wide_centre}
use Rattle.trig.specs.Trig.{atan2_steps, acos_steps, euclid}

-- ---- the arc
pub record Arc : Type 0 where
  pub cu : Float
  pub cv : Float
  pub rs : Float
  pub re : Float
  pub from : Float
  pub sweep : Float
  pub tol : Float

-- start and end are one point
unfoldable pub agree : Ends → Bool
agree e = lt (abs_of (e.eu ⊖ e.su)) 1e-9 && lt (abs_of (e.ev ⊖ e.sv)) 1e-9

-- the sweep of G3 by the difference of the angles; a full circle where start and end are one point and nothing is swept
unfoldable pub sweep_left : Bool → Float → Float
sweep_left full d = let s = euclid d in cond (lt s 1e-12 && full) tau s

-- G2 goes the other way round
unfoldable pub sweep_of : Bool → Bool → Float → Float
sweep_of cw full d =
    let s = sweep_left full d in
    cond cw (cond (full && lt (neg 1e-12) (s ⊖ tau)) (neg tau) (s ⊖ tau)) s

-- TURN adds whole turns in the arc's direction: none where it is below 0, a half counts up
unfoldable pub turned : Bool → Float → Option Float → Float
turned cw s none = s
turned cw s (some t) = s ⊕ cond cw (neg tau) tau ⊗ of_nat (half_up_count t)

unfoldable pub arc_of : Float → Bool → Ends → Float → Float → Option Float → Arc
arc_of tol cw e cu cv turn =
    let a = atan2_steps (e.sv ⊖ cv) (e.su ⊖ cu) in
    let b = atan2_steps (e.ev ⊖ cv) (e.eu ⊖ cu) in
    record {
      cu = cu;
      cv = cv;
      rs = radius e.su e.sv cu cv;
      re = radius e.eu e.ev cu cv;
      from = a;
      sweep = turned cw (sweep_of cw (agree e) (b ⊖ a)) turn;
      tol = tol;
    }

-- the angle whose chord leaves the larger circle by the tolerance
unfoldable pub step_of : Arc → Float
step_of c = f2 ⊗ acos_steps (held_in (neg f1) f1 (f1 ⊖ c.tol ⊘ larger_of c.rs c.re))

-- the rows that the tolerance asks for, and those that are made: one at least, and no more than an arc may have
unfoldable pub wanted_of : Arc → ℕ
wanted_of c = let s = step_of c in cond (lt 1e-12 s) (ceil_count (abs_of c.sweep ⊘ s)) 1

abbrev pub most_arc_rows : ℕ
most_arc_rows = 100000

unfoldable pub count_of : ℕ → ℕ
count_of wanted = max 1 (min most_arc_rows wanted)

-- angle and radius at a fraction of the arc
abbrev pub angle_at : Arc → Float → Float
angle_at c f = c.from ⊕ c.sweep ⊗ f

abbrev pub radius_at : Arc → Float → Float
radius_at c f = c.rs ⊕ (c.re ⊖ c.rs) ⊗ f
