-- LAWS. The starred rows of arcs that are to be checked by hand, one theorem over the list, by computation. Assumes nothing.
use Prim.Native.Nat.{ℕ, ◌+◌, ◌^◌}
use mathlib.Core.Path.{◌≡◌, refl}
use mathlib.Core.Bool.{Bool, true, false}
use mathlib.Core.List.{List, [], ◌∷◌, map}
use mathlib.Core.Option.{Option}
use lib.ListN.{length, replicate, set}
use lib.Ieee as Ieee
use Rattle.floats.specs.Numbers.{num}
use Rattle.floats.specs.Lists.{upto, keep, member, any_of}
use Rattle.root.specs.Root.{floor_root, root_units, sqrt}
use Rattle.whole.specs.Whole.{ceil_count, half_up_count}
use Rattle.trig.specs.Trig.{sin_steps, cos_steps, atan_from, atan_right, atan_left, atan_up, atan2_steps, acos_steps}
use Rattle.layout.specs.Layout.{row_words, r_line, r_motion, r_present, r_cells, c_offset, c_cr}
use Rattle.row_cells.specs.Codes.{plane_xy, plane_u, plane_v}
use Rattle.row_cells.specs.Bits.{has}
use Rattle.row_cells.specs.Row.{cell, number, shown, mask_of, row_of, out_row, has_point}
use Rattle.row_made.specs.Made.{rides, with_riders, made_row}
use Rattle.arc_answer.specs.Arc.{Answer, passed, silent, side_of, cr_centre, centre_of, radius, wide_centre, agree, sweep_left, sweep_of}
use Rattle.arc_answer.specs.Arc.{turned, arc_of, step_of, wanted_of, count_of, ramp, last_cell, mid_cell, arc_row, held_axes, arc_rows}
use Rattle.arc_answer.specs.Arc.{from_centre, from_start, arc_answer}

-- 10 as a word; a block of G3 with X 10, Y 0 and one cell more; the positions of X and Y
abbrev pub ten : ℕ
ten = 0x4024000000000000

pub block : ℕ → ℕ → List ℕ
block k w =
    set (set (set (set (set (replicate row_words 0) r_line 2) r_motion 4) r_present (2 ^ 0 + 2 ^ 1 + 2 ^ k)) r_cells ten) (r_cells + k) w

pub from : ℕ → ℕ → Option ℕ
unfolding shown
from x = shown (2 ^ 0 + 2 ^ 1) (x ∷ 0 ∷ [])

-- from (10, 0) by I -10: G3 back to its start, at a tolerance
pub circle : ℕ → Answer
unfolding block from upto keep member any_of floor_root root_units sqrt ceil_count half_up_count sin_steps cos_steps atan_from atan_right atan_left atan_up
    atan2_steps acos_steps plane_u plane_v has cell number shown mask_of row_of out_row has_point rides with_riders made_row passed silent side_of cr_centre
    centre_of radius wide_centre agree sweep_left sweep_of turned arc_of step_of wanted_of count_of ramp last_cell mid_cell arc_row held_axes
    arc_rows from_centre
    from_start arc_answer Ieee.add Ieee.sub Ieee.mul Ieee.div Ieee.rem Ieee.neg Ieee.lt Ieee.le Ieee.eq Ieee.of_bits Ieee.to_bits Ieee.of_int
circle t = arc_answer (num t) (0 ∷ 1 ∷ 2 ∷ []) plane_xy false (from ten) (block c_offset 0xc024000000000000)

-- from (0, 0) to (10, 0) by CR, G2 or G3
pub chord : Bool → ℕ → Answer
unfolding block from upto keep member any_of floor_root root_units sqrt ceil_count half_up_count sin_steps cos_steps atan_from atan_right atan_left atan_up
    atan2_steps acos_steps plane_u plane_v has cell number shown mask_of row_of out_row has_point rides with_riders made_row passed silent side_of cr_centre
    centre_of radius wide_centre agree sweep_left sweep_of turned arc_of step_of wanted_of count_of ramp last_cell mid_cell arc_row held_axes
    arc_rows from_centre
    from_start arc_answer Ieee.add Ieee.sub Ieee.mul Ieee.div Ieee.rem Ieee.neg Ieee.lt Ieee.le Ieee.eq Ieee.of_bits Ieee.to_bits Ieee.of_int
chord cw cr = arc_answer (num 0x3fb999999999999a) (0 ∷ 1 ∷ 2 ∷ []) plane_xy cw (from 0) (block c_cr cr)

-- how many rows, and the warning
pub said : Answer → List ℕ
said a = length a.rows ∷ a.warning ∷ []

-- the full circle at tolerance 10 and 30; a CR of 4.999 does not reach, one of 4.9999999995 does
pub starred : map said
    (circle 0x4024000000000000 ∷ circle 0x403e000000000000 ∷ chord true 0x4013fef9db22d0e5 ∷ chord false 0x4013fef9db22d0e5
    ∷ chord true 0x4013fffffff768fa ∷ chord false 0x4013fffffff768fa ∷ [])
    ≡ (2 ∷ 0 ∷ []) ∷ (1 ∷ 0 ∷ []) ∷ (1 ∷ 3 ∷ []) ∷ (1 ∷ 3 ∷ []) ∷ (8 ∷ 0 ∷ []) ∷ (8 ∷ 0 ∷ []) ∷ []
unfolding said circle chord
starred = refl
