-- DEFINITIONS. The saved state as words, the rows that the store holds, and when they are refused: 9 and 8. Assumes nothing.
use Rattle.std.specs.Prelude.{ℕ, ◌+◌, ◌*◌, Bool, ◌&&◌, ◌||◌, not, cond, List, length, get_or, set, take, drop, leb, ltb, eqb, Float}
use Rattle.std.proofs.Math.Option.{Option, none, some}
use Rattle.floats.specs.Numbers.{num}
use Rattle.floats.specs.Lists.{upto, member, all}
use Rattle.layout.specs.Layout.{axis_codes, axis_masks, list_codes, last_code, row_words, most_held, most_degree, state_words, w_tolerance}
use Rattle.layout.specs.Layout.{w_axis_count, w_axes}
use Rattle.layout.specs.Layout.{w_motion, w_plane, w_known, w_start, w_degree, w_held}
use Rattle.motion.specs.Motion.{is_spline, last_motion}
use Rattle.row_cells.specs.Codes.{plane_xy, plane_yz, geometric_of}
use Rattle.row_cells.specs.Bits.{has, with_bit, mask_sum}
use Rattle.row_numbers.specs.RowNumbers.{within}
use Rattle.row_check.specs.Check.{row_check}
use Rattle.row_cells.specs.Row.{motion_of}

abbrev pub axis_count : List ℕ → ℕ
axis_count st = get_or st w_axis_count 0

abbrev pub motion_now : List ℕ → ℕ
motion_now st = get_or st w_motion 0

abbrev pub plane_now : List ℕ → ℕ
plane_now st = get_or st w_plane 0

abbrev pub degree : List ℕ → ℕ
degree st = get_or st w_degree 0

abbrev pub held : List ℕ → ℕ
held st = get_or st w_held 0

abbrev pub tolerance : List ℕ → Float
tolerance st = num (get_or st w_tolerance 0)

-- the degree of a curve until SD sets it
abbrev pub plain_degree : ℕ
plain_degree = 3

-- the geometric axes of a state, in order
unfoldable pub geometric : List ℕ → List ℕ
geometric st = geometric_of (take (axis_count st) (drop w_axes st))

-- their mask
abbrev pub geometric_mask : List ℕ → ℕ
geometric_mask st = mask_sum (λ (k : ℕ). member k (geometric st)) axis_codes

-- the word of axis k in the point whose mask is word w: the positions (w_known), the curve start (w_start)
unfoldable pub point_word : List ℕ → ℕ → ℕ → Option ℕ
point_word st w k = cond (has (get_or st w 0) k) (some (get_or st (w + 1 + k) 0)) none

abbrev pub position : List ℕ → ℕ → Option ℕ
position st k = point_word st w_known k

abbrev pub curve_start : List ℕ → ℕ → Option ℕ
curve_start st k = point_word st w_start k

-- ---- 1: a tolerance that is not above zero and finite, by its bits
abbrev pub infinity : ℕ
infinity = 0x7FF0000000000000

unfoldable pub tol_ok : ℕ → Bool
tol_ok x = ltb 0 x && ltb x infinity

-- 2: an axis list that is too long, or has a code past the last, or one twice
unfoldable pub code_ok : List ℕ → ℕ → Bool
code_ok axes i = leb (get_or axes i 0) last_code && all i (λ (j : ℕ). not (eqb (get_or axes j 0) (get_or axes i 0)))

unfoldable pub codes_ok : List ℕ → Bool
codes_ok axes = leb (length axes) list_codes && all (length axes) (code_ok axes)

-- 9: a state's tolerance, axis list, motion or plane is none; its motion is a word's, not 0
unfoldable pub axes_ok : List ℕ → Bool
axes_ok st = leb (axis_count st) list_codes && codes_ok (take (axis_count st) (drop w_axes st))

-- 9: a position or a curve start that 3 would refuse, or off the geometric axes
unfoldable pub point_at_ok : List ℕ → ℕ → ℕ → Bool
point_at_ok st w k = not (has (get_or st w 0) k) || (member k (geometric st) && within (get_or st (w + 1 + k) 0))

unfoldable pub point_ok : List ℕ → ℕ → Bool
point_ok st w = ltb (get_or st w 0) axis_masks && all axis_codes (point_at_ok st w)

-- 9: no degree, too many blocks held, or blocks held while the motion is no spline's
unfoldable pub held_ok : List ℕ → Bool
held_ok st = leb (held st) most_held && (eqb (held st) 0 || is_spline (motion_now st))

-- the tests of a state from its degree on, from its positions on, from its motion on, and all
abbrev pub from_degree : List ℕ → Bool
from_degree st = (leb 1 (degree st) && leb (degree st) most_degree) && held_ok st

abbrev pub from_known : List ℕ → Bool
from_known st = point_ok st w_known && (point_ok st w_start && from_degree st)

abbrev pub from_motion : List ℕ → Bool
from_motion st =
    (leb 1 (motion_now st) && leb (motion_now st) last_motion)
    && ((leb plane_xy (plane_now st) && leb (plane_now st) plane_yz) && from_known st)

unfoldable pub state_ok : List ℕ → Bool
state_ok st = eqb (length st) state_words && (tol_ok (get_or st w_tolerance 0) && (axes_ok st && from_motion st))

-- ---- 8: a store that is shorter than the blocks it holds
unfoldable pub store_ok : List ℕ → List ℕ → Bool
store_ok st store = leb (held st * row_words) (length store)

-- the row held at place i, and the rows held
abbrev pub held_row : List ℕ → ℕ → List ℕ
held_row store i = take row_words (drop (i * row_words) store)

unfoldable pub held_rows : List ℕ → List ℕ → List (List ℕ)
held_rows st store = upto (held_row store) (held st)

-- 9: a held row that 3, 4 or 5 would refuse, or of another motion than none or the state's
abbrev pub row_fits : ℕ → List ℕ → Bool
row_fits motion r = eqb (row_check r) 0 && (eqb (motion_of r) 0 || eqb (motion_of r) motion)

unfoldable pub held_row_ok : List ℕ → List ℕ → ℕ → Bool
held_row_ok st store i = row_fits (motion_now st) (held_row store i)

-- 0, or the first refusal: 9 for the state's fields, 8, 9 for the held rows
unfoldable pub saved_check : List ℕ → List ℕ → ℕ
saved_check st store = cond (state_ok st) (cond (store_ok st store) (cond (all (held st) (held_row_ok st store)) 0 9) 8) 9

-- ---- axis k known at x
unfoldable pub placed : List ℕ → ℕ → ℕ → List ℕ
placed st k x = set (set st w_known (with_bit (get_or st w_known 0) k)) (w_known + 1 + k) x
