-- DEFINITIONS. What an incoming row is refused for: refusals 4, 3 and 5. Assumes nothing.
use Rattle.std.specs.Prelude.{ℕ, Bool, ◌&&◌, cond, List, length, leb, ltb, eqb}
use Rattle.layout.specs.Layout.{row_words, cell_masks, line_numbers}
use Rattle.motion.specs.Motion.{last_motion}
use Rattle.row_cells.specs.Codes.{plane_ok}
use Rattle.row_cells.specs.Row.{line_of, motion_of, plane_of, mark_of, present_of}
use Rattle.row_numbers.specs.RowNumbers.{numbers_ok, turn_ok}

-- 4: a row of another length, a field wider than it may be, no motion or plane word, a mark, a presence bit past the cells
abbrev pub fields_ok : List ℕ → Bool
fields_ok r = plane_ok (plane_of r) && (eqb (mark_of r) 0 && ltb (present_of r) cell_masks)

unfoldable pub shape_ok : List ℕ → Bool
shape_ok r = eqb (length r) row_words && (ltb (line_of r) line_numbers && (leb (motion_of r) last_motion && fields_ok r))

-- 0, or the first refusal, in the order 4, 3, 5
unfoldable pub row_check : List ℕ → ℕ
row_check r = cond (shape_ok r) (cond (numbers_ok r) (cond (turn_ok r) 0 5) 3) 4
