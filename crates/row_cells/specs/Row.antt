-- DEFINITIONS. A row as words: its fields, its cells by presence, and the row that goes out unchanged. Assumes nothing.
use Rattle.std.specs.Prelude.{ℕ, ◌+◌, ◌*◌, Bool, cond, List, [], ◌∷◌, map, get_or, Float}
use Rattle.std.proofs.Math.Option
use Rattle.std.proofs.Math.Option.{Option, none, some}
use Rattle.floats.specs.Numbers.{num}
use Rattle.floats.specs.Lists.{upto, keep, any_of, opt, is_some}
use Rattle.layout.specs.Layout.{axis_codes, cells, r_cells, r_line, r_motion, r_plane, r_mark, r_carry, r_present}
use Rattle.row_cells.specs.Bits.{has}

abbrev pub line_of : List ℕ → ℕ
line_of r = get_or r r_line 0

abbrev pub motion_of : List ℕ → ℕ
motion_of r = get_or r r_motion 0

abbrev pub plane_of : List ℕ → ℕ
plane_of r = get_or r r_plane 0

abbrev pub mark_of : List ℕ → ℕ
mark_of r = get_or r r_mark 0

abbrev pub carry_of : List ℕ → ℕ
carry_of r = get_or r r_carry 0

abbrev pub present_of : List ℕ → ℕ
present_of r = get_or r r_present 0

-- the word of cell k, which counts only where its presence bit is set
abbrev pub raw_word : List ℕ → ℕ → ℕ
raw_word r k = get_or r (r_cells + k) 0

unfoldable pub cell : List ℕ → ℕ → Option ℕ
cell r k = cond (has (present_of r) k) (some (raw_word r k)) none

unfoldable pub number : List ℕ → ℕ → Option Float
number r k = opt num (cell r k)

-- numbers that stand beside a mask of those that are there: positions, a curve start, the cells of a generated row
unfoldable pub shown : ℕ → List ℕ → ℕ → Option ℕ
shown mask ws k = cond (has mask k) (some (get_or ws k 0)) none

-- the axis codes of a mask, in code order
unfoldable pub axes_of : ℕ → List ℕ
axes_of mask = keep (has mask) (upto (λ (k : ℕ). k) axis_codes)

-- a row of its five fields and its cells: an absent cell is written as zero
unfoldable pub mask_of : List (Option ℕ) → ℕ
mask_of [] = 0
mask_of (c ∷ cs) = cond (is_some c) 1 0 + 2 * mask_of cs

unfoldable pub row_of : ℕ → ℕ → ℕ → ℕ → ℕ → List (Option ℕ) → List ℕ
row_of line motion plane mark carry cs =
    line ∷ motion ∷ plane ∷ mark ∷ carry ∷ mask_of cs ∷ map (λ (c : Option ℕ). Option.get_or c 0) cs

-- the row that goes out unchanged
unfoldable pub out_row : List ℕ → List ℕ
out_row r = row_of (line_of r) (motion_of r) (plane_of r) 0 (carry_of r) (upto (cell r) cells)

-- some geometric cell is present: a block with a point
unfoldable pub has_point : List ℕ → List ℕ → Bool
has_point gs r = any_of (λ (k : ℕ). has (present_of r) k) gs
