-- DEFINITIONS. The motion in force at a row, what a row shows, and when it stays curved: rules 10.1 to 10.3. Assumes nothing.
use Rattle.std.specs.Prelude.{ℕ, zero, suc, ◌+◌, ◌-◌, ◌*◌, ◌^◌, Bool, ◌&&◌, not, cond, List, eqb, take, drop}
use Rattle.std.specs.Int.Bits.{bit_and}
use Rattle.layout.specs.Layout.{axis_masks, list_masks, c_cr, row_words}
use Rattle.motion.specs.Motion.{is_curve}
use Rattle.row_cells.specs.Row.{motion_of, present_of}
use Rattle.still_curved.specs.declared.Seen.{Seen}

-- row i of rows that stand one after another
abbrev pub row_at : List ℕ → ℕ → List ℕ
row_at rows i = take row_words (drop (i * row_words) rows)

-- 10.1: the row's own word, or the motion m before it where it has none
unfoldable pub motion_after : ℕ → List ℕ → ℕ
motion_after m row = cond (eqb (motion_of row) 0) m (motion_of row)

-- 10.1: behind the first n rows, where m was in force before them
unfoldable pub motion_behind : ℕ → List ℕ → ℕ → ℕ
motion_behind m rows zero = m
motion_behind m rows (suc n) = motion_after (motion_behind m rows n) (row_at rows n)

-- the cells of a path: the axes, and I J K CR, which stand behind the codes of a list
abbrev pub path_mask : ℕ
path_mask = axis_masks - 1 + (2 ^ (c_cr + 1) - list_masks)

-- 10.2: one of them is present
unfoldable pub shows : List ℕ → Bool
shows row = not (eqb (bit_and (present_of row) path_mask) 0)

-- 10.3: a row that shows one, under a curve's word
unfoldable pub still_curved : ℕ → List ℕ → Bool
still_curved m row = shows row && is_curve (motion_after m row)

-- both, as the code answers them
unfoldable pub seen_of : ℕ → List ℕ → Seen
seen_of m row = record { motion = motion_after m row; curved = still_curved m row }
