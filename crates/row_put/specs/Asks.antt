-- CONTRACTS. The words before the cells of a row that goes out unchanged. Assumes nothing.
use Rattle.std.specs.Prelude.{ℕ, ◌%◌, List, [], ◌∷◌}
use Rattle.layout.specs.Layout.{cell_masks}
use Rattle.row_cells.specs.Row.{line_of, motion_of, plane_of, carry_of, present_of}

abbrev pub out_head : List ℕ → List ℕ
out_head r = line_of r ∷ motion_of r ∷ plane_of r ∷ 0 ∷ carry_of r ∷ present_of r % cell_masks ∷ []
