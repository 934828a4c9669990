-- DEFINITIONS. The row that a line of the input is: rules 7.4, 7.5. Assumes nothing.
use Rattle.std.specs.Prelude.{ℕ, suc, cond, List, [], ◌∷◌, eqb, get_or, Option as Read, Some, None}
use Rattle.std.proofs.Math.Option.{Option, none, some}
use Rattle.floats.specs.Lists.{upto}
use Rattle.layout.specs.Layout.{cells}
use Rattle.row_cells.specs.Row.{row_of}
use Rattle.csv_fields.specs.Read.{line_number}
use Rattle.csv_words.specs.Words.{motion_of, plane_of}
use Rattle.csv_line.specs.LineText.{columns, parted}
use Rattle.csv_cells.specs.Cells.{given, cells_ok}

-- the cell of code k: what its column holds, and none where no column has the code
unfoldable pub cell_in : ℕ → ℕ → List ℕ → List (List ℕ) → Option ℕ
cell_in k i [] fs = none
cell_in k i (c ∷ cs) fs = cond (eqb c k) (given (get_or fs i [])) (cell_in k (suc i) cs fs)

unfoldable pub cells_in : List (List ℕ) → List (Option ℕ)
cells_in fs = upto (λ (k : ℕ). cell_in k 0 columns fs) cells

-- from the fields of a line to the row, each in its place; an incoming row is unmarked and carries nothing
unfoldable pub from_cells : ℕ → ℕ → ℕ → List (List ℕ) → Option (List ℕ)
from_cells line motion plane fs = cond (cells_ok fs) (some (row_of line motion plane 0 0 (cells_in fs))) none

abbrev pub coded : Read ℕ → (ℕ → Option (List ℕ)) → Option (List ℕ)
coded (Some c) k = k c
coded None k = none

abbrev pub numbered : Read ℕ → (ℕ → Option (List ℕ)) → Option (List ℕ)
numbered (Some n) k = k n
numbered None k = none

abbrev pub from_plane : ℕ → ℕ → List (List ℕ) → Option (List ℕ)
from_plane line motion [] = none
from_plane line motion (f ∷ fs) = coded (plane_of f) (λ (c : ℕ). from_cells line motion c fs)

abbrev pub from_motion : ℕ → List (List ℕ) → Option (List ℕ)
from_motion line [] = none
from_motion line (f ∷ fs) = coded (motion_of f) (λ (c : ℕ). from_plane line c fs)

abbrev pub from_line : List (List ℕ) → Option (List ℕ)
from_line [] = none
from_line (f ∷ fs) = numbered (line_number f) (λ (n : ℕ). from_motion n fs)

-- the row that the text of a line, without its CRLF, is; none where it is no row text
unfoldable pub read_row : List ℕ → Option (List ℕ)
read_row t = from_line (parted t)
