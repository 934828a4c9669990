-- CONTRACTS. How the cells of a line are taken, one after another, into a row. Assumes nothing.
use Rattle.std.specs.Prelude.{Option as Read, Some, None, false, ℕ, zero, suc, ◌+◌, ◌*◌, ◌^◌, Bool, true, cond, ◌≡◌, List, [], ◌∷◌, eqb, take, drop, get_or}
use Rattle.std.specs.Prelude.{set}
use Rattle.std.proofs.Math.Option
use Rattle.std.proofs.Math.Option.{Option}
use Rattle.floats.specs.Lists.{is_some}
use Rattle.layout.specs.Layout.{r_cells, r_present}
use Rattle.csv_cells.specs.declared.Taken.{Taken}
use Rattle.csv_line.specs.LineText.{comma, column_count, code_at}
use Rattle.csv_cells.specs.Cells.{given, cell_ok, cells_ok}

-- the presence bit and the word of a cell
abbrev pub bit_of : Option ℕ → ℕ
bit_of o = cond (is_some o) 1 0

abbrev pub word_of : Option ℕ → ℕ
word_of o = Option.get_or o 0

abbrev pub as_cell : Read ℕ → Option ℕ
as_cell None = Option.none
as_cell (Some w) = Option.some w

abbrev pub CellIs : List ℕ → Read (Read ℕ) → Type 0
CellIs f None = cell_ok f ≡ false
CellIs f (Some c) = (cell_ok f ≡ true) × (as_cell c ≡ given f)

-- how many bytes stand before the first comma, or before the end
unfoldable pub reach : List ℕ → ℕ
reach [] = 0
reach (c ∷ t) = cond (eqb c comma) 0 (suc (reach t))

-- the field that begins at `at`
abbrev pub field_at : List ℕ → ℕ → List ℕ
field_at t at = take (reach (drop at t)) (drop at t)

pub record Took (t : List ℕ) (at i mask : ℕ) (row row' : List ℕ) (r : Taken) : Type 0 where
  pub good : cell_ok (field_at t at) ≡ true
  pub after : r.next ≡ at + reach (drop at t) + 1
  pub bits : r.mask ≡ mask + bit_of (given (field_at t at)) * 2 ^ code_at i
  pub words : row' ≡ set row (r_cells + code_at i) (word_of (given (field_at t at)))

abbrev pub TookOr : List ℕ → ℕ → ℕ → ℕ → List ℕ → List ℕ → Read Taken → Type 0
TookOr t at i mask row row' None = cell_ok (field_at t at) ≡ false
TookOr t at i mask row row' (Some r) = Took t at i mask row row' r

-- a row and a mask after the first i cells of fs
unfoldable pub placed : List (List ℕ) → List ℕ → ℕ → List ℕ
placed fs row zero = row
placed fs row (suc i) = set (placed fs row i) (r_cells + code_at i) (word_of (given (get_or fs i [])))

unfoldable pub masked : List (List ℕ) → ℕ → ℕ
masked fs zero = 0
masked fs (suc i) = masked fs i + bit_of (given (get_or fs i [])) * 2 ^ code_at i

pub record CellsRead (fs : List (List ℕ)) (row row' : List ℕ) (r : Bool) : Type 0 where
  pub good : r ≡ cells_ok fs
  pub words : r ≡ true → row' ≡ set (placed fs row column_count) r_present (masked fs column_count)
