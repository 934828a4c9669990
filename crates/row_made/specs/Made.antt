-- DEFINITIONS. A row that is made for a block's group: its cells, and what rides on the first. Assumes nothing.
use Rattle.std.specs.Prelude.{ℕ, ◌-◌, Bool, ◌&&◌, not, cond, List, leb}
use Rattle.std.proofs.Math.Option.{Option, get_or}
use Rattle.floats.specs.Lists.{upto, member}
use Rattle.layout.specs.Layout.{cells, last_code, list_masks}
use Rattle.row_cells.specs.Bits.{has}
use Rattle.row_cells.specs.Row.{line_of, plane_of, carry_of, present_of, cell, row_of}

-- what rides on a group's first row: N F S D T and the axes that are not geometric, but no cell past the codes
unfoldable pub rides : List ℕ → ℕ → Bool
rides gs k = leb k last_code && not (member k gs)

unfoldable pub with_riders : List ℕ → List ℕ → (ℕ → Option ℕ) → ℕ → Option ℕ
with_riders gs r f k = cond (rides gs k) (cell r k) (f k)

-- a row of the group of block r: its geometric cells f, with what rides on the first row alone
unfoldable pub made_row : List ℕ → List ℕ → Bool → ℕ → Bool → (ℕ → Option ℕ) → List ℕ
made_row gs r first motion marked f =
    let mark : ℕ = cond marked 1 0 in
    cond first
    (row_of (line_of r) motion (plane_of r) mark (carry_of r) (upto (with_riders gs r f) cells))
    (row_of (line_of r) 0 0 mark 0 (upto f cells))

-- ---- its words, one by one
-- cell k of a made row: there or not, and its word
unfoldable pub made_cell : List ℕ → List ℕ → Bool → (ℕ → Option ℕ) → ℕ → Option ℕ
made_cell gs r first f k = cond first (with_riders gs r f k) (f k)

unfoldable pub made_has : List ℕ → List ℕ → Bool → ℕ → ℕ → Bool
made_has gs r first mask k = cond (first && rides gs k) (has (present_of r) k) (has mask k)

abbrev pub made_word : List ℕ → List ℕ → Bool → (ℕ → Option ℕ) → ℕ → ℕ
made_word gs r first f k = get_or (made_cell gs r first f k) 0

-- ---- words by masks
-- the codes that are no geometric axis of the mask gs
abbrev pub riders : ℕ → ℕ
riders gs = list_masks - 1 - gs
