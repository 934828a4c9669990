-- DEFINITIONS. The lines that name the blocks of a call that stay curved: rules 11.8, 11.9. Assumes nothing.
use Rattle.std.specs.Prelude.{ℕ, ◌-◌, Bool, cond, ◌&&◌, not, List, []}
use Rattle.floats.specs.Lists.{upto, flatten}
use Rattle.row_cells.specs.Row.{line_of}
use Rattle.still_curved.specs.Curved.{row_at, motion_after, motion_behind, still_curved}
use Rattle.tally_words.specs.Words.{count_if}
use Rattle.night_named.specs.Named.{further, warning_at}
use Rattle.night_naming.specs.Naming.{listed_line}

-- whether row i of a call is still curved, m being the motion in force before the call
abbrev pub curved_at : ℕ → List ℕ → ℕ → Bool
curved_at m rows i = still_curved (motion_behind m rows i) (row_at rows i)

-- 11.8: the block of row i is named at row i: the row is still curved, and no row before it has named the block
unfoldable pub named_at : ℕ → List ℕ → ℕ → Bool
named_at m rows i = curved_at m rows i && not (further rows i && curved_at m rows (i - 1))

-- the line at row i, if its block is named there
unfoldable pub listed_at : ℕ → ℕ → ℕ → List ℕ → ℕ → ℕ → ℕ → List ℕ
listed_at job number m rows count warning i =
    cond (named_at m rows i)
    (listed_line job number (line_of (row_at rows i)) (motion_after (motion_behind m rows i) (row_at rows i)) (warning_at count warning i))
    []

-- all lines of the first `count` rows, and how many they are
unfoldable pub listed_text : ℕ → ℕ → ℕ → List ℕ → ℕ → ℕ → List ℕ
listed_text job number m rows count warning = flatten (upto (listed_at job number m rows count warning) count)

unfoldable pub listed_count : ℕ → List ℕ → ℕ → ℕ
listed_count m rows count = count_if (named_at m rows) count
