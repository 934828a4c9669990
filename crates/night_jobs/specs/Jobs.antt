-- DEFINITIONS. Where the jobs of a night stand: rule 11.20. Assumes nothing.
use Rattle.std.specs.Prelude.{ℕ, ◌≡◌, true, List, eqb, get_or}
use Rattle.row_cells.specs.Bits.{has}
use Rattle.tally_words.specs.Words.{b_first, b_final, count_if}
use Rattle.night_tried.specs.Tried.{tries_of}
use Rattle.night_lots.specs.Lot.{lot_of}

-- how many of the first n jobs are in a lot
unfoldable pub count_lot : List ℕ → List ℕ → ℕ → ℕ → ℕ → ℕ
count_lot marks words n tolerances lot = count_if (λ (i : ℕ). eqb (lot_of (get_or marks i 0) (tries_of (get_or words i 0)) tolerances) lot) n

-- a first try that passed is the last one too
abbrev pub Settled : ℕ → Type 0
Settled m = has m b_first ≡ true → has m b_final ≡ true
