-- DEFINITIONS. The lot of a job of a night: rule 11.20. Assumes nothing.
use Rattle.std.specs.Prelude.{ℕ, cond}
use Rattle.row_cells.specs.Bits.{has}
use Rattle.tally_words.specs.Words.{b_closed, b_first, b_final}
use Rattle.night_marks.specs.Marks.{is_over}

-- 11.20: the five lots
abbrev pub at_first : ℕ
at_first = 0

abbrev pub when_coarser : ℕ
when_coarser = 1

abbrev pub never_passed : ℕ
never_passed = 2

abbrev pub not_closed : ℕ
not_closed = 3

abbrev pub not_tried : ℕ
not_tried = 4

-- a job that is not done with (11.12) is not tried, or not to its end
unfoldable pub lot_of : ℕ → ℕ → ℕ → ℕ
lot_of m tries tolerances =
    cond (has m b_final) (cond (has m b_first) at_first when_coarser)
    (cond (is_over m tries tolerances) (cond (has m b_closed) never_passed not_closed) not_tried)
