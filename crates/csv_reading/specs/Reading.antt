-- DEFINITIONS. Where the reading of the row text program stands. Assumes nothing.
use Rattle.std.specs.Prelude.{ℕ, Bool, false, cond, List}
use Rattle.text_lines.specs.declared.Turn.{Turn}
use Rattle.text_cut.specs.Cut.{between}
use Rattle.csv_out.specs.declared.Run.{Run}
use Rattle.csv_status.specs.Status.{goes_on, ended}
use Rattle.csv_reading.specs.declared.Reading.{Reading}

-- before the first line
abbrev pub first_reading : Reading
first_reading = record { at = 0; end = 0; run = record { out = 0; err = 0; physical = 1; source = 0; refused = false }; over = goes_on }

-- a refusal ends the run
abbrev pub going_of : Bool → ℕ
going_of refused = cond refused ended goes_on

-- what was read and not yet used
abbrev pub unread : Reading → List ℕ → List ℕ
unread s b = between b s.at s.end

-- the reading behind a turn
abbrev pub behind : Turn → Run → ℕ → Reading
behind t run over = record { at = t.at; end = t.end; run = run; over = over }
