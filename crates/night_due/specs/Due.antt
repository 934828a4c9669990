-- CONTRACTS. The call that is due behind what a turn found, and as what it is told. Assumes nothing.
use Rattle.std.specs.Prelude.{ℕ, Bool, true, false, cond, not, ◌&&◌, ◌||◌, List, eqb}
use Rattle.row_cells.specs.Row.{line_of}
use Rattle.tally_call.specs.Calls.{k_push, k_close}
use Rattle.night_course.specs.declared.Course.{Course}
use Rattle.night_course.specs.Course.{goes, is_open}
use Rattle.night_due.specs.declared.Call.{Call}
use Rattle.night_due.specs.declared.Call.TheVariants as Call

-- a line without its end is no line, and the header may not be missing
unfoldable pub ends_badly : ℕ → ℕ → ℕ → Bool
ends_badly stands physical behind = eqb stands goes && (not (eqb behind 0) || eqb physical 1)

-- a try that is open is closed
abbrev pub close_due : ℕ → Call
close_due stands = cond (is_open stands) Call.Close Call.Nothing

-- behind a close that left it open, one more
abbrev pub again_due : Call → ℕ → Call
again_due Call.Nothing stands = Call.Nothing
again_due Call.Push stands = Call.Nothing
again_due Call.Close stands = close_due stands

abbrev pub is_due : Call → Bool
is_due Call.Nothing = false
is_due Call.Push = true
is_due Call.Close = true

abbrev pub told_as : Call → ℕ
told_as Call.Nothing = k_close
told_as Call.Push = k_push
told_as Call.Close = k_close

-- a push is told at the source line of its row, any other at that of the last block
abbrev pub source_by : Call → Course → List ℕ → ℕ
source_by Call.Nothing c row = c.source
source_by Call.Push c row = line_of row
source_by Call.Close c row = c.source
