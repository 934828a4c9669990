-- DEFINITIONS. Where the reading of a try's file stands behind a turn. Assumes nothing.
use Rattle.std.specs.Prelude.{ℕ, ◌+◌, ◌-◌, List}
use Rattle.text_lines.specs.declared.Found.{Found}
use Rattle.text_lines.specs.declared.Found.TheVariants as Found
use Rattle.text_lines.specs.declared.Turn.{Turn}
use Rattle.text_cut.specs.Cut.{between}
use Rattle.csv_status.specs.Status.{goes_on, ended}
use Rattle.night_course.specs.declared.Ticket.{Ticket}
use Rattle.night_course.specs.declared.Course.{Course}
use Rattle.night_flush.specs.declared.Reading.{Reading}

-- before the first line
abbrev pub first_reading : Ticket → Course → Reading
first_reading t c =
    record { at = 0; end = 0; run = record { ticket = t; course = c; out = 0; listed = 0 }; over = goes_on; sum = 0; length = 0 }

-- the input could not be read
abbrev pub no_input : ℕ
no_input = 2

-- the end of the input ends the turns; behind a line that fills the buffer only the checksum goes on
abbrev pub over_of : Found → ℕ
over_of Found.Line = goes_on
over_of Found.More = goes_on
over_of Found.Ended = ended
over_of Found.Full = goes_on
over_of Found.Failed = no_input

-- such a line is passed over
abbrev pub from_of : Found → Turn → ℕ
from_of Found.Line t = t.at
from_of Found.More t = t.at
from_of Found.Ended t = t.at
from_of Found.Full t = t.end
from_of Found.Failed t = t.at

-- the bytes that a turn brought stand behind those that were unread
abbrev pub came_by : Reading → Turn → List ℕ → List ℕ
came_by s t b = between b (t.at + (s.end - s.at)) t.end
