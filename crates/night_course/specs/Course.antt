-- DEFINITIONS. How a try stands, and what changes its numbers but a call's answer. Assumes nothing.
use Rattle.std.specs.Prelude.{ℕ, Bool, cond, ◌||◌, eqb}
use Rattle.csv_count.specs.Count.{next_line}
use Rattle.night_course.specs.declared.Course.{Course}
use Rattle.night_course.specs.declared.TryRun.{TryRun}

-- ---- how a try stands: it goes on; it met a refusal and is closed next; it was left without a close; it was closed; a call could not be told
abbrev pub goes : ℕ
goes = 0

abbrev pub refused : ℕ
refused = 1

abbrev pub left : ℕ
left = 2

abbrev pub closed : ℕ
closed = 3

abbrev pub untold : ℕ
untold = 4

-- a try that goes on, or met a refusal, is open, and is closed
abbrev pub is_open : ℕ → Bool
is_open stands = eqb stands goes || eqb stands refused

-- the try with other numbers
abbrev pub with_course : TryRun → Course → TryRun
with_course run c = record { ticket = run.ticket; course = c; out = run.out; listed = run.listed }

-- a call that the tally did not take ends the try: nothing goes on untold
unfoldable pub if_told : ℕ → Course → Course
if_told code c =
    record {
      physical = c.physical;
      source = c.source;
      motion = c.motion;
      curved = c.curved;
      refusal = c.refusal;
      line = c.line;
      stands = cond (eqb code 0) c.stands untold;
    }

-- a source line is that of the block pushed
abbrev pub at_source : ℕ → Course → Course
at_source source c =
    record { physical = c.physical; source = source; motion = c.motion; curved = c.curved; refusal = c.refusal; line = c.line; stands = c.stands }

-- the line is counted
abbrev pub next_course : Course → Course
next_course c =
    record {
      physical = next_line c.physical;
      source = c.source;
      motion = c.motion;
      curved = c.curved;
      refusal = c.refusal;
      line = c.line;
      stands = c.stands;
    }
