-- DEFINITIONS. What a refusal does to a try: rules 11.5, 11.6. Assumes nothing.
use Rattle.std.specs.Prelude.{ℕ, cond, ◌&&◌, ◌||◌, not, eqb}
use Rattle.tally_call.specs.Calls.{k_close, too_few_places}
use Rattle.csv_count.specs.Count.{bad_text}
use Rattle.night_course.specs.declared.Course.{Course}
use Rattle.night_course.specs.Course.{refused, left}

-- 11.5: the first refusal of a try is kept, with its line; 0 is none
abbrev pub or_first : ℕ → ℕ → ℕ → ℕ
or_first refusal was now = cond (eqb refusal 0) now was

-- 11.6: behind a refusal the try is closed, and behind a close whose rows have no text once more; where all the room was too little, or the
-- flattener refused the close, it is left without a close
unfoldable pub stands_then : ℕ → ℕ → ℕ
stands_then kind code = cond (eqb code too_few_places || (not (eqb code bad_text) && eqb kind k_close)) left refused

unfoldable pub turned_down : Course → ℕ → ℕ → ℕ → Course
turned_down c kind code line =
    record {
      physical = c.physical;
      source = c.source;
      motion = c.motion;
      curved = c.curved;
      refusal = or_first c.refusal c.refusal code;
      line = or_first c.refusal c.line line;
      stands = stands_then kind code;
    }
