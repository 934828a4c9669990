-- DEFINITIONS. The numbers of a try that begins: rule 11.3. Assumes nothing.
use Rattle.std.specs.Prelude.{ℕ, cond, eqb}
use Rattle.motion.specs.Motion.{g_one}
use Rattle.night_course.specs.declared.Course.{Course}
use Rattle.night_course.specs.Course.{goes}
use Rattle.night_refusal.specs.Refusal.{turned_down}

-- the kind of a start, as a told call
abbrev pub k_start : ℕ
k_start = 0

-- before the first line
abbrev pub fresh : Course
fresh = record { physical = 1; source = 0; motion = g_one; curved = 0; refusal = 0; line = 0; stands = goes }

-- and where the start answered this code
unfoldable pub first_course : ℕ → Course
first_course code = cond (eqb code 0) fresh (turned_down fresh k_start code 0)
