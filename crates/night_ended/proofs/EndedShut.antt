-- LAWS. 11.6: behind the end of its input a try is not open: it was closed, or left without a close, or a call could not be told. Assumes nothing.
use Rattle.std.specs.Prelude.{ℕ, ◌≡◌, false}
use Rattle.night_course.specs.declared.Ticket.{Ticket}
use Rattle.night_course.specs.Course.{is_open}
use Rattle.night_spec.specs.Try.{Stand, ends, night_end}
use Rattle.night_ended.specs.Ended.{twice-shut}

module _ (t : Ticket) where
  pub ended-shut : (s : Stand) (behind : ℕ) → is_open (night_end t s behind).stand.course.stands ≡ false
  unfolding night_end
  ended-shut s behind = twice-shut t (ends t s behind).stand
