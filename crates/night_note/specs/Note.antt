-- DEFINITIONS. How a call of a try is told: rule 11.1. Assumes nothing.
use Rattle.std.specs.Prelude.{ℕ, List}
use Rattle.call_reply.specs.declared.Reply.{Reply}
use Rattle.call_reply.specs.Replies.{AfterState}
use Rattle.tally.specs.Tally.{note_spec}
use Rattle.night_course.specs.declared.Ticket.{Ticket}

-- 11.1: a call is told with what its reply said, and with the rows that it was lent
abbrev pub told_by : Ticket → List ℕ → ℕ → Reply → List ℕ → AfterState
told_by t tally kind r rows = note_spec tally t.job kind r.code r.count r.warning rows
