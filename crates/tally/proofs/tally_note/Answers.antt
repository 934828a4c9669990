-- `tally::tally_note`: the answers to its goals. Assumes nothing.
use Rattle.std.proofs.Common.{sym, ◌∙◌}
use mathlib.Core.Path.{refl}
use Rattle.floats.specs.Truth.{cond-f}
use Rattle.call_reply.specs.ReplyLaws.{state-is}
use Rattle.tally.specs.Tally.{note_spec}
use Rattle.tally.specs.TallyLaws.{note_bad, note-told}
use Rattle.tally.proofs.tally_note.Goals as goal

pub returns-then-not-tally_ok : goal.returns-then-not-tally_ok
unfolding note_spec
returns-then-not-tally_ok c = state-is (cond-f _ _ (sym c.tally_ok.ensures ∙ c.if-not-tally_ok.true)) c.into.ensures refl

pub note-requires : goal.note-requires
note-requires c =
    sym c.tally_ok.ensures ∙ c.if-not-tally_ok.false

pub returns-in-None : goal.returns-in-None
returns-in-None c =
    state-is
    (note_bad _ _ _ _ _ _ _ (sym c.tally_ok.ensures ∙ c.if-not-tally_ok.false)
    (cc (c.in-None.is, c.told_call.ensures)))
    c.into-in-None.ensures refl

pub returns-in-Some : goal.returns-in-Some
returns-in-Some c =
    state-is
    (note-told _ _ _ _ _ _ _ (sym c.tally_ok.ensures ∙ c.if-not-tally_ok.false)
    (cc (c.in-Some.is, c.told_call.ensures)))
    c.note.ensures.reply c.note.ensures.state
