-- `tally_noting::note`: the answers to its goals. Assumes nothing.
use Rattle.std.proofs.Common.{sym, ◌∙◌}
use mathlib.Core.Path.{refl}
use native.Mathlib.Omega.{arith}
use Rattle.floats.specs.Truth.{cond-t, cond-f}
use Rattle.tally_words.specs.WordLaws.{good}
use Rattle.tally_slot.specs.Slots.{counted, slot_of}
use Rattle.tally_slot.specs.SlotLaws.{slot_long, room-few, room_when, noted-is}
use Rattle.call_reply.specs.ReplyLaws.{state-is}
use Rattle.tally_noting.proofs.note.Goals as goal

pub bounds-tally-0 : goal.bounds-tally-0
bounds-tally-0 c = omega (arith, (good _ c.requires).long)

pub find-i-requires : goal.find-i-requires
find-i-requires c = ((good _ c.requires).long, (good _ c.requires).few)

pub returns-then-i-ge-MOST_JOBS : goal.returns-then-i-ge-MOST_JOBS
unfolding counted slot_of
returns-then-i-ge-MOST_JOBS c = state-is (cond-f _ _ (room-few _ _ _ _ _ c.find-i.ensures refl c.if-i-ge-MOST_JOBS.true)) c.into.ensures refl

pub figures_fit-requires : goal.figures_fit-requires
figures_fit-requires c = omega (arith, (good _ c.requires).long, c.slot_at-start.ensures)

pub returns-then-not-figures_fit : goal.returns-then-not-figures_fit
unfolding counted slot_of
returns-then-not-figures_fit c =
    state-is (cond-f _ _
    (room_when _ _ _ _ _ c.find-i.ensures c.slot_at-start.ensures _ c.if-i-ge-MOST_JOBS.false
    (sym c.figures_fit.ensures ∙ c.if-not-figures_fit.true))) c.into-then-not-figures_fit.ensures refl

pub write_slot-requires : goal.write_slot-requires
write_slot-requires c = (omega (arith, (good _ c.requires).long, c.slot_at-start.ensures), sym c.figures_fit.ensures ∙ c.if-not-figures_fit.false)

pub bounds-tally-0-2 : goal.bounds-tally-0-2
bounds-tally-0-2 c =
    let long = (good _ c.requires).long in
    omega (arith, long, slot_long _ _ _ _ c.write_slot.ensures (omega (arith, long, c.slot_at-start.ensures)))

pub returns : goal.returns
unfolding counted slot_of
returns c =
    state-is (cond-t _ _
    (room_when _ _ _ _ _ c.find-i.ensures c.slot_at-start.ensures _ c.if-i-ge-MOST_JOBS.false
    (sym c.figures_fit.ensures ∙ c.if-not-figures_fit.false))) c.plain_reply.ensures (noted-is _ _ _ _ _
    c.find-i.ensures c.slot_at-start.ensures _ _ c.write_slot.ensures c.jobs_after.ensures)
