-- `night_try::all_turns`: the answers to its goals. Assumes nothing.
use Rattle.std.proofs.Common.{refl, sym, ◌∙◌, inl, inr, lit<}
use Rattle.csv_status.specs.StatusLaws.{going}
use Rattle.night_turns.specs.TurnLaws.{first-stands, stands_on_lem}
use Rattle.night_try.proofs.all_turns.Goals as goal

pub loop-init : goal.loop-init
loop-init c = first-stands _ _ _ _ c.requires

pub step-s-requires : goal.step-s-requires
step-s-requires c = (c.loop.invariant.all.within, c.loop.invariant.going (lit< tt))

pub returns-then-is_over : goal.returns-then-is_over
returns-then-is_over c = (stands_on_lem {left = 0} c.loop.invariant (lit< tt) c.step-s.ensures (inr refl)).all

pub loop-preserved : goal.loop-preserved
loop-preserved c = stands_on_lem {left = 1} c.loop.invariant (lit< tt) c.step-s.ensures (inl (going (sym c.is_over.ensures ∙ c.if-is_over.false)))

pub returns : goal.returns
returns c = c.loop.invariant.all
