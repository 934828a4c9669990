-- `csv_run::all_turns`: the answers to its goals. Assumes nothing.
use Rattle.std.proofs.Common.{refl, sym, ◌∙◌, inl, inr, lit<}
use Rattle.csv_status.specs.StatusLaws.{going}
use Rattle.csv_run.specs.RunLaws.{first-stands, stands_on_lem}
use Rattle.csv_run.proofs.all_turns.Goals as goal

pub loop-init : goal.loop-init
loop-init g c = first-stands _ _ _ _ c.first-s.ensures c.requires

pub step-s-requires : goal.step-s-requires
step-s-requires g c = (c.loop.invariant.all.within, c.loop.invariant.going (lit< tt))

pub returns-then-is_over : goal.returns-then-is_over
returns-then-is_over g c = (stands_on_lem _ _ _ _ _ 0 _ _ c.loop.invariant (lit< tt) c.step-s.ensures (inr refl)).all

pub loop-preserved : goal.loop-preserved
loop-preserved g c = stands_on_lem _ _ _ _ _ 1 _ _ c.loop.invariant (lit< tt) c.step-s.ensures (inl (going (sym c.is_over.ensures ∙ c.if-is_over.false)))

pub returns : goal.returns
returns g c = c.loop.invariant.all
