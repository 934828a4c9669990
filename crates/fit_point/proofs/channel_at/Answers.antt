-- `fit_point::channel_at`: the answers to its goals. Assumes nothing.
use native.Mathlib.Omega.{arith}
use Rattle.fit_knots.specs.MemoryLaws.{cell-fits}
use Rattle.fit_point.proofs.Blends.{channel_in}
use Rattle.fit_point.proofs.channel_at.Goals as goal

pub cell-requires : goal.cell-requires
cell-requires c = cell-fits _ c.args.m _ _ _ (omega arith) c.requires.0 c.requires.1.1.0

pub cell-requires-2 : goal.cell-requires-2
cell-requires-2 c = cell-fits _ c.args.ch _ _ _ c.requires.0 (omega arith) c.requires.1.1.1

pub cell-requires-3 : goal.cell-requires-3
cell-requires-3 c = cell-fits _ c.args.m _ _ _ (omega arith) c.requires.0 c.requires.1.1.0

pub cell-requires-4 : goal.cell-requires-4
cell-requires-4 c = cell-fits _ c.args.ch _ _ _ c.requires.0 (omega arith) c.requires.1.1.1

pub returns : goal.returns
returns c = channel_in _ _ _ _ _ _ _ c.requires.0 c.cell.ensures c.cell-2.ensures c.cell-3.ensures c.cell-4.ensures c.blended.ensures
