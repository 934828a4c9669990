-- `csv_cells::read_cells`: the answers to its goals. Assumes nothing.
use native.Mathlib.Omega.{arith}
use Rattle.csv_cells.proofs.Reading.{takes_none, takes-more, ends-short, ends_bad, ends-long, ends_well}
use Rattle.csv_cells.proofs.read_cells.Goals as goal

pub loop-i-init : goal.loop-i-init
loop-i-init c = takes_none _ _

pub returns-then-at-text : goal.returns-then-at-text
returns-then-at-text c = ends-short _ _ _ _ _ _ c.loop-i.invariant c.if-at-text.true c.loop-i-test.true

pub returns-in_default : goal.returns-in_default
returns-in_default c = ends_bad _ _ _ _ _ _ c.loop-i.invariant _ c.if-at-text.false c.loop-i-test.true c.in_default.ensures

pub loop-i-preserved : goal.loop-i-preserved
loop-i-preserved c = takes-more _ _ _ _ _ _ _ _ c.loop-i.invariant c.if-at-text.false c.loop-i-test.true c.in-Some.ensures

pub returns-then-at-text-2 : goal.returns-then-at-text-2
returns-then-at-text-2 c = ends-long _ _ _ _ _ _ c.loop-i.invariant (omega arith) c.if-at-text-2.true

pub returns : goal.returns
returns c = ends_well _ _ _ _ _ _ c.loop-i.invariant (omega arith) c.if-at-text-2.false
