-- `night_listed::put_listed`: the answers to its goals. Assumes nothing.
use native.Mathlib.Omega.{arith}
use Rattle.night_listed.proofs.Walking.{walked_none, row_fits_lem, walked_more, walked_all}
use Rattle.night_listed.proofs.put_listed.Goals as goal

pub loop-i-init : goal.loop-i-init
loop-i-init c = walked_none _ _ _ _ _ _ _ _ c.requires.word

pub put_row-now-requires : goal.put_row-now-requires
put_row-now-requires c = row_fits_lem _ _ _ _ _ _ c.requires c.loop-i-test.true c.loop-i.invariant

pub loop-i-preserved : goal.loop-i-preserved
loop-i-preserved c = walked_more _ _ _ _ _ _ c.loop-i.invariant c.warning_at-warned.ensures c.put_row-now.ensures

pub returns : goal.returns
returns c = walked_all _ _ _ _ _ _ (omega arith) c.loop-i.invariant
