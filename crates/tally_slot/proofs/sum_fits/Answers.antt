-- `tally_slot::sum_fits`: the answers to its goals. Assumes nothing.
use native.Mathlib.Omega.{arith}
use Rattle.tally_slot.specs.SlotLaws.{sum-test}
use Rattle.tally_slot.proofs.sum_fits.Goals as goal

pub returns : goal.returns
returns c = sum-test c.args.x c.args.y (omega arith)
