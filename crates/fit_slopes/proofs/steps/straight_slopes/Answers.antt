-- `fit_slopes::steps::straight_slopes`: the answers to its goals. Assumes nothing.
use native.Mathlib.Omega.{arith}
use Rattle.fit_slopes.proofs.Slopes.{both-filled}
use Rattle.fit_slopes.proofs.steps.straight_slopes.Goals as goal

pub returns : goal.returns
returns c = both-filled c.args.out.now (omega arith) c.secant_at-m.ensures
