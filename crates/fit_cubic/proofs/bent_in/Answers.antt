-- `fit_cubic::bent_in`: the answers to its goals. Assumes nothing.
use native.Mathlib.Omega.{arith}
use Rattle.floats.specs.Fill.{filled_agrees}
use Rattle.fit_cubic.proofs.Knots.{filled-over}
use Rattle.fit_cubic.proofs.bent_in.Goals as goal

pub backward-requires-clause-agrees : goal.backward-requires-clause-agrees
backward-requires-clause-agrees g c = filled_agrees _ _ _ c.forward.ensures.d_after

pub backward-requires-clause-agrees_2 : goal.backward-requires-clause-agrees_2
backward-requires-clause-agrees_2 g c = filled_agrees _ _ _ c.forward.ensures.r_after

pub slopes-requires-clause-agrees : goal.slopes-requires-clause-agrees
slopes-requires-clause-agrees g c = filled_agrees _ _ _ c.backward.ensures

pub returns : goal.returns
returns g c = filled-over _ _ _ _ _ (omega arith) (omega arith) c.forward.ensures.d_after c.slopes.ensures
