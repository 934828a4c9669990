-- `curve_flat::fit_at`: the answers to its goals. Assumes nothing.
use mathlib.Core.Path.{sym}
use native.Mathlib.Omega.{arith}
use lib.Seq.{length-take-le}
use Rattle.curve_walk.specs.Walks.{form_at}
use Rattle.curve_flat.proofs.fit_at.Goals as goal

pub slice_bounds-eval_fit-end-2 : goal.slice_bounds-eval_fit-end-2
slice_bounds-eval_fit-end-2 c = sym (length-take-le _ _ (omega (arith, c.requires.0.controls)))

pub eval_fit-requires : goal.eval_fit-requires
eval_fit-requires c = c.requires.1

pub returns : goal.returns
unfolding form_at
returns c = c.eval_fit.ensures
