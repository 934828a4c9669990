-- `night_jobs::count_lot`: the answers to its goals. Assumes nothing.
use mathlib.Core.Path.{refl, ap, ◌∙◌}
use native.Mathlib.Omega.{arith}
use Rattle.tally_words.specs.Words.{count_if, bit}
use Rattle.tally_words.specs.Counting.{count-step, count_small, bit-small}
use Rattle.night_jobs.specs.Jobs.{count_lot}
use Rattle.night_jobs.proofs.count_lot.Goals as goal

pub loop-i-init : goal.loop-i-init
unfolding count_lot count_if
loop-i-init c = refl

pub overflow_add-r : goal.overflow_add-r
unfolding count_lot
overflow_add-r c = omega (arith, count_small _ _ _ c.loop-i.invariant, bit-small c.is_in.result _ c.number_of-r.ensures)

pub loop-i-preserved : goal.loop-i-preserved
unfolding count_lot
loop-i-preserved c = count-step _ _ _ _ c.loop-i.invariant (c.number_of-r.ensures ∙ ap bit c.is_in.ensures)
