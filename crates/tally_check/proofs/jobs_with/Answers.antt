-- `tally_check::jobs_with`: the answers to its goals. Assumes nothing.
use Rattle.std.proofs.Common.{◌≡◌, refl, ℕ, ◌∙◌, ap, arith}
use Rattle.row_cells.specs.Bits.{has}
use Rattle.tally_words.specs.Words.{jobs_in, try_at, count_if, bit, jobs_with}
use Rattle.tally_words.specs.Counting.{count-step, count_small, bit-small}
use Rattle.tally_check.proofs.jobs_with.Goals as goal

pub loop-i-init : goal.loop-i-init
unfolding count_if
loop-i-init c = refl

pub overflow_add-r : goal.overflow_add-r
overflow_add-r c = omega (arith, count_small _ _ _ c.loop-i.invariant, bit-small c.has_bit.result _ c.number_of-r.ensures)

pub loop-i-preserved : goal.loop-i-preserved
loop-i-preserved c =
    let tried = ap (λ (x : ℕ). has x c.args.b) c.try_at.ensures in
    count-step _ _ _ _ c.loop-i.invariant (c.number_of-r.ensures ∙ ap bit (c.has_bit.ensures ∙ tried))

pub returns : goal.returns
unfolding jobs_with
returns c =
    let e : c.loop-i.i ≡ jobs_in c.args.tally.now = omega arith in
    c.loop-i.invariant ∙ ap (count_if (λ (i : ℕ). has (try_at c.args.tally.now i) c.args.b)) e
