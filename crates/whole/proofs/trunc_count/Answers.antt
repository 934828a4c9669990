-- `whole::trunc_count`: the answers to its goals. Assumes nothing.
use Rattle.whole.specs.Whole.{trunc_count}
use Rattle.whole.proofs.Whole.{in_range, trunc_is}
use Rattle.whole.proofs.trunc_count.Goals as goal

pub truncating_f64_to_u64-requires : goal.truncating_f64_to_u64-requires
truncating_f64_to_u64-requires c = let both = in_range c.args.x c.if-x.true c.if-x-2.true in record { lower_bound = both.0; upper_bound = both.1 }

pub returns-then-x-2 : goal.returns-then-x-2
unfolding trunc_count
returns-then-x-2 c =
    let at = c in
    let x = at.args.x in
    let p = at.if-x.true in
    let q = at.if-x-2.true in
    rw (p, q, ← trunc_is x p q) c.truncating_f64_to_u64.ensures

pub returns-else-x-2 : goal.returns-else-x-2
unfolding trunc_count
returns-else-x-2 c = rw (c.if-x.true, c.if-x-2.false)

pub returns-else-x : goal.returns-else-x
unfolding trunc_count
returns-else-x c = rw c.if-x.false
