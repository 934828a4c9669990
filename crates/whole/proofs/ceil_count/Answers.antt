-- `whole::ceil_count`: the answers to its goals. Assumes nothing.
use Rattle.std.proofs.Common.{arith}
use Rattle.whole.specs.Whole.{ceil_count}
use Rattle.whole.proofs.Whole.{in_range, few, ceil_is}
use Rattle.whole.proofs.ceil_count.Goals as goal

pub truncating_f64_to_u64-t-requires : goal.truncating_f64_to_u64-t-requires
truncating_f64_to_u64-t-requires c = let both = in_range _ c.if-x.true c.if-x-2.true in record { lower_bound = both.0; upper_bound = both.1 }

pub overflow_add-result : goal.overflow_add-result
overflow_add-result c =
    let t = c.truncating_f64_to_u64-t in
    let at = c in
    omega (arith, t.ensures, few at.args.x at.if-x.true at.if-x-2.true)

pub returns-then-nearest_u64_to_f64-x : goal.returns-then-nearest_u64_to_f64-x
unfolding ceil_count
returns-then-nearest_u64_to_f64-x c =
    let at = c in
    let x = at.args.x in
    let p = at.if-x.true in
    let q = at.if-x-2.true in
    let t = c.truncating_f64_to_u64-t.ensures in
    let n = c.nearest_u64_to_f64.ensures in
    let b = c.if-nearest_u64_to_f64-x.true in
    rw (p, q, ← ceil_is x p q, ← t, ← n, b)

pub returns-else-nearest_u64_to_f64-x : goal.returns-else-nearest_u64_to_f64-x
unfolding ceil_count
returns-else-nearest_u64_to_f64-x c =
    let at = c in
    let x = at.args.x in
    let p = at.if-x.true in
    let q = at.if-x-2.true in
    let t = c.truncating_f64_to_u64-t.ensures in
    let n = c.nearest_u64_to_f64.ensures in
    let b = c.if-nearest_u64_to_f64-x.false in
    rw (p, q, ← ceil_is x p q, ← t, ← n, b)

pub returns-else-x-2 : goal.returns-else-x-2
unfolding ceil_count
returns-else-x-2 c = rw (c.if-x.true, c.if-x-2.false)

pub returns-else-x : goal.returns-else-x
unfolding ceil_count
returns-else-x c = rw c.if-x.false
