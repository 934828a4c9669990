-- `whole::half_up_count`: the answers to its goals. Assumes nothing.
use Rattle.std.proofs.Common.{arith}
use Rattle.whole.specs.Whole.{half_up_count}
use Rattle.whole.proofs.Whole.{in_range}
use Rattle.whole.proofs.Half.{narrower, few, half-up-is}
use Rattle.whole.proofs.half_up_count.Goals as goal

pub truncating_f64_to_u64-t-requires : goal.truncating_f64_to_u64-t-requires
truncating_f64_to_u64-t-requires c =
    let if1 = c.if-x in
    let args = c.args in
    let both = in_range args.x if1.true (narrower args.x if1.true c.if-x-2.true) in
    record { lower_bound = both.0; upper_bound = both.1 }

pub overflow_add-result : goal.overflow_add-result
overflow_add-result c =
    let t = c.truncating_f64_to_u64-t in
    let at = c in
    omega (arith, t.ensures, few at.args.x at.if-x.true at.if-x-2.true)

pub returns-then-x-nearest_u64_to_f64 : goal.returns-then-x-nearest_u64_to_f64
unfolding half_up_count
returns-then-x-nearest_u64_to_f64 c =
    let at = c in
    let x = at.args.x in
    let p = at.if-x.true in
    let q = at.if-x-2.true in
    let t = c.truncating_f64_to_u64-t.ensures in
    let n = c.nearest_u64_to_f64.ensures in
    let b = c.if-x-nearest_u64_to_f64.true in
    rw (p, q, ← half-up-is x p q, ← t, ← n, b)

pub returns-else-x-nearest_u64_to_f64 : goal.returns-else-x-nearest_u64_to_f64
unfolding half_up_count
returns-else-x-nearest_u64_to_f64 c =
    let at = c in
    let x = at.args.x in
    let p = at.if-x.true in
    let q = at.if-x-2.true in
    let t = c.truncating_f64_to_u64-t.ensures in
    let n = c.nearest_u64_to_f64.ensures in
    let b = c.if-x-nearest_u64_to_f64.false in
    rw (p, q, ← half-up-is x p q, ← t, ← n, b)

pub returns-else-x-2 : goal.returns-else-x-2
unfolding half_up_count
returns-else-x-2 c = rw (c.if-x.true, c.if-x-2.false)

pub returns-else-x : goal.returns-else-x
unfolding half_up_count
returns-else-x c = rw c.if-x.false
