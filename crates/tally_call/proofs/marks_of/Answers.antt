-- `tally_call::marks_of`: the answers to its goals. Assumes nothing.
use Rattle.std.proofs.Common.{◌≡◌, arith}
use Rattle.tally_call.specs.CallLaws.{marked-none, marked_more, marked-small, marks-good, marks_bad}
use Rattle.tally_call.proofs.marks_of.Goals as goal

pub loop-i-init : goal.loop-i-init
loop-i-init c = marked-none _

pub returns-then-mark-gt1 : goal.returns-then-mark-gt1
returns-then-mark-gt1 c = marks_bad _ c.loop-i-test.true c.mark_at-mark.ensures c.if-mark-gt1.true

pub overflow_add-r : goal.overflow_add-r
overflow_add-r c = omega (arith, marked-small c.loop-i.invariant)

pub loop-i-preserved : goal.loop-i-preserved
loop-i-preserved c = marked_more c.loop-i.invariant c.mark_at-mark.ensures (omega arith)

pub returns : goal.returns
returns c = let e : c.loop-i.i ≡ c.args.n = omega arith in marks-good c.loop-i.invariant e
