-- `night_args::field_at`: the answers to its goals. Assumes nothing.
use native.Mathlib.Omega.{arith}
use Rattle.night_args.specs.FieldLaws.{from-none, from_more, near-end, field-none, field-some}
use Rattle.night_args.proofs.field_at.Goals as goal

pub loop-init : goal.loop-init
loop-init c = (from-none _, omega arith)

pub returns-then-end-text : goal.returns-then-end-text
returns-then-end-text c = field-none c.loop.invariant.0 c.loop.invariant.1 c.field_end-end.ensures c.if-end-text.true (omega arith)

pub overflow_add-at : goal.overflow_add-at
overflow_add-at c = omega (arith, c.field_end-end.ensures, near-end c.args.text.now c.loop.at c.loop.invariant.1, c.if-end-text.false)

pub loop-preserved : goal.loop-preserved
loop-preserved c = (
  from_more c.loop.invariant.0 c.loop.invariant.1 c.field_end-end.ensures,
  omega (arith, c.field_end-end.ensures, near-end c.args.text.now c.loop.at c.loop.invariant.1, c.if-end-text.false),
)

pub slice_bounds-result-end : goal.slice_bounds-result-end
slice_bounds-result-end c = omega (arith, c.field_end.ensures, near-end c.args.text.now c.loop.at c.loop.invariant.1)

pub returns : goal.returns
returns c = field-some c.loop.invariant.0 c.loop.invariant.1 c.field_end.ensures (omega arith)
