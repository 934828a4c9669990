-- `night_args::count_of`: the answers to its goals. Assumes nothing.
use Rattle.std.proofs.Common.{sym, ◌∙◌}
use native.Mathlib.Omega.{arith}
use Rattle.night_args.proofs.Counting.{counts-none, counts-more, counts_bad, counts-over, counts-last}
use Rattle.night_args.specs.FieldLaws.{near-end}
use Rattle.night_args.proofs.count_of.Goals as goal

pub loop-k-init : goal.loop-k-init
loop-k-init c = (counts-none _, omega arith)

pub slice_bounds-is_tolerance-end : goal.slice_bounds-is_tolerance-end
slice_bounds-is_tolerance-end c = omega (arith, c.field_end-end.ensures, near-end c.args.text.now c.loop-k.at c.loop-k.invariant.1)

pub returns-then-not-is_tolerance : goal.returns-then-not-is_tolerance
returns-then-not-is_tolerance c =
    counts_bad c.loop-k.invariant.0 c.loop-k.invariant.1 c.field_end-end.ensures (sym c.is_tolerance.ensures ∙ c.if-not-is_tolerance.true)

pub returns-then-end-text : goal.returns-then-end-text
returns-then-end-text c =
    counts-last c.loop-k.invariant.0 c.loop-k.invariant.1 c.loop-k-test.true c.field_end-end.ensures
    (sym c.is_tolerance.ensures ∙ c.if-not-is_tolerance.false) c.if-end-text.true

pub loop-k-preserved : goal.loop-k-preserved
loop-k-preserved c = (
  counts-more c.loop-k.invariant.0 c.loop-k.invariant.1 c.loop-k-test.true c.field_end-end.ensures
      (sym c.is_tolerance.ensures ∙ c.if-not-is_tolerance.false),
  omega (arith, c.field_end-end.ensures, near-end c.args.text.now c.loop-k.at c.loop-k.invariant.1, c.if-end-text.false),
)

pub returns : goal.returns
returns c = counts-over c.loop-k.invariant.0 c.loop-k.invariant.1 (omega arith)
