-- `curve_chords::chord_parameters`: the answers to its goals. Assumes nothing.
use mathlib.Core.Path.{◌≡◌, refl, ◌∙◌}
use Prim.Native.Nat.{◌-◌, ◌+◌}
use native.Mathlib.Omega.{arith}
use lib.ListN.{length-set}
use Rattle.curve_metric.specs.Metric.{chord_to}
use Rattle.floats.specs.Fill.{filling-first, filling-more, filled-same, two-rows}
use native.Mathlib.Nat.{zero-mul}
use Rattle.curve_chords.proofs.Chords.{chord-more, next_start}
use Rattle.curve_chords.proofs.chord_parameters.Goals as goal

pub loop-k-init : goal.loop-k-init
unfolding chord_to
loop-k-init c =
    let args = c.args in
    (rw zero-mul, (refl, filling-first args.out.now (omega arith) refl))

pub overflow_add-mid : goal.overflow_add-mid
overflow_add-mid c = omega (arith, two-rows (c.loop-k.k - 1) c.args.n _ _ _ (omega arith) c.requires.n_nonzero.1.0 c.loop-k.invariant.0)

pub loop-k-preserved : goal.loop-k-preserved
loop-k-preserved c =
    let inv = c.loop-k.invariant in
    let et = chord-more _ _ _ _ c.loop-k.k _ c.loop-k.auto.k (omega arith) inv.0 inv.1.0 c.gap2.ensures c.root-t.ensures in
    let same : c.loop-k.k + 1 - 1 ≡ c.loop-k.k = omega arith in
    (next_start _ _ _ (omega arith) inv.0, (rw same et, filling-more inv.1.1 (omega (arith, inv.1.1.same, length-set c.args.out.now 0)) et))

pub returns : goal.returns
returns c =
    let end : c.loop-k.k ≡ c.args.n = omega arith in
    rw end at (c.loop-k.invariant.1.1.is ∙ filled-same _ c.args.out.now c.loop-k.k 0 _ c.loop-k.auto.k)
