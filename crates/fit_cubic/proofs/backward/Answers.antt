-- `fit_cubic::backward`: the answers to its goals. Assumes nothing.
use mathlib.Core.Path.{refl, sym, ◌∙◌}
use native.Mathlib.Omega.{arith}
use lib.ListN.{length-set}
use Rattle.floats.specs.Numbers.{f0}
use Rattle.floats.specs.Lists.{Agrees}
use Rattle.fit_slopes.specs.Slopes.{bend}
use Rattle.floats.specs.Fill.{backing_first, backing_more, backing_end, filled-same}
use Rattle.fit_cubic.proofs.Cubics.{back_more, bend-is, bend-last, unspent_below}
use Rattle.fit_cubic.proofs.backward.Goals as goal

pub loop-j-init : goal.loop-j-init
unfolding Agrees
loop-j-init c =
    let start = c in
    let a = start.args in
    record {
      low = omega arith;
      last = bend-last _ _ _ (omega arith);
      done = backing_first a.r.now a.m (omega arith) (bend-last _ _ _ (omega arith) ∙ sym (bend-is _ _ _ _ (omega arith)));
      unspent = unspent_below {r = a.r.now} {i = a.m} a.m f0 (record { is = start.requires.agrees_2 }) (omega arith) (omega arith);
    }

pub loop-j-preserved : goal.loop-j-preserved
unfolding Agrees
loop-j-preserved c =
    let inv = c.loop-j.invariant in
    let eb = back_more _ _ _ _ _ (omega arith) (omega arith) (omega arith) c.step_at.ensures inv.last (inv.unspent.is _ (omega arith))
    (c.requires.agrees _ (omega arith)) in
    record {
      low = omega arith;
      last = eb;
      done = backing_more inv.done (omega arith) (simp length-set (omega arith)) (omega arith) (eb ∙ sym (bend-is _ _ _ _ (omega arith)));
      unspent = unspent_below _ _ inv.unspent (omega arith) (omega arith);
    }

pub returns : goal.returns
unfolding bend
returns c =
    backing_end (backing_more c.loop-j.invariant.done (omega arith) (simp length-set (omega arith)) (omega arith) refl) (simp length-set (omega arith))
    ∙ filled-same _ c.args.r.now _ _ _ (omega arith)
