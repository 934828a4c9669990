-- `call_start::write_fresh`: the answers to its goals. Assumes nothing.
use Rattle.std.proofs.Common.{◌≡◌, length, ◌∙◌, ap, arith}
use Rattle.floats.specs.Lists.{upto}
use Rattle.floats.specs.Fill.{filling-none, filling-more, filled-all}
use Rattle.call_start.specs.Start.{fresh}
use Rattle.call_start.proofs.write_fresh.Goals as goal

pub loop-i-init : goal.loop-i-init
loop-i-init c = filling-none

pub loop-i-preserved : goal.loop-i-preserved
loop-i-preserved c = filling-more c.loop-i.invariant (omega arith) c.fresh_word.ensures

pub returns : goal.returns
unfolding fresh
returns c =
    let e : c.loop-i.i ≡ length c.args.state.now = omega arith in
    filled-all _ _ e c.loop-i.invariant.is ∙ ap (upto _) c.requires
