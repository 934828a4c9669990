-- `spline_gather::first_value`: the answers to its goals. Assumes nothing.
use mathlib.Core.Path.{sym, ap, ◌∙◌}
use native.Mathlib.Omega.{arith}
use lib.ListN.{length}
use Rattle.spline_channels.proofs.ChannelLaws.{block-length}
use Rattle.spline_points.specs.Curve.{first-is, first_step, first-end}
use Rattle.spline_gather.proofs.first_value.Goals as goal

pub loop-i-init : goal.loop-i-init
loop-i-init c = first-is _ _

pub next_value-value-requires : goal.next_value-value-requires
next_value-value-requires c = (ap length c.block.ensures ∙ block-length _ _ (omega arith), omega arith)

pub loop-i-preserved : goal.loop-i-preserved
loop-i-preserved c =
    let inv = c.loop-i.invariant in
    inv ∙ first_step _ _ _ _ _ _ _ (omega arith) c.block.ensures c.next_value-value.ensures

pub returns : goal.returns
returns c = sym (c.loop-i.invariant ∙ first-end _ _ _ _ (omega arith))
