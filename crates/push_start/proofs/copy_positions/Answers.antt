-- `push_start::copy_positions`: the answers to its goals. Assumes nothing.
use Rattle.std.proofs.Common.{◌≡◌, ℕ, ◌∙◌, ap, arith}
use Rattle.std.proofs.Math.Option.{Option, get_or}
use Rattle.floats.specs.Splice.{splicing_none, splicing_more}
use Rattle.layout.specs.Layout.{axis_codes}
use Rattle.push_start.proofs.Opening.{position-under}
use Rattle.push_start.proofs.copy_positions.Goals as goal

pub loop-k-init : goal.loop-k-init
loop-k-init c = splicing_none

pub loop-k-preserved : goal.loop-k-preserved
loop-k-preserved c =
    splicing_more c.loop-k.invariant (omega arith)
    (c.known_word.ensures
    ∙ ap (λ (o : Option ℕ). get_or o 0) (position-under _ _ _ _ c.loop-k.k c.loop-k.invariant c.requires c.loop-k-test.true))

pub returns : goal.returns
returns c = let e : c.loop-k.k ≡ axis_codes = omega arith in rw e at c.loop-k.invariant.is
