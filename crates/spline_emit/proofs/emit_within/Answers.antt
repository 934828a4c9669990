-- `spline_emit::emit_within`: the answers to its goals. Assumes nothing.
use native.Mathlib.Omega.{arith}
use Rattle.spline_emission.specs.SizeLaws.{numbers-few}
use Rattle.spline_emit.proofs.emit_within.Goals as goal

pub overflow_mul-job : goal.overflow_mul-job
overflow_mul-job c =
    let few = numbers-few c.requires.0 in
    rw c.count_channels-ch.ensures (omega (arith, few))

pub emit_for-requires : goal.emit_for-requires
emit_for-requires c = record { held_bound = rw c.count_channels-ch.ensures (omega arith); holds = c.requires }
