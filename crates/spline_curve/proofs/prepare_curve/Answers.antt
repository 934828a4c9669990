-- `spline_curve::prepare_curve`: the answers to its goals. Assumes nothing.
use native.Mathlib.Omega.{arith}
use Rattle.spline_curve.proofs.prepare_curve.Goals as goal

pub returns-then-n-lt2 : goal.returns-then-n-lt2
returns-then-n-lt2 c = record { tables = λ h. absurd (omega (arith, c.if-n-lt2.true)) }

pub prepare-requires : goal.prepare-requires
prepare-requires c =
    let of = c.requires.curved in
    record { le_n = (c.if-n-lt2.false, (of.few, of.narrow)); below = (of.metric, (of.points, of.weights)); n_in_bounds = c.requires.n_in_bounds }
