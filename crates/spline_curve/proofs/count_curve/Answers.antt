-- `spline_curve::count_curve`: the answers to its goals. Assumes nothing.
use native.Mathlib.Omega.{arith}
use Rattle.spline_curve.specs.Curves.{count_none}
use Rattle.spline_curve.proofs.count_curve.Goals as goal

pub returns-then-n-lt2 : goal.returns-then-n-lt2
returns-then-n-lt2 c = record { counts_after = count_none _ _ _ c.if-n-lt2.true; recalled = record { halvings = λ h. absurd (omega (arith, c.if-n-lt2.true)) } }

pub count_runs-requires : goal.count_runs-requires
count_runs-requires c =
    let at-if1 = c in
    let start = at-if1 in
    record { ready = start.requires.drawn.tables at-if1.if-n-lt2.false; n_in_bounds = start.requires.n_in_bounds }

pub returns : goal.returns
returns c =
    let at-count-runs = c in
    record { counts_after = at-count-runs.count_runs.ensures.counts_after; recalled = record { halvings = λ h. at-count-runs.count_runs.ensures.remembers } }
