-- `csv_values::read_fraction`: the answers to its goals. Assumes nothing.
use Rattle.std.proofs.Common.{◌≡◌, length, arith}
use Rattle.csv_fields.specs.Scans.{run_length_lem}
use Rattle.csv_fields.specs.Readers.{frac_none, frac_some, frac_more, frac_few}
use Rattle.csv_values.proofs.read_fraction.Goals as goal
use Rattle.csv_values.proofs.read_fraction.Goals.{then-a-eq0-via-then-a-eq0, then-a-eq0-via-else-a-eq0+then-a-s}

pub returns-then-a-eq0 : goal.returns-then-a-eq0
returns-then-a-eq0 c =
    elim c.then-a-eq0.branch [
      | then-a-eq0-via-then-a-eq0 w ↦ frac_none _ _ _ _ _ c.scan-a.ensures.0 c.scan-a.ensures.1 w.if-a-eq0.true
      | then-a-eq0-via-else-a-eq0+then-a-s w ↦
          frac_more _ _ _ _ _ c.scan-a.ensures.0 c.scan-a.ensures.1 w.if-a-eq0.false (λ (z : c.scan-a.result.count ≡ length c.args.s.now). omega arith)
    ]

pub over_power-requires : goal.over_power-requires
over_power-requires c = frac_few _ _ c.scan-a.ensures.0

pub returns : goal.returns
returns c =
    let h = run_length_lem 6 c.args.s.now in
    frac_some _ _ _ _ _ c.scan-a.ensures.0 c.scan-a.ensures.1 c.if-a-eq0.false (omega arith) _ c.over_power.ensures
