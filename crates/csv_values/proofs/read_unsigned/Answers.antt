-- `csv_values::read_unsigned`: the answers to its goals. Assumes nothing.
use Rattle.std.proofs.Common.{arith}
use Rattle.std.proofs.lemmas.Grind.{common_steps}
use Rattle.csv_fields.specs.Scans.{run_length_lem}
use Rattle.csv_fields.specs.Readers.{uns_none, uns_whole, uns_point, uns_other, uns_low}
use Rattle.csv_values.proofs.read_unsigned.Goals as goal

pub returns-then-a-eq0 : goal.returns-then-a-eq0
returns-then-a-eq0 c = uns_none _ _ _ _ c.scan-a.ensures.0 c.scan-a.ensures.1 c.if-a-eq0.true

pub returns-in-None : goal.returns-in-None
returns-in-None c =
    let h = run_length_lem 9 c.args.s.now in
    uns_whole _ _ _ _ c.scan-a.ensures.0 c.scan-a.ensures.1 c.if-a-eq0.false (grind (arith, common_steps)) _ c.over_power.ensures

pub read_fraction-requires : goal.read_fraction-requires
read_fraction-requires c = uns_low _ _ _ c.scan-a.ensures.0 c.scan-a.ensures.1

pub returns-in-Some-eq46 : goal.returns-in-Some-eq46
returns-in-Some-eq46 c =
    uns_point _ _ _ _ c.scan-a.ensures.0 c.scan-a.ensures.1 c.if-a-eq0.false (grind (arith, common_steps)) (grind (arith, common_steps)) _
    c.read_fraction.ensures

pub returns-in-Some : goal.returns-in-Some
returns-in-Some c = uns_other _ _ _ _ c.scan-a.ensures.0 c.scan-a.ensures.1 c.if-a-eq0.false (grind (arith, common_steps)) (grind (arith, common_steps))
