-- `csv_power::over_power`: the answers to its goals. Assumes nothing.
use Rattle.std.proofs.Common.{le-ltb, lt-ltb}
use Rattle.csv_decimal.specs.Decimal.{quotient}
use Rattle.csv_power.proofs.over_power.Goals as goal
use Rattle.csv_power.proofs.over_power.Goals.{else-minus-via-then-minus+else-n-gt0, else-minus-via-else-minus}

pub returns-then-n-gt0 : goal.returns-then-n-gt0
unfolding quotient
returns-then-n-gt0 c =
    rw (c.if-minus.true, lt-ltb _ _ c.if-n-gt0.true, c.nearest_u64_to_f64.ensures, c.nearest_u64_to_f64-2.ensures, c.power.ensures)

pub returns-else-minus : goal.returns-else-minus
unfolding quotient
returns-else-minus c =
    elim c.else-minus.branch [
      | else-minus-via-then-minus+else-n-gt0 w ↦
          rw (w.if-minus.true, le-ltb _ _ w.if-n-gt0.false, c.nearest_u64_to_f64.ensures, c.nearest_u64_to_f64-2.ensures, c.power.ensures)
      | else-minus-via-else-minus w ↦ rw (w.if-minus.false, c.nearest_u64_to_f64.ensures, c.nearest_u64_to_f64-2.ensures, c.power.ensures)
    ]
