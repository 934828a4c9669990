-- `csv_fields::read_line`: the answers to its goals. Assumes nothing.
use Rattle.std.proofs.Common.{◌≡◌, arith}
use Rattle.csv_fields.specs.Readers.{line-none, line_at, line-high, line-more}
use Rattle.csv_fields.proofs.read_line.Goals as goal
use Rattle.csv_fields.proofs.read_line.Goals.{else-a-gt0-via-then-a-gt0+then-a-s+else-a-lt-LINE_NUMBERS, else-a-gt0-via-then-a-gt0+else-a-s}
use Rattle.csv_fields.proofs.read_line.Goals.{else-a-gt0-via-else-a-gt0}

pub returns-then-a-lt-LINE_NUMBERS : goal.returns-then-a-lt-LINE_NUMBERS
returns-then-a-lt-LINE_NUMBERS c =
    line_at _ _ _ c.scan-a.ensures.0 c.scan-a.ensures.1 (λ (z : c.scan-a.result.count ≡ 0). omega arith) c.if-a-s.true c.if-a-lt-LINE_NUMBERS.true

pub returns : goal.returns
returns c =
    elim c.else-a-gt0.branch [
      | else-a-gt0-via-then-a-gt0+then-a-s+else-a-lt-LINE_NUMBERS w ↦
          line-high _ _ _ c.scan-a.ensures.0 c.scan-a.ensures.1 (λ (z : c.scan-a.result.count ≡ 0). omega arith) w.if-a-s.true w.if-a-lt-LINE_NUMBERS.false
      | else-a-gt0-via-then-a-gt0+else-a-s w ↦
          line-more _ _ _ c.scan-a.ensures.0 c.scan-a.ensures.1 (λ (z : c.scan-a.result.count ≡ 0). omega arith) w.if-a-s.false
      | else-a-gt0-via-else-a-gt0 w ↦ line-none _ _ _ c.scan-a.ensures.0 c.scan-a.ensures.1 (omega arith)
    ]
