-- DEFINITIONS. What the row text program says to what a call answered. Assumes nothing.
use Rattle.std.specs.Prelude.{ℕ, false, cond, List, [], eqb}
use Rattle.csv_line.specs.Notice.{notice_text}
use Rattle.csv_write.specs.Writer.{rows_text, rows_writable}
use Rattle.csv_count.specs.Count.{bad_text}
use Rattle.csv_out.specs.Say.{Say, refusal}

-- 0 is no warning
unfoldable pub warning_text : ℕ → ℕ → List ℕ
warning_text source warning = cond (eqb warning 0) [] (notice_text source warning false)

-- a call answered at a source line: all its rows and its warning, or its refusal, or that a number of them has no text
unfoldable pub answer : ℕ → ℕ → ℕ → ℕ → List ℕ → Say
answer source code count warning rows =
    let done : Say = record { refused = false; out = rows_text rows count; err = warning_text source warning } in
    cond (eqb code 0) (cond (rows_writable rows count) done (refusal source bad_text)) (refusal source code)
