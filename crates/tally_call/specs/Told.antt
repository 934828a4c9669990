-- CONTRACTS. What one pass over the lent rows answers: whether the told numbers are a call, and that call. Assumes nothing.
use Rattle.std.specs.Prelude.{ℕ, cond, List, leb, Option, Some, None}
use Rattle.floats.specs.Lists.{all}
use Rattle.tally_call.specs.Calls.{mark_at, marks_in, rows_ok, told_ok, call_of}
use Rattle.tally_call.specs.declared.Call.{Call}

-- the marks of the first n rows
unfoldable pub marks_of : List ℕ → ℕ → Option ℕ
marks_of rows n = cond (all n (λ (i : ℕ). leb (mark_at rows i) 1)) (Some (marks_in rows n)) None

-- those of the rows that an accepted call says it wrote
unfoldable pub lent_marks : ℕ → List ℕ → Option ℕ
lent_marks count rows = cond (rows_ok count rows) (Some (marks_in rows count)) None

unfoldable pub told_call : ℕ → ℕ → ℕ → ℕ → List ℕ → Option Call
told_call kind code count warning rows = cond (told_ok kind code count warning rows) (Some (call_of kind code count warning rows)) None
