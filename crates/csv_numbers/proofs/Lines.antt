-- LAWS. A line number that is written and read again is the same. Assumes nothing.
use Rattle.std.specs.Prelude.{◌≡◌, ℕ, ◌+◌, ◌*◌, ◌^◌, ◌<◌, [], take, Some}
use Rattle.std.proofs.Common.{sym, ap, ◌∙◌, le_of_eq, mod-eq_of_lt, zero-mul, zero-add, arith, append-nil, take_all}
use Rattle.layout.specs.Layout.{line_numbers}
use Rattle.csv_decimal.specs.Decimal.{width}
use Rattle.csv_decimal.specs.Widths.{some-width, width-ten, width-holds}
use Rattle.csv_fields.specs.Read.{run, num, line_number}
use Rattle.csv_figures.specs.Write.{whole_text}
use Rattle.csv_fields.specs.Scans.{run-nil}
use Rattle.csv_figures.specs.Figures.{figures-length}
use Rattle.csv_fields.specs.Readers.{line_at}
use Rattle.csv_numbers.proofs.Again.{run-figures, num-figures}

-- ---- the digits of a whole number are read back
pub whole_run : (v : ℕ) → run 10 (whole_text v) ≡ width v
whole_run v = ap (run 10) (sym (append-nil (whole_text v))) ∙ run-figures 10 (width v) v [] (width-ten v) run-nil

pub whole-num : (v : ℕ) → v < 10000000000 → num 0 (take (width v) (whole_text v)) ≡ v
whole-num v h =
    let w = width v in
    ap (num 0) (take_all w (whole_text v) (le_of_eq (figures-length w v)))
    ∙ num-figures w v 0 ∙ ap (λ (z : ℕ). 0 * 10 ^ w + z) (mod-eq_of_lt (width-holds v h)) ∙ ap (λ (z : ℕ). z + v) (zero-mul (10 ^ w)) ∙ zero-add v

pub line-again : (v : ℕ) → v < line_numbers → line_number (whole_text v) ≡ Some v
line-again v h =
    sym
    (line_at (whole_text v) (width v) v (sym (whole_run v)) (sym (whole-num v (omega arith)))
    (λ (e : width v ≡ 0). omega (arith, some-width v)) (sym (figures-length (width v) v)) h)
