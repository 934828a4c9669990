-- CONTRACTS. What drawing an arc asks of its slices and numbers, and the words that it writes. Assumes nothing.
use Rattle.std.specs.Prelude.{◌≡◌, ℕ, ◌+◌, ◌*◌, ◌^◌, ◌<◌, ◌≤◌, List, length}
use Rattle.floats.specs.Lists.{upto, flatten}
use Rattle.layout.specs.Layout.{axis_codes, row_words}
use Rattle.row_cells.specs.Row.{shown, axes_of}
use Rattle.arc_numbers.specs.Arc.{Ends, Arc}
use Rattle.arc_answer.specs.Samples.{arc_row}
use Rattle.arc_sample.specs.declared.Setting.{Setting}

pub record DrawOf (rows : List ℕ) (from : ℕ) (r : List ℕ) (gs : ℕ) (at : List ℕ) (n : ℕ) : Type 0 where
  pub room : from + n * row_words ≤ length rows
  pub some : 1 ≤ n
  pub long : length r ≡ row_words
  pub axes : gs < 2 ^ axis_codes
  pub wide : axis_codes ≤ length at

-- all n rows by a setting
abbrev pub setting_rows : Setting → List ℕ → List ℕ → Ends → Arc → ℕ → List ℕ
setting_rows f at r e c n = flatten (upto (λ (k : ℕ). arc_row (axes_of f.gs) f.plane (shown f.known at) r e c n (k + 1)) n)
