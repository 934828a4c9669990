-- DEFINITIONS. The rows of the layout by their form: rules 7.4 to 7.8. Assumes nothing.
use Rattle.std.specs.Prelude.{ℕ, ◌<◌, ◌≡◌, Bool, true, List, [], ◌∷◌, length, get_or}
use Rattle.std.proofs.Math.Option.{Option, none, some}
use Rattle.floats.specs.Numbers.{bits}
use Rattle.row_cells.specs.Codes.{plane_ok}
use Rattle.row_cells.specs.Row.{row_of}
use Rattle.csv_decimal.specs.Decimal.{quotient}
use Rattle.csv_numbers.specs.Grammar.{Written, Numbered}
use Rattle.csv_words.specs.Words.{word_at, plane_text}
use Rattle.csv_line.specs.LineText.{column_count, joined}
use Rattle.csv_cells.specs.Cells.{given}
use Rattle.csv_read.specs.Reader.{cells_in}

-- 7.5, 7.8: nothing stands for an absent cell, a number's text for its bits
pub data CellForm : List ℕ → Option ℕ → Type 0 where
  absent : CellForm [] none
  present : {t : List ℕ} {s : Bool} {n k : ℕ} → Written t s n k → CellForm t (some (bits (quotient s n k)))

-- 7.4: fs are the fields of a line, and row is their row
pub record FieldsForm (fs : List (List ℕ)) (row : List ℕ) : Type 0 where
  pub line_field : List ℕ
  pub motion_field : List ℕ
  pub plane_field : List ℕ
  pub cell_fields : List (List ℕ)
  pub line : ℕ
  pub motion : ℕ
  pub plane : ℕ
  pub parts : fs ≡ line_field ∷ motion_field ∷ plane_field ∷ cell_fields
  pub count : length cell_fields ≡ column_count
  pub line-is : Numbered line_field line
  pub motion-is : (word_at motion ≡ motion_field) × (motion < 16)
  pub plane-is : (plane_text plane ≡ plane_field) × (plane_ok plane ≡ true)
  pub cells_are : (i : ℕ) → i < column_count → CellForm (get_or cell_fields i []) (given (get_or cell_fields i []))
  pub row_is : row ≡ row_of line motion plane 0 0 (cells_in cell_fields)

pub record RowForm (t row : List ℕ) : Type 0 where
  pub fields : List (List ℕ)
  pub text : t ≡ joined fields
  pub form : FieldsForm fields row
