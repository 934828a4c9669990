-- DEFINITIONS. The line that a row is written as: rules 7.11, 7.12. Assumes nothing.
use Rattle.std.specs.Prelude.{ℕ, ◌+◌, ◌*◌, ◌≤◌, Bool, true, cond, ◌&&◌, ◌≡◌, List, [], ◌∷◌, ◌++◌, ltb, eqb, length, take, drop, get_or, Option, Some, None}
use Rattle.std.proofs.lemmas.List.Edits.{sets}
use Rattle.floats.specs.Numbers.{num}
use Rattle.floats.specs.Lists.{upto, flatten, all}
use Rattle.layout.specs.Layout.{r_cells, row_words, line_numbers}
use Rattle.row_cells.specs.Codes.{plane_ok}
use Rattle.row_cells.specs.Bits.{has}
use Rattle.row_cells.specs.Row.{line_of, motion_of, plane_of, mark_of, present_of}
use Rattle.csv_figures.specs.Write.{whole_text, number_text, shown}
use Rattle.csv_words.specs.Words.{word_at, plane_text}
use Rattle.csv_line.specs.LineText.{crlf, column_count, code_at, joined}

-- bytes that a row's line is never more than
abbrev pub row_room : ℕ
row_room = 256

-- 7.5: an empty field is an absent cell
unfoldable pub cell_text : List ℕ → ℕ → List ℕ
cell_text r i = cond (has (present_of r) (code_at i)) (number_text (num (get_or r (r_cells + code_at i) 0))) []

unfoldable pub cell_shown : List ℕ → ℕ → Bool
cell_shown r i = cond (has (present_of r) (code_at i)) (shown (num (get_or r (r_cells + code_at i) 0))) true

unfoldable pub cell_texts : List ℕ → ℕ → List (List ℕ)
cell_texts r n = upto (cell_text r) n

-- 7.12: the fields of a line, but for the mark
abbrev pub head_fields : List ℕ → List (List ℕ)
head_fields r = whole_text (line_of r) ∷ word_at (motion_of r) ∷ plane_text (plane_of r) ∷ []

unfoldable pub row_fields : List ℕ → List (List ℕ)
row_fields r = head_fields r ++ cell_texts r column_count

-- 7.12: 1 on a marked row
unfoldable pub mark_text : List ℕ → List ℕ
mark_text r = cond (eqb (mark_of r) 0) [] (49 ∷ [])

unfoldable pub out_fields : List ℕ → List (List ℕ)
out_fields r = row_fields r ++ (mark_text r ∷ [])

unfoldable pub row_text : List ℕ → List ℕ
row_text r = joined (out_fields r) ++ crlf

-- a row has a text where its line number, its words and its numbers have one; refusal 10 is for the numbers, and no row that a flattener gives lacks the others
unfoldable pub head_ok : List ℕ → Bool
head_ok r = ltb (line_of r) line_numbers && (ltb (motion_of r) 16 && plane_ok (plane_of r))

unfoldable pub writable : List ℕ → Bool
writable r = head_ok r && all column_count (cell_shown r)

-- text that is stored from n on, or not: what stood before n stays, and where it is not, what stands from n on is not said
pub record Tried (ok : Bool) (t : List ℕ) (o : List ℕ) (n : ℕ) (o' : List ℕ) (r : Option ℕ) : Type 0 where
  pub answer : r ≡ cond ok (Some (n + length t)) None
  pub text : ok ≡ true → o' ≡ sets o n t
  pub kept : (m : ℕ) → m ≤ n → take m o' ≡ take m o
  pub same : length o' ≡ length o

-- rows that stand one after another, each with its text
abbrev pub row_at : List ℕ → ℕ → List ℕ
row_at rows i = take row_words (drop (i * row_words) rows)

unfoldable pub rows_text : List ℕ → ℕ → List ℕ
rows_text rows k = flatten (upto (λ (i : ℕ). row_text (row_at rows i)) k)

unfoldable pub rows_writable : List ℕ → ℕ → Bool
rows_writable rows k = all k (λ (i : ℕ). writable (row_at rows i))
