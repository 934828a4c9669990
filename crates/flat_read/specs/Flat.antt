-- DEFINITIONS. The row that a line of flattened row text is: rules 7.2 to 7.5, read back. Assumes nothing.
use Rattle.std.specs.Prelude.{ℕ, ◌-◌, cond, List, eqb, ltb, length, get_or, set, take, Option as CodeOption, Some, None}
use Rattle.std.proofs.Math.Option.{Option, none}
use Rattle.floats.specs.Lists.{opt}
use Rattle.layout.specs.Layout.{r_mark}
use Rattle.csv_line.specs.LineText.{comma}
use Rattle.csv_read.specs.Reader.{read_row}

-- where the row ends, and its mark, in an Option as code has it: the mark is the last field, empty on what was programmed (0), `1` on a sample (1)
unfoldable pub marked_end : List ℕ → CodeOption (ℕ × ℕ)
marked_end t =
    cond (ltb (length t) 2) None
    (cond (eqb (get_or t (length t - 1) 0) comma) (Some (length t - 1, 0))
    (cond (eqb (get_or t (length t - 1) 0) 49) (cond (eqb (get_or t (length t - 2) 0) comma) (Some (length t - 2, 1)) None) None))

-- the row that the fields before it are, with that mark
unfoldable pub marked_row : ℕ → List ℕ → Option (List ℕ)
marked_row mark t = opt (λ (r : List ℕ). set r r_mark mark) (read_row t)

abbrev pub marked_by : CodeOption (ℕ × ℕ) → List ℕ → Option (List ℕ)
marked_by (Some m) t = marked_row m.1 (take m.0 t)
marked_by None t = none

-- the row that the text of a line, without its CRLF, is; none where it is no flattened row text
unfoldable pub read_flat : List ℕ → Option (List ℕ)
read_flat t = marked_by (marked_end t) t
