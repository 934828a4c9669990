-- DEFINITIONS. The line that names a block that stays curved: rule 11.9. Assumes nothing.
use Rattle.std.specs.Prelude.{ℕ, cond, List, [], ◌∷◌, ◌++◌, eqb}
use Rattle.csv_figures.specs.Write.{whole_text}
use Rattle.csv_words.specs.Words.{word_at}
use Rattle.csv_line.specs.LineText.{crlf, joined}

-- bytes that such a line is never more than
abbrev pub listed_room : ℕ
listed_room = 64

-- 0 is no warning, and an empty field
unfoldable pub number_or_none : ℕ → List ℕ
number_or_none n = cond (eqb n 0) [] (whole_text n)

-- 11.9: job, try, source line, the motion in force, the block's warning or none
unfoldable pub listed_line : ℕ → ℕ → ℕ → ℕ → ℕ → List ℕ
listed_line job number line motion warning =
    joined (whole_text job ∷ whole_text number ∷ whole_text line ∷ word_at motion ∷ number_or_none warning ∷ []) ++ crlf
