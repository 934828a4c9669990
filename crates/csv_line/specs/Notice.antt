-- DEFINITIONS. The lines of standard error: rule 7.13. Assumes nothing.
use Rattle.std.specs.Prelude.{ℕ, Bool, cond, List, [], ◌∷◌, ◌++◌}
use Rattle.csv_figures.specs.Write.{whole_text}
use Rattle.csv_words.specs.Text.{bytes}
use Rattle.csv_line.specs.LineText.{crlf}

-- 7.13: a warning's line, or a refusal's
unfoldable pub notice_text : ℕ → ℕ → Bool → List ℕ
notice_text line number refused = whole_text line ++ ((44 ∷ whole_text number) ++ (cond refused (bytes ",refused") [] ++ crlf))
