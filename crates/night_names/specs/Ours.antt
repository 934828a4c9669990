-- DEFINITIONS. The names of what a night writes, which no FILE may have: rule 11.18. Assumes nothing.
use Rattle.std.specs.Prelude.{ℕ, Bool, ◌||◌, List}
use Rattle.csv_words.specs.Text.{bytes}
use Rattle.csv_words.specs.Words.{same}
use Rattle.night_path.specs.Names.{name_of, name_text}
use Rattle.night_ends.specs.Ends.{ends_in, ends_try}

-- the two tables, or the rows of a try
unfoldable pub is_our_name : List ℕ → Bool
is_our_name t = same t (bytes "tries") || (same t (bytes "curved") || ends_try t)

-- 11.18: of a path: its NAME, or rows that are not whole yet
unfoldable pub is_ours : List ℕ → Bool
is_ours t = ends_in t (bytes ".part") || is_our_name (name_text t (name_of t))
