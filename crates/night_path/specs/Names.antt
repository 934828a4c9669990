-- DEFINITIONS. The name of a file. Assumes nothing.
use Rattle.std.specs.Prelude.{ℕ, zero, suc, ◌-◌, Bool, cond, ◌&&◌, List, eqb, leb, length, get_or, take, drop}
use Rattle.csv_words.specs.Text.{bytes}
use Rattle.csv_words.specs.Words.{same}
use Rattle.night_path.specs.declared.Name.{Name}

abbrev pub slash : ℕ
slash = 47

-- the place behind the last slash among the first n bytes
unfoldable pub start_upto : List ℕ → ℕ → ℕ
start_upto t zero = 0
start_upto t (suc n) = cond (eqb (get_or t n 0) slash) (suc n) (start_upto t n)

abbrev pub start : List ℕ → ℕ
start t = start_upto t (length t)

-- the bytes from `from` on end in `.csv`
abbrev pub ending : ℕ
ending = 4

unfoldable pub ends_csv : List ℕ → ℕ → Bool
ends_csv t from = leb ending (length t - from) && same (drop (length t - ending) t) (bytes ".csv")

-- the last part, without `.csv`
unfoldable pub name_of : List ℕ → Name
name_of t = record { from = start t; upto = cond (ends_csv t (start t)) (length t - ending) (length t) }

abbrev pub name_text : List ℕ → Name → List ℕ
name_text t n = take (n.upto - n.from) (drop n.from t)
