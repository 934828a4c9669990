-- LAWS. Where a line is refused, nothing goes to standard output. Assumes nothing.
use Rattle.std.specs.Prelude.{ℕ, ◌≡◌, true, List, [], take, Option, Some, None}
use Rattle.csv_line.specs.LineText.{end_of}
use Rattle.csv_spec.specs.Line.{Stand, on_end, csv_line}
use Rattle.csv_laws.specs.Quiet.{unread_quiet, text_quiet}

end_quiet : (s : Stand) (l : List ℕ) (x : Option ℕ) → (on_end s l x).stand.refused ≡ true → (on_end s l x).out ≡ []
end_quiet s l None e = unread_quiet s e
end_quiet s l (Some n) e = text_quiet s (take n l) e

-- a refused line writes no row
pub line_quiet : (s : Stand) (l : List ℕ) → (csv_line s l).stand.refused ≡ true → (csv_line s l).out ≡ []
unfolding csv_line
line_quiet s l e = end_quiet s l (end_of l) e
