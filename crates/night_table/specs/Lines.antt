-- CONTRACTS. A line of tries, written and read. Assumes nothing.
use Rattle.std.specs.Prelude.{ℕ, ◌+◌, ◌≤◌, ◌≡◌, Bool, true, List, length}
use Rattle.csv_figures.specs.Out.{Wrote}
use Rattle.night_pieces.specs.Pieces.{front_room}
use Rattle.night_rest.specs.Rest.{rest_room}
use Rattle.night_table.specs.Table.{try_line}
use Rattle.night_table.specs.Back.{is_try, values_of}

-- bytes that it never is more than, without its texts
abbrev pub line_room : ℕ
line_room = front_room + rest_room

pub record PutLine (numbers file tolerance o : List ℕ) (n : ℕ) (o' : List ℕ) (r : ℕ) : Type 0 where
  pub text : Wrote o n (try_line numbers file tolerance) o' r
  pub near : r ≤ n + length file + length tolerance + line_room

-- the line of a try was read
pub record Taken (t is : List ℕ) (r : Bool) : Type 0 where
  pub good : r ≡ is_try t
  pub values : r ≡ true → is ≡ values_of t
