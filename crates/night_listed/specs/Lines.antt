-- CONTRACTS. The lines that name blocks, stored behind what waits. Assumes nothing.
use Rattle.std.specs.Prelude.{ℕ, ◌+◌, ◌*◌, ◌≤◌, ◌<◌, ◌≡◌, Bool, true, cond, ◌&&◌, not, List, [], length}
use Rattle.layout.specs.Layout.{row_words}
use Rattle.row_cells.specs.Row.{line_of, motion_of}
use Rattle.tally_words.specs.Words.{bit}
use Rattle.still_curved.specs.Curved.{row_at, motion_after, motion_behind, still_curved}
use Rattle.csv_write.specs.Writer.{rows_writable}
use Rattle.csv_figures.specs.Out.{Wrote}
use Rattle.night_named.specs.Named.{further}
use Rattle.night_naming.specs.Naming.{listed_room, listed_line}
use Rattle.night_naming.specs.Pieces.{motion_words, PutIn}
use Rattle.night_listed.specs.declared.Lines.{Lines}
use Rattle.night_listed.specs.declared.Walk.{Walk}
use Rattle.night_listed.specs.Listed.{listed_text, listed_count}

-- ---- one row: it is lent, both motions have words, and there is room
pub record RowFits (rows : List ℕ) (i out : ℕ) (was : Walk) : Type 0 where
  pub lent : i * row_words + row_words ≤ length rows
  pub own : motion_of (row_at rows i) < motion_words
  pub word : was.motion < motion_words
  pub room : was.at + listed_room ≤ out
  pub most : was.lines ≤ i

-- whether its block is named there, and its line or nothing
abbrev pub named_then : List ℕ → ℕ → Walk → Bool
named_then rows i was = still_curved was.motion (row_at rows i) && not (further rows i && was.curved)

abbrev pub line_then : ℕ → ℕ → List ℕ → ℕ → ℕ → Walk → List ℕ
line_then job number rows i warning was =
    cond (named_then rows i was) (listed_line job number (line_of (row_at rows i)) (motion_after was.motion (row_at rows i)) warning) []

pub record RowIs (job number : ℕ) (rows : List ℕ) (i warning : ℕ) (was : Walk) (o : List ℕ) (r : Walk) (o' : List ℕ) : Type 0 where
  pub text : PutIn listed_room (line_then job number rows i warning was) o was.at o' r.at
  pub motion : r.motion ≡ motion_after was.motion (row_at rows i)
  pub word : r.motion < motion_words
  pub lines : r.lines ≡ was.lines + bit (named_then rows i was)
  pub curved : r.curved ≡ still_curved was.motion (row_at rows i)

-- ---- all rows: they are lent and have their texts, the motion in force has a word, and there is room
pub record ListFits (motion : ℕ) (rows : List ℕ) (count n out : ℕ) : Type 0 where
  pub lent : count * row_words ≤ length rows
  pub texts : rows_writable rows count ≡ true
  pub word : motion < motion_words
  pub room : n + listed_room * count ≤ out

-- they are stored and no longer than the room, and the motion in force and how many they are
pub record ListIs (job number m : ℕ) (rows : List ℕ) (count warning : ℕ) (o : List ℕ) (n : ℕ) (o' : List ℕ) (r : Lines) : Type 0 where
  pub text : Wrote o n (listed_text job number m rows count warning) o' r.at
  pub room : r.at ≤ n + listed_room * count
  pub motion : r.motion ≡ motion_behind m rows count
  pub word : r.motion < motion_words
  pub lines : r.lines ≡ listed_count m rows count
  pub most : r.lines ≤ count
