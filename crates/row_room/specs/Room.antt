-- DEFINITIONS. Room is judged for all rows of a call together: rules 2.2, 3.4. Assumes nothing.
use Rattle.std.specs.Prelude.{ℕ, ◌+◌, ◌/◌, Bool, cond, List, length, leb}
use Rattle.floats.specs.Lists.{flatten, spliced}
use Rattle.layout.specs.Layout.{row_words}

-- so many rows have room
abbrev pub has_room : ℕ → List ℕ → Bool
has_room n rows = leb n (length rows / row_words)

-- all rows of a call have room
abbrev pub fits : List (List ℕ) → List ℕ → Bool
fits out rows = has_room (length out) rows

-- rows written to the front of l where they and `own` more, those of the block after them, have room
unfoldable pub put_within : ℕ → List (List ℕ) → List ℕ → List ℕ
put_within own out l = cond (has_room (length out + own) l) (spliced l 0 (flatten out)) l
