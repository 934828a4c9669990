-- CONTRACTS. A block that is buffered: what writing it to the store asks and leaves. Assumes nothing.
use Rattle.std.specs.Prelude.{ℕ, ◌+◌, ◌*◌, ◌<◌, ◌≤◌, ◌≡◌, true, cond, List, length}
use Rattle.floats.specs.Lists.{spliced}
use Rattle.layout.specs.Layout.{row_words, most_held}
use Rattle.motion.specs.Motion.{spline_kind}
use Rattle.row_cells.specs.Row.{out_row}
use Rattle.push_resolve.specs.declared.Resolved.{Resolved}

-- a block that is buffered has room behind those that stay held
pub record Stores (b : Resolved) (store r : List ℕ) : Type 0 where
  pub wide : length r ≡ row_words
  pub few : spline_kind b.kind ≡ true → b.kept < most_held
  pub room : spline_kind b.kind ≡ true → b.kept * row_words + row_words ≤ length store

abbrev pub store_with : Resolved → List ℕ → List ℕ → List ℕ
store_with b store r = cond (spline_kind b.kind) (spliced store (b.kept * row_words) (out_row r)) store
