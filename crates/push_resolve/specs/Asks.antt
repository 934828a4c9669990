-- CONTRACTS. What the steps of a push ask of the state and the row. Assumes nothing.
use Rattle.std.specs.Prelude.{ℕ, ◌≤◌, ◌≡◌, List, length}
use Rattle.layout.specs.Layout.{row_words, state_words, list_codes}
use Rattle.motion.specs.Motion.{last_motion}
use Rattle.row_cells.specs.Row.{motion_of}
use Rattle.saved_state.specs.State.{axis_count}

pub record Block (st r : List ℕ) : Type 0 where
  pub long : length st ≡ state_words
  pub few : axis_count st ≤ list_codes
  pub wide : length r ≡ row_words
  pub word : motion_of r ≤ last_motion
