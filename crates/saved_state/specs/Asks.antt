-- CONTRACTS. What reading the axis list and a point of a state asks. Assumes nothing.
use Rattle.std.specs.Prelude.{ℕ, ◌≤◌, ◌≡◌, List, length}
use Rattle.layout.specs.Layout.{list_codes, w_start, state_words}
use Rattle.saved_state.specs.State.{axis_count, geometric_mask}

pub record Listed (st : List ℕ) : Type 0 where
  pub long : length st ≡ state_words
  pub few : axis_count st ≤ list_codes

-- word w is a point's mask, gs that of the geometric axes
pub record PointOf (st : List ℕ) (w gs : ℕ) : Type 0 where
  pub long : length st ≡ state_words
  pub place : w ≤ w_start
  pub axes : gs ≡ geometric_mask st
