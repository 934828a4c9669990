-- CONTRACTS. The emission as the code has it: the spline of the state's words, how many rows it has at most, and how wide they are. Assumes nothing.
use Rattle.std.specs.Prelude.{ℕ, ◌+◌, ◌≤◌, ◌≡◌, List, length, get_or, take, drop}
use Rattle.layout.specs.Layout.{axis_codes, w_axes, w_start}
use Rattle.spline_channels.specs.Channels.{Spline, spline_of}
use Rattle.row_room.specs.Room.{put_within}
use Rattle.saved_state.specs.State.{axis_count, motion_now, degree, held, tolerance}
use Rattle.spline_plan.specs.Plans.{most_emitted}

-- the axis list of a state, and the words of its curve start
abbrev pub codes_of : List ℕ → List ℕ
codes_of st = take (axis_count st) (drop w_axes st)

abbrev pub start_of : List ℕ → List ℕ
start_of st = take axis_codes (drop (w_start + 1) st)

-- the spline that the code hands over
abbrev pub spline_in : List ℕ → List ℕ → Spline
spline_in st store = spline_of (motion_now st) (degree st) (tolerance st) (codes_of st) (get_or st w_start 0) (start_of st) store (held st)

-- n rows are counted, and written to the front of l where they and `own` more have room
pub record Put (own : ℕ) (out : List (List ℕ)) (l : List ℕ) (n : ℕ) (l1 : List ℕ) : Type 0 where
  pub count : n ≡ length out
  pub few : n ≤ most_emitted
  pub rows : l1 ≡ put_within own out l
