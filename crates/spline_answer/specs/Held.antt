-- DEFINITIONS. The spline that a state and its store hold, and its rows: rules 3.3, 5.1. Assumes nothing.
use Rattle.std.specs.Prelude.{ℕ, List}
use Rattle.floats.specs.Lists.{flatten}
use Rattle.spline_channels.specs.Channels.{Spline}
use Rattle.spline_answer.specs.Emission.{spline_groups}
use Rattle.saved_state.specs.State.{tolerance, geometric, motion_now, degree, curve_start, held_rows}

-- the spline that a state and its store hold
unfoldable pub held_spline : List ℕ → List ℕ → Spline
held_spline st store =
    record {
      motion = motion_now st;
      power = degree st;
      tol = tolerance st;
      axes = geometric st;
      start = curve_start st;
      blocks = held_rows st store;
    }

unfoldable pub emission : List ℕ → List ℕ → List (List ℕ)
emission st store = flatten (spline_groups (held_spline st store))
