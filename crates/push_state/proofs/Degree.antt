-- LAWS. What a buffered block leans on: each store to the state, put together to the definition. Assumes nothing.
use Prim.Native.Nat.{ℕ, ◌+◌}
use mathlib.Core.Path.{◌≡◌}
use mathlib.Core.Bool.{cond}
use mathlib.Core.List.{List}
use lib.ListN.{set}
use lib.Dec.{eqb}
use Rattle.layout.specs.Layout.{w_degree, w_held, c_sd}
use Rattle.row_cells.specs.Row.{number}
use Rattle.saved_state.specs.State.{held, degree}
use Rattle.push_start.specs.Opened.{opened}
use Rattle.push_state.specs.Pushed.{degree_with, buffered}

pub buffer-done : (st r s : List ℕ) (d : ℕ) → s ≡ cond (eqb (held st) 0) (opened st) st → d ≡ degree_with (degree s) (number r c_sd)
    → set (set s w_degree d) w_held (held st + 1) ≡ buffered st r
unfolding buffered
buffer-done st r s d e f = rw (f, e)
