-- LAWS. A point of the state by its mask. Assumes nothing.
use Prim.Native.Nat.{ℕ, ◌+◌}
use mathlib.Core.Path.{◌≡◌, sym, ◌∙◌, ap}
use mathlib.Core.Bool.{Bool, true, false, ◌&&◌, not}
use mathlib.Core.List.{List}
use native.Mathlib.Omega.{arith}
use lib.ListN.{get_or}
use borrow.Author.Tests.{lt-ltb}
use Rattle.layout.specs.Layout.{axis_codes, axis_masks}
use Rattle.row_cells.specs.Bits.{has}
use Rattle.row_numbers.specs.RowNumbers.{within}
use Rattle.floats.specs.Truth.{and_i, or_t, or_f, all_intro}
use Rattle.row_cells.specs.Masks.{has-none}
use Rattle.saved_state.specs.State.{point_at_ok, point_ok}
use Rattle.saved_state.specs.Asks.{PointOf}
use Rattle.saved_state.specs.Axes.{mask-has-axis}

pub point-absent : (st : List ℕ) (w k : ℕ) → has (get_or st w 0) k ≡ false → point_at_ok st w k ≡ true
unfolding point_at_ok
point-absent st w k h = or_t _ (ap not h)

pub point-none : (st : List ℕ) (w : ℕ) → get_or st w 0 ≡ 0 → point_ok st w ≡ true
unfolding point_ok
point-none st w e =
    and_i (lt-ltb (get_or st w 0) axis_masks (omega (arith, e)))
    (all_intro axis_codes (point_at_ok st w) (λ k h. point-absent st w k (rw e (has-none k))))

pub point-there : (st : List ℕ) (w gs k : ℕ) → PointOf st w gs → has (get_or st w 0) k ≡ true
    → point_at_ok st w k ≡ (has gs k && within (get_or st (w + 1 + k) 0))
unfolding point_at_ok
point-there st w gs k p h =
    or_f _ (ap not h) ∙ ap (λ (b : Bool). b && within (get_or st (w + 1 + k) 0)) (sym (ap (λ (m : ℕ). has m k) p.axes ∙ mask-has-axis st k))
