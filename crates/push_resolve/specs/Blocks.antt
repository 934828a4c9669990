-- DEFINITIONS. A block's motion and plane, the spline that it ends, the word that is news: rules 3.2, 3.3, 3.5, 3.8. Assumes nothing.
use Rattle.std.specs.Prelude.{ℕ, Bool, ◌&&◌, not, cond, List, get_or, eqb}
use Rattle.layout.specs.Layout.{w_warned}
use Rattle.motion.specs.Motion.{is_other}
use Rattle.row_cells.specs.Bits.{has}
use Rattle.row_cells.specs.Row.{motion_of, plane_of}
use Rattle.saved_state.specs.State.{motion_now, plane_now, held}

-- 3.2, 3.5: a block's own word, or the one in force where it has none
unfoldable pub or_now : ℕ → ℕ → ℕ
or_now v now = cond (eqb v 0) now v

abbrev pub motion_then : List ℕ → List ℕ → ℕ
motion_then st r = or_now (motion_of r) (motion_now st)

abbrev pub plane_then : List ℕ → List ℕ → ℕ
plane_then st r = or_now (plane_of r) (plane_now st)

-- 3.3: a held spline goes out before this block
unfoldable pub emits : List ℕ → List ℕ → Bool
emits st r = not (eqb (held st) 0) && not (eqb (motion_then st r) (motion_now st))

-- the blocks still held before this one
unfoldable pub kept : List ℕ → List ℕ → ℕ
kept st r = cond (emits st r) 0 (held st)

-- 3.8: a curve word that is not flattened, and was not said yet
unfoldable pub news : List ℕ → List ℕ → Bool
news st r = is_other (motion_of r) && not (has (get_or st w_warned 0) (motion_of r))
