-- DEFINITIONS. What a block is refused for: rules 2.10, 2.19. Assumes nothing.
use Rattle.std.specs.Prelude.{ℕ, ◌/◌, min, Bool, ◌&&◌, cond, List, length, leb, eqb}
use Rattle.layout.specs.Layout.{row_words, most_held}
use Rattle.motion.specs.Motion.{is_spline}
use Rattle.row_check.specs.Check.{row_check}
use Rattle.saved_state.specs.State.{saved_check}
use Rattle.push_resolve.specs.Blocks.{motion_then, kept}

-- 2.10: 6, the store has no place for this block
unfoldable pub is_full : List ℕ → List ℕ → List ℕ → Bool
is_full st store r = is_spline (motion_then st r) && leb (min most_held (length store / row_words)) (kept st r)

-- 2.19: 0, or the number of the refusal, in the order 9, 8, 9, 4, 3, 5, 6
unfoldable pub push_check : List ℕ → List ℕ → List ℕ → ℕ
push_check st store r =
    cond (eqb (saved_check st store) 0)
    (cond (eqb (row_check r) 0) (cond (is_full st store r) 6 0) (row_check r))
    (saved_check st store)
