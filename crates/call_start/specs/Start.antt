-- DEFINITIONS. A fresh state, and what a start answers and leaves: 9 for the length alone, 1, 2. Assumes nothing.
use Rattle.std.specs.Prelude.{ℕ, ◌-◌, cond, List, length, get_or, ltb, eqb}
use Rattle.call_reply.specs.Replies.{plain, AfterState}
use Rattle.floats.specs.Lists.{upto}
use Rattle.layout.specs.Layout.{w_tolerance, w_axis_count, w_axes, w_motion, w_plane, w_degree, state_words}
use Rattle.motion.specs.Motion.{g_one}
use Rattle.row_cells.specs.Codes.{plane_xy}
use Rattle.saved_state.specs.State.{plain_degree, tol_ok, codes_ok}

-- word i of a fresh state: a straight move, plane XY, no position known
unfoldable pub fresh_word : ℕ → List ℕ → ℕ → ℕ
fresh_word tol axes i =
    cond (eqb i w_tolerance) tol
    (cond (eqb i w_axis_count) (length axes)
    (cond (ltb i w_motion) (get_or axes (i - w_axes) 0)
    (cond (eqb i w_motion) g_one (cond (eqb i w_plane) plane_xy (cond (eqb i w_degree) plain_degree 0)))))

unfoldable pub fresh : ℕ → List ℕ → List ℕ
fresh tol axes = upto (fresh_word tol axes) state_words

unfoldable pub start_spec : List ℕ → ℕ → List ℕ → AfterState
start_spec st tol axes =
    cond (eqb (length st) state_words)
    (cond (tol_ok tol)
    (cond (codes_ok axes) (record { reply = plain 0; state = fresh tol axes }) (record { reply = plain 2; state = st }))
    (record { reply = plain 1; state = st }))
    (record { reply = plain 9; state = st })
