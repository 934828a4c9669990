-- DEFINITIONS. What a block leaves in the state and the store: rules 3.8, 3.10, 3.12, 3.13, 3.16. Assumes nothing.
use Rattle.std.specs.Prelude.{ℕ, zero, suc, ◌+◌, ◌*◌, min, max, ◌&&◌, cond, List, get_or, set, eqb, Float}
use Rattle.std.proofs.Math.Option.{Option, none, some}
use Rattle.floats.specs.Lists.{member, spliced}
use Rattle.whole.specs.Whole.{trunc_count}
use Rattle.layout.specs.Layout.{axis_codes, c_sd, r_cells, row_words, w_motion, w_plane, w_warned, w_degree, w_held, most_degree}
use Rattle.motion.specs.Motion.{is_spline}
use Rattle.row_cells.specs.Bits.{has, with_bit}
use Rattle.row_cells.specs.Row.{number, motion_of, present_of, out_row}
use Rattle.saved_state.specs.State.{degree, held, geometric, placed}
use Rattle.push_resolve.specs.Blocks.{motion_then, plane_then, emits, kept, news}
use Rattle.push_start.specs.Opened.{forgotten, opened}

-- ---- the state afterwards. 3.13: positions take the geometric cells present
unfoldable pub track_to : ℕ → List ℕ → List ℕ → List ℕ
track_to zero st r = st
track_to (suc k) st r = let s = track_to k st r in cond (has (present_of r) k && member k (geometric st)) (placed s k (get_or r (r_cells + k) 0)) s

-- 3.12: the degree that SD sets
unfoldable pub degree_with : ℕ → Option Float → ℕ
degree_with d none = d
degree_with d (some x) = max 1 (min most_degree (trunc_count x))

unfoldable pub buffered : List ℕ → List ℕ → List ℕ
buffered st r =
    let s = cond (eqb (held st) 0) (opened st) st in
    set (set s w_degree (degree_with (degree s) (number r c_sd))) w_held (held st + 1)

unfoldable pub push_state : List ℕ → List ℕ → List ℕ
push_state st r =
    let s1 = cond (emits st r) (forgotten st) st in
    let s2 = set (set s1 w_motion (motion_then st r)) w_plane (plane_then st r) in
    let s3 = cond (is_spline (motion_then st r)) (buffered s2 r) s2 in
    let s4 = cond (news st r) (set s3 w_warned (with_bit (get_or s3 w_warned 0) (motion_of r))) s3 in
    track_to axis_codes s4 r

-- 3.10, 3.16: the store afterwards
unfoldable pub push_store : List ℕ → List ℕ → List ℕ → List ℕ
push_store st store r = cond (is_spline (motion_then st r)) (spliced store (kept st r * row_words) (out_row r)) store
