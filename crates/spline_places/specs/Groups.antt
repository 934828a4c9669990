-- DEFINITIONS. The rows of a held block, of the samples that its curve gives it. Assumes nothing.
use Rattle.std.specs.Prelude.{ℕ, ◌+◌, Bool, true, false, cond, not, ◌&&◌, ◌||◌, List, [], ◌∷◌, eqb, length, get_or, take, Float}
use Rattle.std.proofs.Math.Option.{Option, none, some}
use Rattle.floats.specs.Numbers.{bits, at}
use Rattle.floats.specs.Lists.{upto, keep, member}
use Rattle.motion.specs.Motion as motions
use Rattle.motion.specs.Motion.{g_one}
use Rattle.row_cells.specs.Row.{cell, has_point, out_row}
use Rattle.row_made.specs.Made.{made_row}
use Rattle.spline_channels.specs.Channels.{Spline, channels, place_of}

abbrev pub is_bspline : Spline → Bool
is_bspline s = motions.is_basis s.motion

-- the axis cells of a sample: its channels
unfoldable pub sample_cell : List ℕ → List Float → ℕ → Option ℕ
sample_cell cs p k = let w : Option ℕ = some (bits (at p (place_of k cs))) in cond (member k cs) w none

-- .. and of a block without samples: those that it programs itself; a B-spline's block has none
unfoldable pub own_cell : Spline → List ℕ → ℕ → Option ℕ
own_cell s r k = cond (member k s.axes && not (is_bspline s)) (cell r k) none

-- of a group the last row alone is unmarked, of a B-spline the curve's last: j counts the point blocks, n is how many there are
unfoldable pub is_marked : Spline → ℕ → ℕ → ℕ → ℕ → Bool
is_marked s n j len i = not (eqb (i + 1) len) || (is_bspline s && not (eqb (j + 1) n))

-- the first row of the first point block is a G1, later first rows have no motion
unfoldable pub point_group : Spline → List ℕ → ℕ → ℕ → List (List Float) → List ℕ → List (List ℕ)
point_group s cs n j run r =
    let motion : ℕ = cond (eqb j 0) g_one 0 in
    let bare = made_row s.axes r true motion false (own_cell s r) ∷ [] in
    let made = upto (λ (i : ℕ). made_row s.axes r (eqb i 0) motion (is_marked s n j (length run) i) (sample_cell cs (get_or run i []))) (length run) in
    cond (eqb (length run) 0) bare made

-- the group of held block i; a block without a point goes out unchanged, with its motion word
unfoldable pub held_group : Spline → List (List (List Float)) → ℕ → List (List ℕ)
held_group s runs i =
    let r = get_or s.blocks i [] in
    let j = length (keep (has_point s.axes) (take i s.blocks)) in
    let point = point_group s (channels s) (length runs) j (get_or runs j []) r in
    cond (has_point s.axes r) point (out_row r ∷ [])
