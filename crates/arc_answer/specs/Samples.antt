-- DEFINITIONS. The rows of an arc. Assumes nothing.
use Rattle.std.specs.Prelude.{ℕ, true, false, cond, List, eqb, Float}
use Rattle.std.proofs.Math.Option.{Option, none, some, get_or}
use Rattle.floats.specs.Numbers.{◌⊕◌, ◌⊖◌, ◌⊗◌, ◌⊘◌, num, bits, of_nat}
use Rattle.floats.specs.Lists.{member, opt}
use Rattle.trig.specs.Trig.{sin_steps, cos_steps}
use Rattle.arc_numbers.specs.Arc.{Ends, Arc, angle_at, radius_at}
use Rattle.motion.specs.Motion.{g_one}
use Rattle.row_cells.specs.Codes.{plane_u, plane_v}
use Rattle.row_cells.specs.Row.{cell}
use Rattle.row_made.specs.Made.{made_row}

-- an axis outside the plane goes evenly from its start to its end; it stays at its end where the start is not known
unfoldable pub ramp : Option ℕ → ℕ → Float → Float
ramp start end f = let s = num (get_or start end) in s ⊕ (num end ⊖ s) ⊗ f

-- the cells of the last row: each axis at its programmed end, one of the plane at its start where it has none
unfoldable pub last_cell : List ℕ → ℕ → Ends → List ℕ → ℕ → Option ℕ
last_cell gs plane e r k =
    cond (eqb k (plane_u plane)) (some (bits e.eu))
    (cond (eqb k (plane_v plane)) (some (bits e.ev))
    (cond (member k gs) (cell r k) none))

-- the cells of the others, at the fraction f
unfoldable pub mid_cell : List ℕ → ℕ → (ℕ → Option ℕ) → List ℕ → Arc → Float → ℕ → Option ℕ
mid_cell gs plane pos r c f k =
    let u : Option ℕ = some (bits (c.cu ⊕ radius_at c f ⊗ cos_steps (angle_at c f))) in
    let v : Option ℕ = some (bits (c.cv ⊕ radius_at c f ⊗ sin_steps (angle_at c f))) in
    let w : Option ℕ = opt (λ (end : ℕ). bits (ramp (pos k) end f)) (cell r k) in
    cond (eqb k (plane_u plane)) u (cond (eqb k (plane_v plane)) v (cond (member k gs) w none))

-- row k of n: only the last has no mark, and only the first a motion
unfoldable pub arc_row : List ℕ → ℕ → (ℕ → Option ℕ) → List ℕ → Ends → Arc → ℕ → ℕ → List ℕ
arc_row gs plane pos r e c n k =
    let last = made_row gs r (eqb k 1) g_one false (last_cell gs plane e r) in
    let mid = made_row gs r (eqb k 1) g_one true (mid_cell gs plane pos r c (of_nat k ⊘ of_nat n)) in
    cond (eqb k n) last mid
