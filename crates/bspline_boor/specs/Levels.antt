-- LAWS. A level of the triangle, row by row, and the numbers that it starts from. Assumes nothing.
use Rattle.std.specs.Prelude.{◌≡◌, List, ℕ, suc, ◌+◌, ◌*◌, ◌-◌, ◌<◌, ◌≤◌, length, drop, Float}
use Rattle.std.proofs.Common.{sym, ap, ◌∙◌, arith, length-drop, get_or-take, get_or-drop, length-take-le, le-ltb}
use Rattle.std.specs.Float.{nan}
use Rattle.floats.specs.Numbers.{at}
use Rattle.floats.specs.Lists.{row}
use Rattle.floats.specs.Fill.{at-upto}
use Rattle.bspline_tables.specs.Basis.{share, raised_at, levels}
use Rattle.bspline_tables.specs.Tables.{window}
use Rattle.bspline_tables.specs.RowLaws.{length-row}
use Rattle.bspline_low.specs.Low.{mix_of}

-- row j of the next level
pub level-at : (ks : List Float) (u : Float) (p k : ℕ) (d : List Float) (r j : ℕ) → length d ≡ p + 1 → j < p + 1 → suc r ≤ j
    → at (levels ks u p k d (suc r)) j ≡ mix_of (share ks u p k (suc r) j) (at (levels ks u p k d r) (j - 1)) (at (levels ks u p k d r) j)
unfolding levels raised_at
level-at ks u p k d r j n h g = at-upto _ (length d) j nan (omega arith) ∙ rw (le-ltb j (suc r) g)

-- number j of the window of channel c
pub window-at : (cw : List Float) (n p k c j : ℕ) {i : ℕ} → p ≤ k → k < n → j ≤ p → i ≡ c * n + (k - p) + j → at cw i ≡ at (window cw n p k c) j
window-at cw n p k c j in_span under h e =
    let z : c * n + (k - p + j) ≡ c * n + (k - p) + j = omega arith in
    sym (get_or-take (p + 1) (drop (k - p) (row cw n c)) j nan (omega arith)
    ∙ get_or-drop (k - p) (row cw n c) j nan
    ∙ get_or-take n (drop (c * n) cw) (k - p + j) nan (omega arith)
    ∙ get_or-drop (c * n) cw (k - p + j) nan
    ∙ ap (at cw) (z ∙ sym e))

pub window-length : (cw : List Float) (n p ch k : ℕ) → (ch + 1) * n ≤ length cw → p ≤ k → k < n → (c : ℕ) → c < ch + 1 → length (window cw n p k c) ≡ p + 1
window-length cw n p ch k fit h g c hc = length-take-le (p + 1) (drop (k - p) (row cw n c)) (rw length-drop (omega (arith, length-row cw n (ch + 1) c hc fit)))
