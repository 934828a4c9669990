-- LAWS. A push: what each step of its state keeps, so that the next may read it. Assumes nothing.
use Rattle.std.specs.Prelude.{ℕ, zero, suc, ◌+◌, ◌<◌, ◌≤◌, ◌≡◌, refl, ◌&&◌, cond, List, length, get_or, set, eqb}
use Rattle.std.proofs.Common.{◌∙◌, arith}
use Rattle.floats.specs.Lists.{member}
use Rattle.floats.specs.Truth.{by_bit}
use Rattle.layout.specs.Layout.{axis_codes, r_cells, w_axis_count, w_known, w_degree, w_held, state_words, c_sd}
use Rattle.row_cells.specs.Bits.{has}
use Rattle.row_cells.specs.Row.{present_of, number}
use Rattle.saved_state.specs.State.{held, degree, geometric}
use Rattle.push_resolve.specs.Asks.{Block}
use Rattle.push_start.specs.Opened.{opened}
use Rattle.push_start.specs.OpenedLaws.{SameAxes, same_refl, same_trans, same_set, same-placed, same_cond, same-opened, placed-keeps}
use Rattle.push_state.specs.Pushed.{track_to, buffered, degree_with}

pub same-to : (k : ℕ) (st r : List ℕ) → SameAxes st (track_to k st r)
unfolding track_to
same-to zero st r = same_refl st
same-to (suc k) st r =
    same_cond (has (present_of r) k && member k (geometric st)) (same_trans (same-to k st r) (same-placed (track_to k st r) k (get_or r (r_cells + k) 0)))
    (same-to k st r)

-- what tracking keeps of what the next step reads: every word but the positions
pub to-keeps : (n : ℕ) (st r : List ℕ) (j : ℕ) → n ≤ axis_codes → (j ≡ w_known → ⊥) → ((k : ℕ) → k < axis_codes → j ≡ w_known + 1 + k → ⊥)
    → get_or (track_to n st r) j 0 ≡ get_or st j 0
unfolding track_to
to-keeps zero st r j h a b = refl
to-keeps (suc n) st r j h a b =
    by_bit (has (present_of r) n && member n (geometric st))
    (λ t. rw t (placed-keeps (track_to n st r) n (get_or r (r_cells + n) 0) j a (b n (omega arith)) ∙ to-keeps n st r j (omega arith) a b))
    (λ t. rw t (to-keeps n st r j (omega arith) a b))

-- ---- each step keeps what the next one asks
pub block_same : {st st' r : List ℕ} → Block st r → SameAxes st st' → Block st' r
block_same b s = record { long = s.long ∙ b.long; few = rw (s.low w_axis_count (omega arith)) b.few; wide = b.wide; word = b.word }

pub same-buffered : (st r : List ℕ) → length st ≡ state_words → SameAxes st (buffered st r)
unfolding buffered
same-buffered st r h =
    let s : List ℕ = cond (eqb (held st) 0) (opened st) st in
    same_trans (same_cond (eqb (held st) 0) (same-opened st h) (same_refl st))
    (same_trans (same_set s w_degree (degree_with (degree s) (number r c_sd)) (omega arith))
    (same_set (set s w_degree (degree_with (degree s) (number r c_sd))) w_held (held st + 1) (omega arith)))
