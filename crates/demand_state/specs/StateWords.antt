-- LAWS. The words of a state after each step of a push, a seed and a close. Assumes nothing.
use Prim.Native.Nat.{ℕ, zero, suc, ◌+◌, ◌≤◌, ◌<◌}
use Rattle.std.specs.Prelude.{◌≡◌, Bool, true, false, ◌&&◌, set, eqb}
use Rattle.std.proofs.Math.Path.{refl, ap, ap₂}
use Rattle.std.proofs.Common.{sym, ◌∙◌, subst, ⊎_elim, eq-or-lt_of_le, le_of_suc-le-suc, length-set, eq-eqb, ne_eqb}
use Rattle.std.proofs.Math.Bool.{cond}
use mathlib.Core.List.{List}
use Rattle.std.proofs.Math.Option
use Rattle.std.proofs.Math.Option.{Option, none, some}
use native.Mathlib.Omega.{arith}
use Rattle.std.proofs.Math.ListN.{length, get_or}
use Rattle.std.proofs.Math.Seq.{get_or-set_same, get_or-set_other}
use Rattle.floats.specs.Lists.{member, spliced}
use Rattle.floats.specs.Fill.{at-upto}
use Rattle.floats.specs.Splice.{length-spliced, below-spliced, in_spliced}
use Rattle.layout.specs.Layout.{axis_codes, c_sd, r_cells, w_motion, w_plane, w_known, w_warned, w_start, w_degree, w_held, state_words, list_codes}
use Rattle.motion.specs.Motion.{is_spline}
use Rattle.row_cells.specs.Bits.{has, with_bit}
use Rattle.row_cells.specs.Row.{present_of, motion_of, number}
use Rattle.floats.specs.Truth.{by_bit, cond-t, cond-f}
use Rattle.row_cells.specs.Masks.{with-same, with-other}
use Rattle.saved_state.specs.State.{plain_degree, axis_count, geometric, motion_now, plane_now, held, degree, point_word, position, curve_start, placed}
use Rattle.push_resolve.specs.Blocks.{emits, motion_then, plane_then, news}
use Rattle.push_start.specs.OpenedLaws.{same-geometric, placed-keeps, forgotten-keeps, start_words, length-start_words}
use Rattle.push_start.specs.Opened.{opened}
use Rattle.push_state.specs.Pushed.{degree_with, buffered, track_to, push_state}
use Rattle.demand_calls.specs.Laws.{cond_both}
use Rattle.demand_state.specs.Lengths.{emptied, worded, laid, told, emptied-length, worded-length, told-length, push_state-steps, track_length}
use Rattle.demand_state.specs.Lengths.{opened-length}

-- ---- the axes stand below the motion
pub same-axes : (st st' : List ℕ) → length st ≡ state_words → length st' ≡ state_words → axis_count st ≤ list_codes →
    ((j : ℕ) → j < w_motion → get_or st' j 0 ≡ get_or st j 0)
    → geometric st' ≡ geometric st
same-axes st st' n n' few low = same-geometric st st' (record { long = n' ∙ sym n; low = low }) few n

-- ---- a spline opened: the positions are its start
module _ (st : List ℕ) (n : length st ≡ state_words) where
  pub opened-low : (j : ℕ) → j < w_start → get_or (opened st) j 0 ≡ get_or st j 0
  unfolding opened
  opened-low j h =
      get_or-set_other (spliced st w_start (start_words st)) w_degree j plain_degree 0 (λ e. omega arith)
      ∙ below-spliced st w_start (start_words st) j (omega (arith, n)) h

  pub opened-degree : degree (opened st) ≡ plain_degree
  unfolding opened
  opened-degree =
      get_or-set_same (spliced st w_start (start_words st)) w_degree plain_degree 0
      (subst (λ (k : ℕ). w_degree < k) (sym (length-spliced st w_start (start_words st) (omega (arith, n, length-start_words st)) ∙ n)) (omega arith))

  pub opened_in : (m : ℕ) → m < (axis_codes + 1) → get_or (opened st) (w_start + m) 0 ≡ get_or (start_words st) m 0
  unfolding opened
  opened_in m h =
      get_or-set_other (spliced st w_start (start_words st)) w_degree (w_start + m) plain_degree 0 (λ e. omega arith)
      ∙ in_spliced st w_start (start_words st) m (omega (arith, n)) (omega (arith, length-start_words st))

  again : (p : ℕ) (o : Option ℕ) (x : ℕ) (b : Bool) → o ≡ cond b (some x) none → cond b (some (Option.get_or o 0)) none ≡ o
  again p o x true e = rw e
  again p o x false e = rw e

  opened-start : (k : ℕ) → k < axis_codes → curve_start (opened st) k ≡ position st k
  unfolding point_word
  opened-start k h =
      let i : w_start + 1 + k ≡ w_start + suc k = omega arith in
      ap₂ (λ (a b : ℕ). cond (has a k) (some b) none) (opened_in 0 (omega arith))
      (ap (λ (j : ℕ). get_or (opened st) j 0) i ∙ opened_in (suc k) (omega arith) ∙ at-upto (λ (k : ℕ). Option.get_or (position st k) 0) axis_codes k 0 h)
      ∙ again 0 (position st k) (get_or st (w_known + 1 + k) 0) (has (get_or st w_known 0) k) refl

-- ---- a block buffered
module _ (st r : List ℕ) (n : length st ≡ state_words) where
  base : List ℕ
  base = cond (eqb (held st) 0) (opened st) st

  base-length : length base ≡ state_words
  unfolding base
  base-length = cond_both (λ (s : List ℕ). length s ≡ state_words) (eqb (held st) 0) (opened-length st n) n

  pub buffered-low : (j : ℕ) → j < w_start → get_or (buffered st r) j 0 ≡ get_or st j 0
  unfolding buffered base
  buffered-low j h =
      get_or-set_other (set base w_degree (degree_with (degree base) (number r c_sd))) w_held j (held st + 1) 0 (λ e. omega arith)
      ∙ get_or-set_other base w_degree j (degree_with (degree base) (number r c_sd)) 0 (λ e. omega arith)
      ∙ cond_both (λ (s : List ℕ). get_or s j 0 ≡ get_or st j 0) (eqb (held st) 0) (opened-low st n j h) refl

  pub buffered-held : held (buffered st r) ≡ held st + 1
  unfolding buffered base
  buffered-held =
      get_or-set_same (set base w_degree (degree_with (degree base) (number r c_sd))) w_held (held st + 1) 0
      (subst (λ (k : ℕ). w_held < k) (sym (length-set base w_degree (degree_with (degree base) (number r c_sd)) ∙ base-length)) (omega arith))

  buffered-degree : degree (buffered st r) ≡ degree_with (degree base) (number r c_sd)
  unfolding buffered base
  buffered-degree =
      get_or-set_other (set base w_degree (degree_with (degree base) (number r c_sd))) w_held w_degree (held st + 1) 0 (λ e. omega arith)
      ∙ get_or-set_same base w_degree (degree_with (degree base) (number r c_sd)) 0 (subst (λ (k : ℕ). w_degree < k) (sym base-length) (omega arith))

  buffered-between : (j : ℕ) → j < w_degree → get_or (buffered st r) j 0 ≡ get_or base j 0
  unfolding buffered base
  buffered-between j h =
      get_or-set_other (set base w_degree (degree_with (degree base) (number r c_sd))) w_held j (held st + 1) 0 (λ e. omega arith)
      ∙ get_or-set_other base w_degree j (degree_with (degree base) (number r c_sd)) 0 (λ e. omega arith)

  buffered-start : (k : ℕ) → k < axis_codes → curve_start (buffered st r) k ≡ curve_start base k
  unfolding point_word
  buffered-start k h =
      ap₂ (λ (a b : ℕ). cond (has a k) (some b) none) (buffered-between w_start (omega arith)) (buffered-between (w_start + 1 + k) (omega arith))

  -- the first of a spline, and a later one
  pub first-degree : held st ≡ 0 → degree (buffered st r) ≡ degree_with plain_degree (number r c_sd)
  unfolding base
  first-degree z = buffered-degree ∙ ap (λ (d : ℕ). degree_with d (number r c_sd)) (ap degree (cond-t (opened st) st (eq-eqb _ 0 z)) ∙ opened-degree st n)

  pub first-start : held st ≡ 0 → (k : ℕ) → k < axis_codes → curve_start (buffered st r) k ≡ position st k
  unfolding base
  first-start z k h = buffered-start k h ∙ ap (λ (s : List ℕ). curve_start s k) (cond-t (opened st) st (eq-eqb _ 0 z)) ∙ opened-start st n k h

  pub later-degree : (held st ≡ 0 → ⊥) → degree (buffered st r) ≡ degree_with (degree st) (number r c_sd)
  unfolding base
  later-degree z = buffered-degree ∙ ap (λ (s : List ℕ). degree_with (degree s) (number r c_sd)) (cond-f (opened st) st (ne_eqb _ 0 z))

  pub later-start : (held st ≡ 0 → ⊥) → (k : ℕ) → k < axis_codes → curve_start (buffered st r) k ≡ curve_start st k
  unfolding base
  later-start z k h = buffered-start k h ∙ ap (λ (s : List ℕ). curve_start s k) (cond-f (opened st) st (ne_eqb _ 0 z))

-- ---- a position
module _ (st : List ℕ) (n : length st ≡ state_words) (k x : ℕ) (h : k < axis_codes) where
  pub placed-mask : get_or (placed st k x) w_known 0 ≡ with_bit (get_or st w_known 0) k
  unfolding placed
  placed-mask =
      get_or-set_other (set st w_known (with_bit (get_or st w_known 0) k)) (w_known + 1 + k) w_known x 0 (λ e. omega arith)
      ∙ get_or-set_same st w_known (with_bit (get_or st w_known 0) k) 0 (omega (arith, n))

  pub placed-value : get_or (placed st k x) (w_known + 1 + k) 0 ≡ x
  unfolding placed
  placed-value =
      get_or-set_same (set st w_known (with_bit (get_or st w_known 0) k)) (w_known + 1 + k) x 0
      (subst (λ (m : ℕ). w_known + 1 + k < m) (sym (length-set st w_known (with_bit (get_or st w_known 0) k) ∙ n)) (omega arith))

  pub placed-here : position (placed st k x) k ≡ some x
  unfolding point_word
  placed-here =
      ap₂ (λ (a b : ℕ). cond (has a k) (some b) none) placed-mask placed-value
      ∙ ap (λ (b : Bool). cond b (some x) none) (with-same (get_or st w_known 0) k)

  pub placed-there : (j : ℕ) → (j ≡ k → ⊥) → position (placed st k x) j ≡ position st j
  unfolding point_word
  placed-there j d =
      ap₂ (λ (a b : ℕ). cond (has a j) (some b) none) placed-mask (placed-keeps st k x (w_known + 1 + j) (λ e. omega arith) (λ e. d (omega arith)))
      ∙ ap (λ (b : Bool). cond b (some (get_or st (w_known + 1 + j) 0)) none) (with-other (get_or st w_known 0) k j d)

-- ---- the positions of a block's cells
module _ (st r : List ℕ) (n : length st ≡ state_words) where
  takes : ℕ → Bool
  takes k = has (present_of r) k && member k (geometric st)

  cell_word : ℕ → ℕ
  cell_word k = get_or r (r_cells + k) 0

  track_step : (m : ℕ) → track_to (suc m) st r ≡ cond (takes m) (placed (track_to m st r) m (cell_word m)) (track_to m st r)
  unfolding track_to takes cell_word
  track_step m = refl

  long : (m : ℕ) → length (track_to m st r) ≡ state_words
  long m = track_length m st r ∙ n

  -- no word but the positions
  track_else : (m : ℕ) → m ≤ axis_codes → (j : ℕ) → (w_known ≤ j → j < w_warned → ⊥) → get_or (track_to m st r) j 0 ≡ get_or st j 0
  unfolding track_to
  track_else zero h j out = refl
  track_else (suc m) h j out =
      ap (λ (s : List ℕ). get_or s j 0) (track_step m)
      ∙ cond_both (λ (s : List ℕ). get_or s j 0 ≡ get_or st j 0) (takes m)
      (placed-keeps (track_to m st r) m (cell_word m) j (λ e. out (omega arith) (omega arith)) (λ e. out (omega arith) (omega arith))
      ∙ track_else m (omega arith) j out)
      (track_else m (omega arith) j out)

  track_past : (m : ℕ) → m ≤ axis_codes → (k : ℕ) → m ≤ k → position (track_to m st r) k ≡ position st k
  unfolding track_to
  track_past zero h k l = refl
  track_past (suc m) h k l =
      ap (λ (s : List ℕ). position s k) (track_step m)
      ∙ cond_both (λ (s : List ℕ). position s k ≡ position st k) (takes m)
      (placed-there (track_to m st r) (long m) m (cell_word m) (omega arith) k (λ e. omega arith) ∙ track_past m (omega arith) k (omega arith))
      (track_past m (omega arith) k (omega arith))

  tracked : ℕ → Option ℕ
  tracked k = cond (takes k) (some (cell_word k)) (position st k)

  track_here : (m : ℕ) → m < axis_codes → position (track_to (suc m) st r) m ≡ tracked m
  unfolding tracked
  track_here m h =
      ap (λ (s : List ℕ). position s m) (track_step m)
      ∙ by_bit (takes m)
      (λ b. rw b (placed-here (track_to m st r) (long m) m (cell_word m) h))
      (λ b. rw b (track_past m (omega arith) m (omega arith)))

  track_there : (k m : ℕ) → m < axis_codes → k < m → position (track_to m st r) k ≡ tracked k → position (track_to (suc m) st r) k ≡ tracked k
  track_there k m h g e =
      ap (λ (s : List ℕ). position s k) (track_step m)
      ∙ cond_both (λ (s : List ℕ). position s k ≡ tracked k) (takes m)
      (placed-there (track_to m st r) (long m) m (cell_word m) h k (λ z. omega arith) ∙ e)
      e

  track_in : (m : ℕ) → m ≤ axis_codes → (k : ℕ) → k < m → position (track_to m st r) k ≡ tracked k
  track_in zero h k l = absurd (omega arith)
  track_in (suc m) h k l = ⊎_elim
      (λ (e : k ≡ m). rw e (track_here m (omega arith)))
      (λ (g : k < m). track_there k m (omega arith) g (track_in m (omega arith) k g))
      (eq-or-lt_of_le (le_of_suc-le-suc l))

  -- 3.13: positions take the geometric cells present
  track_takes : (k : ℕ) → k < axis_codes
      → position (track_to axis_codes st r) k ≡ cond (has (present_of r) k && member k (geometric st)) (some (get_or r (r_cells + k) 0)) (position st k)
  unfolding tracked takes cell_word
  track_takes k h = track_in axis_codes (omega arith) k h

-- ---- the words of a push before it tracks
module _ (st r : List ℕ) (n : length st ≡ state_words) where
  pub emptied-low : (j : ℕ) → j < w_start → get_or (emptied st r) j 0 ≡ get_or st j 0
  unfolding emptied
  emptied-low j h = cond_both (λ (s : List ℕ). get_or s j 0 ≡ get_or st j 0) (emits st r) (forgotten-keeps st j n h) refl

  pub worded-else : (j : ℕ) → (j ≡ w_motion → ⊥) → (j ≡ w_plane → ⊥) → get_or (worded st r) j 0 ≡ get_or (emptied st r) j 0
  unfolding worded
  worded-else j a b =
      get_or-set_other (set (emptied st r) w_motion (motion_then st r)) w_plane j (plane_then st r) 0 b
      ∙ get_or-set_other (emptied st r) w_motion j (motion_then st r) 0 a

  pub worded-motion : motion_now (worded st r) ≡ motion_then st r
  unfolding worded
  worded-motion =
      get_or-set_other (set (emptied st r) w_motion (motion_then st r)) w_plane w_motion (plane_then st r) 0 (λ e. omega arith)
      ∙ get_or-set_same (emptied st r) w_motion (motion_then st r) 0 (omega (arith, emptied-length st r n))

  pub worded-plane : plane_now (worded st r) ≡ plane_then st r
  unfolding worded
  worded-plane =
      get_or-set_same (set (emptied st r) w_motion (motion_then st r)) w_plane (plane_then st r) 0
      (subst (λ (k : ℕ). w_plane < k) (sym (length-set (emptied st r) w_motion (motion_then st r) ∙ emptied-length st r n)) (omega arith))

  told-else : (j : ℕ) → (j ≡ w_warned → ⊥) → get_or (told st r) j 0 ≡ get_or (laid st r) j 0
  unfolding told
  told-else j a =
      cond_both (λ (s : List ℕ). get_or s j 0 ≡ get_or (laid st r) j 0) (news st r)
      (get_or-set_other (laid st r) w_warned j (with_bit (get_or (laid st r) w_warned 0) (motion_of r)) 0 a)
      refl

  -- words below the curve start are those of the state with its words set
  laid-low : (j : ℕ) → j < w_start → get_or (laid st r) j 0 ≡ get_or (worded st r) j 0
  unfolding laid
  laid-low j h =
      cond_both (λ (s : List ℕ). get_or s j 0 ≡ get_or (worded st r) j 0) (is_spline (motion_then st r))
      (buffered-low (worded st r) r (worded-length st r n) j h)
      refl

  -- every word of a push but the positions
  pub push_else : (j : ℕ) → (w_known ≤ j → j < w_warned → ⊥) → (j ≡ w_warned → ⊥) → get_or (push_state st r) j 0 ≡ get_or (laid st r) j 0
  push_else j out a =
      ap (λ (s : List ℕ). get_or s j 0) (push_state-steps st r)
      ∙ track_else (told st r) r (told-length st r n) axis_codes (omega arith) j out
      ∙ told-else j a

  pub push-low : (j : ℕ) → j < w_motion → get_or (push_state st r) j 0 ≡ get_or st j 0
  push-low j h =
      push_else j (λ a b. omega arith) (λ e. omega arith)
      ∙ laid-low j (omega arith)
      ∙ worded-else j (λ e. omega arith) (λ e. omega arith)
      ∙ emptied-low j (omega arith)

  pub push-motion : motion_now (push_state st r) ≡ motion_then st r
  push-motion = push_else w_motion (λ a b. omega arith) (λ e. omega arith) ∙ laid-low w_motion (omega arith) ∙ worded-motion

  pub push-plane : plane_now (push_state st r) ≡ plane_then st r
  push-plane = push_else w_plane (λ a b. omega arith) (λ e. omega arith) ∙ laid-low w_plane (omega arith) ∙ worded-plane

  -- words before the motion and the known positions, up to the buffer
  told-known : (j : ℕ) → w_known ≤ j → j < w_warned → get_or (told st r) j 0 ≡ get_or st j 0
  told-known j a b =
      told-else j (λ e. omega arith)
      ∙ laid-low j (omega arith)
      ∙ worded-else j (λ e. omega arith) (λ e. omega arith)
      ∙ emptied-low j (omega arith)

  told-position : (k : ℕ) → k < axis_codes → position (told st r) k ≡ position st k
  unfolding point_word
  told-position k h =
      ap₂ (λ (a b : ℕ). cond (has a k) (some b) none) (told-known w_known (omega arith) (omega arith))
      (told-known (w_known + 1 + k) (omega arith) (omega arith))

  told-low : (j : ℕ) → j < w_motion → get_or (told st r) j 0 ≡ get_or st j 0
  told-low j h = told-else j (λ e. omega arith) ∙ laid-low j (omega arith) ∙ worded-else j (λ e. omega arith) (λ e. omega arith) ∙ emptied-low j (omega arith)

  pub push-place : axis_count st ≤ list_codes → (k : ℕ) → k < axis_codes
      → position (push_state st r) k ≡ cond (has (present_of r) k && member k (geometric st)) (some (get_or r (r_cells + k) 0)) (position st k)
  push-place few k h =
      ap (λ (s : List ℕ). position s k) (push_state-steps st r)
      ∙ track_takes (told st r) r (told-length st r n) k h
      ∙ rw (same-axes st (told st r) n (told-length st r n) few told-low, told-position k h)
