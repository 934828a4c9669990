-- LAWS. No call changes the length of what it was lent. Assumes nothing.
use Rattle.std.specs.Prelude.{ℕ, zero, suc, ◌+◌, ◌*◌, ◌≤◌, ◌≡◌, refl, ◌&&◌, cond, get_or, set, eqb}
use Rattle.std.proofs.Common.{sym, ◌∙◌, ap, subst, arith}
use mathlib.Core.List.{List, ◌∷◌}
use Rattle.std.proofs.Math.Option
use Rattle.std.proofs.Math.ListN.{length, length-set}
use Rattle.floats.specs.Lists.{upto, member, spliced}
use Rattle.floats.specs.Fill.{length-upto}
use Rattle.floats.specs.Splice.{length-spliced}
use Rattle.layout.specs.Layout.{axis_codes, c_sd, row_words, w_motion, w_plane, w_known, w_warned, w_start, w_degree, w_held, state_words}
use Rattle.motion.specs.Motion.{is_spline}
use Rattle.row_cells.specs.Bits.{has, with_bit}
use Rattle.row_cells.specs.Row.{motion_of, present_of, number, out_row}
use Rattle.row_cells.proofs.RowLaws.{length-out}
use Rattle.floats.specs.Truth.{by_bit}
use Rattle.saved_state.specs.State.{plain_degree, held, degree, position, geometric, placed}
use Rattle.push_resolve.specs.Blocks.{emits, kept, motion_then, plane_then, news}
use Rattle.push_start.specs.Opened.{forgotten, opened}
use Rattle.push_state.specs.Pushed.{degree_with, buffered, track_to, push_state, push_store}
use Rattle.demand_calls.specs.Laws.{cond_both}
use Rattle.demand_state.specs.Accepted.{Pushed}

-- ---- the state
pub placed-length : (st : List ℕ) (k x : ℕ) → length (placed st k x) ≡ length st
unfolding placed
placed-length st k x =
    length-set (set st w_known (with_bit (get_or st w_known 0) k)) (w_known + 1 + k) x ∙ length-set st w_known (with_bit (get_or st w_known 0) k)

pub track_length : (n : ℕ) (st r : List ℕ) → length (track_to n st r) ≡ length st
unfolding track_to
track_length zero st r = refl
track_length (suc n) st r =
    cond_both (λ (s : List ℕ). length s ≡ length st) (has (present_of r) n && member n (geometric st))
    (placed-length (track_to n st r) n _ ∙ track_length n st r)
    (track_length n st r)

pub forgotten-length : (st : List ℕ) → length st ≡ state_words → length (forgotten st) ≡ state_words
unfolding forgotten
forgotten-length st e =
    let z : List ℕ = upto (λ (k : ℕ). 0) (axis_codes + 1) in
    let n : length z ≡ (axis_codes + 1) = length-upto _ _ in
    length-set (spliced st w_start z) w_held 0 ∙ length-spliced st w_start z (omega (arith, e, n)) ∙ e

pub opened-length : (st : List ℕ) → length st ≡ state_words → length (opened st) ≡ state_words
unfolding opened
opened-length st e =
    let p : List ℕ = upto (λ (k : ℕ). Option.get_or (position st k) 0) axis_codes in
    let n : length p ≡ axis_codes = length-upto _ _ in
    length-set (spliced st w_start (get_or st w_known 0 ∷ p)) w_degree plain_degree ∙ length-spliced st w_start (get_or st w_known 0 ∷ p) (omega (arith, e, n))
    ∙ e

buffered-length : (st r : List ℕ) → length st ≡ state_words → length (buffered st r) ≡ state_words
unfolding buffered
buffered-length st r e =
    let s : List ℕ = cond (eqb (held st) 0) (opened st) st in
    let n : length s ≡ state_words = cond_both (λ (s : List ℕ). length s ≡ state_words) (eqb (held st) 0) (opened-length st e) e in
    length-set (set s w_degree (degree_with (degree s) (number r c_sd))) w_held (held st + 1) ∙ length-set s w_degree (degree_with (degree s) (number r c_sd))
    ∙ n

-- the steps of a push on the state, one by one: emission, the words, the buffer, the word warned of
unfoldable pub emptied : List ℕ → List ℕ → List ℕ
emptied st r = cond (emits st r) (forgotten st) st

unfoldable pub worded : List ℕ → List ℕ → List ℕ
worded st r = set (set (emptied st r) w_motion (motion_then st r)) w_plane (plane_then st r)

unfoldable pub laid : List ℕ → List ℕ → List ℕ
laid st r = cond (is_spline (motion_then st r)) (buffered (worded st r) r) (worded st r)

unfoldable pub told : List ℕ → List ℕ → List ℕ
told st r = cond (news st r) (set (laid st r) w_warned (with_bit (get_or (laid st r) w_warned 0) (motion_of r))) (laid st r)

pub push_state-steps : (st r : List ℕ) → push_state st r ≡ track_to axis_codes (told st r) r
unfolding push_state told laid worded emptied
push_state-steps st r = refl

module _ (st r : List ℕ) (e : length st ≡ state_words) where
  pub emptied-length : length (emptied st r) ≡ state_words
  unfolding emptied
  emptied-length = cond_both (λ (s : List ℕ). length s ≡ state_words) (emits st r) (forgotten-length st e) e

  pub worded-length : length (worded st r) ≡ state_words
  unfolding worded
  worded-length =
      length-set (set (emptied st r) w_motion (motion_then st r)) w_plane (plane_then st r) ∙ length-set (emptied st r) w_motion (motion_then st r)
      ∙ emptied-length

  laid-length : length (laid st r) ≡ state_words
  unfolding laid
  laid-length = cond_both (λ (s : List ℕ). length s ≡ state_words) (is_spline (motion_then st r)) (buffered-length (worded st r) r worded-length) worded-length

  pub told-length : length (told st r) ≡ state_words
  unfolding told
  told-length =
      cond_both (λ (s : List ℕ). length s ≡ state_words) (news st r)
      (length-set (laid st r) w_warned (with_bit (get_or (laid st r) w_warned 0) (motion_of r)) ∙ laid-length) laid-length

  pub push_state-length : length (push_state st r) ≡ state_words
  push_state-length = ap length (push_state-steps st r) ∙ track_length axis_codes (told st r) r ∙ told-length

-- ---- the store: a block is put where a whole one is lent
pub push_store-length : (st store r : List ℕ) → Pushed st store r → length (push_store st store r) ≡ length store
unfolding push_store
push_store-length st store r p =
    by_bit (is_spline (motion_then st r))
    (λ b. rw b (length-spliced store (kept st r * row_words) (out_row r)
    (subst (λ (n : ℕ). kept st r * row_words + n ≤ length store) (sym (length-out r)) (p.room b))))
    (λ b. rw b)
