-- LAWS. What the steps of a push lean on: each put together to the whole state of the definition. Assumes nothing.
use Prim.Native.Nat.{ℕ, ◌≤◌}
use mathlib.Core.Path.{◌≡◌, sym, ◌∙◌, ap}
use mathlib.Core.Bool.{Bool, cond}
use mathlib.Core.List.{List}
use native.Mathlib.Omega.{arith}
use lib.ListN.{length, get_or, set}
use lib.Seq.{get_or-set_other}
use Rattle.floats.specs.Lists.{member}
use Rattle.layout.specs.Layout.{axis_codes, w_motion, w_plane, w_warned, w_held, state_words, most_held}
use Rattle.motion.specs.Motion.{spline_kind, is_spline}
use Rattle.row_cells.specs.Bits.{mask_sum, with_bit}
use Rattle.row_cells.specs.Row.{motion_of}
use Rattle.floats.specs.Truth.{by_bit}
use Rattle.saved_state.specs.State.{held, geometric_mask}
use Rattle.push_resolve.specs.declared.Resolved.{Resolved}
use Rattle.push_resolve.specs.Resolved.{resolved}
use Rattle.push_start.specs.Opened.{forgotten}
use Rattle.push_state.specs.Pushed.{buffered, track_to, push_state}
use Rattle.push_resolve.specs.Asks.{Block}
use Rattle.push_start.specs.OpenedLaws.{SameAxes, same-geometric, same_refl, same_trans, same_set, same_cond, same-forgotten, held-forgotten}
use Rattle.push_state.specs.PushLaws.{block_same, same-buffered}

pub record Step1 (st r s1 : List ℕ) (b : Resolved) : Type 0 where
  pub block : Block st r
  pub told : b ≡ resolved st r
  pub is : s1 ≡ cond b.emits (forgotten st) st

pub step_1 : (st r s1 : List ℕ) (b : Resolved) → Block st r → b ≡ resolved st r → s1 ≡ cond b.emits (forgotten st) st → Step1 st r s1 b
step_1 st r s1 b k e h = record { block = k; told = e; is = h }

module _ (st r s1 s2 : List ℕ) (b : Resolved) (p : Step1 st r s1 b) (h2 : s2 ≡ set (set s1 w_motion b.motion) w_plane b.plane) where
  same_2 : SameAxes st s2
  same_2 =
      let s : List ℕ = cond b.emits (forgotten st) st in
      rw (h2, p.is)
      (same_trans (same_cond b.emits (same-forgotten st p.block.long) (same_refl st))
      (same_trans (same_set s w_motion b.motion (omega arith)) (same_set (set s w_motion b.motion) w_plane b.plane (omega arith))))

  pub block_2 : Block s2 r
  block_2 = block_same p.block same_2

  pub held_2 : held st ≤ most_held → held s2 ≤ most_held
  held_2 l =
      let other-plane = get_or-set_other (set s1 w_motion b.motion) w_plane w_held b.plane 0 (λ e. omega arith) in
      let other-motion = get_or-set_other s1 w_motion w_held b.motion 0 (λ e. omega arith) in
      rw (h2, other-plane, other-motion, p.is)
      (by_bit b.emits (λ t. rw (t, held-forgotten st p.block.long) (omega arith)) (λ t. rw t l))

  module _ (s3 : List ℕ) (spline : Bool) (h3 : s3 ≡ cond spline (buffered s2 r) s2) where
    same_3 : SameAxes st s3
    same_3 = rw h3 (same_cond spline (same_trans same_2 (same-buffered s2 r block_2.long)) same_2)

    pub long_3 : length s3 ≡ state_words
    long_3 = same_3.long ∙ p.block.long

    module _ (s4 : List ℕ) (h4 : s4 ≡ cond b.news (set s3 w_warned (with_bit (get_or s3 w_warned 0) (motion_of r))) s3) where
      same_4 : SameAxes st s4
      same_4 =
          rw h4 (same_cond b.news (same_trans same_3 (same_set s3 w_warned (with_bit (get_or s3 w_warned 0) (motion_of r)) (omega arith))) same_3)

      pub block_4 : Block s4 r
      block_4 = block_same p.block same_4

      pub axes_4 : b.axes ≡ geometric_mask s4
      axes_4 =
          ap (λ (x : Resolved). x.axes) p.told
          ∙ ap (λ (l : List ℕ). mask_sum (λ (k : ℕ). member k l) axis_codes) (sym (same-geometric st s4 same_4 p.block.few p.block.long))

      pub state-done : (s5 : List ℕ) → spline ≡ spline_kind b.kind → s5 ≡ track_to axis_codes s4 r → s5 ≡ push_state st r
      unfolding push_state is_spline
      state-done s5 hs h5 = rw (h5, h4, h3, h2, p.is, hs, p.told)
