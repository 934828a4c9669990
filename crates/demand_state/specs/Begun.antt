-- LAWS. A fresh state, and one that was seeded, are not refused by 9 or 8. Assumes nothing.
use Rattle.std.specs.Prelude.{ℕ, ◌+◌, ◌*◌, ◌≤◌, ◌<◌, ◌≡◌, ◌&&◌, ◌||◌, take, drop}
use Rattle.std.proofs.Common.{sym, ◌∙◌, subst, arith}
use Rattle.std.proofs.Math.Path.{ap}
use Rattle.std.proofs.Math.Bool.{true}
use mathlib.Core.List.{List}
use Rattle.std.proofs.Math.ListN.{length, get_or}
use Rattle.std.proofs.Math.Dec.{leb, eqb}
use borrow.Author.Tests.{le-leb}
use Rattle.motion.specs.Motion.{last_motion}
use Rattle.floats.specs.Lists.{member, all}
use Rattle.floats.specs.Fill.{length-upto}
use Rattle.floats.specs.Truth.{by_bit, cond-t, cond-f, and_i, all_ext}
use Rattle.layout.specs.Layout.{w_tolerance, w_axis_count, row_words, w_axes, w_motion, w_plane, w_known, w_start, w_degree, w_held, state_words}
use Rattle.layout.specs.Layout.{most_degree, axis_codes}
use Rattle.layout.specs.Layout.{list_codes}
use Rattle.row_cells.specs.Codes.{plane_xy, plane_yz}
use Rattle.row_numbers.specs.RowNumbers.{within}
use Rattle.row_check.specs.Check.{row_check}
use Rattle.row_cells.specs.Row.{motion_of}
use Rattle.saved_state.specs.State.{tol_ok, codes_ok, axes_ok, axis_count, motion_now, held, geometric, held_row, held_row_ok, store_ok, saved_check, placed}
use Rattle.saved_state.specs.StateLaws.{Good, good-ok, geometric-small}
use Rattle.push_start.specs.OpenedLaws.{placed-keeps}
use Rattle.call_start.specs.Start.{fresh, fresh_word}
use Rattle.call_seed.specs.Seed.{seeded}
use Rattle.demand_state.specs.Accepted.{Saved, saved}
use Rattle.demand_state.specs.Fresh.{few-codes, fresh_at, fresh_list}
use Rattle.demand_state.specs.Keeps.{no-point, none-held, seeded-ok}

-- ---- a start
module _ (tol : ℕ) (axes : List ℕ) (t : tol_ok tol ≡ true) (ok : codes_ok axes ≡ true) where
  fresh-codes : axes_ok (fresh tol axes) ≡ true
  unfolding axes_ok fresh_word
  fresh-codes =
      let n : axis_count (fresh tol axes) ≡ length axes = fresh_at tol axes ok w_axis_count (omega arith) in
      and_i (ap (λ (k : ℕ). leb k list_codes) n ∙ le-leb (length axes) list_codes (few-codes tol axes ok))
      (ap (λ (k : ℕ). codes_ok (take k (drop w_axes (fresh tol axes)))) n ∙ ap codes_ok (fresh_list tol axes ok) ∙ ok)

  fresh-good : Good (fresh tol axes)
  unfolding fresh_word fresh
  fresh-good =
      let w : (i : ℕ) → i < state_words → get_or (fresh tol axes) i 0 ≡ fresh_word tol axes i = fresh_at tol axes ok in
      record {
        long = length-upto (fresh_word tol axes) state_words;
        tolerance = ap tol_ok (w w_tolerance (omega arith)) ∙ t;
        axes = fresh-codes;
        motion = ap (λ (m : ℕ). leb 1 m && leb m last_motion) (w w_motion (omega arith));
        plane = ap (λ (m : ℕ). leb plane_xy m && leb m plane_yz) (w w_plane (omega arith));
        known = no-point (fresh tol axes) w_known (w w_known (omega arith));
        start = no-point (fresh tol axes) w_start (w w_start (omega arith));
        power = ap (λ (m : ℕ). leb 1 m && leb m most_degree) (w w_degree (omega arith));
        count = none-held (fresh tol axes) (w w_held (omega arith));
      }

  pub fresh-saved : (store : List ℕ) → saved_check (fresh tol axes) store ≡ 0
  unfolding saved_check store_ok fresh_word all
  fresh-saved store =
      let e : held (fresh tol axes) ≡ 0 = fresh_at tol axes ok w_held (omega arith) in
      rw (good-ok (fresh tol axes) fresh-good, e, le-leb (0 * row_words) (length store) (omega arith))

-- ---- a seed
module _ (st store : List ℕ) (c x : ℕ) (s : saved_check st store ≡ 0) (w : within x ≡ true) where
  else-word : (j : ℕ) → (w_known ≤ j → j < w_known + (axis_codes + 1) → ⊥) → get_or (seeded st c x) j 0 ≡ get_or st j 0
  unfolding seeded
  else-word j out =
      by_bit (member c (geometric st))
      (λ b. let h : c < axis_codes = geometric-small st c b in
      ap (λ (l : List ℕ). get_or l j 0) (cond-t (placed st c x) st b)
      ∙ placed-keeps st c x j (λ e. out (omega arith) (omega arith)) (λ e. out (omega arith) (omega arith)))
      (λ b. ap (λ (l : List ℕ). get_or l j 0) (cond-f (placed st c x) st b))

  pub seeded-saved : saved_check (seeded st c x) store ≡ 0
  unfolding saved_check store_ok held_row_ok
  seeded-saved =
      let p : Saved st store = saved st store s in
      let n : held (seeded st c x) ≡ held st = else-word w_held (λ a b. omega arith) in
      let m : motion_now (seeded st c x) ≡ motion_now st = else-word w_motion (λ a b. omega arith) in
      let r : all (held (seeded st c x)) (held_row_ok (seeded st c x) store) ≡ true =
      ap (λ (k : ℕ). all k (held_row_ok (seeded st c x) store)) n
      ∙ all_ext (held st) (held_row_ok (seeded st c x) store) (held_row_ok st store)
      (λ i h. ap (λ (k : ℕ). eqb (row_check (held_row store i)) 0 && (eqb (motion_of (held_row store i)) 0 || eqb (motion_of (held_row store i)) k)) m)
      ∙ p.rows in
      cond-t _ _ (seeded-ok st c x p.state w)
      ∙ cond-t _ _ (le-leb (held (seeded st c x) * row_words) (length store) (subst (λ (k : ℕ). k * row_words ≤ length store) (sym n) p.room))
      ∙ cond-t _ _ r
