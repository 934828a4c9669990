-- LAWS. The words of a fresh state, and its geometric axes. Assumes nothing.
use Rattle.std.specs.Prelude.{ℕ, ◌+◌, ◌-◌, ◌<◌, ◌≤◌, ◌≡◌, true, ◌&&◌, List, take, drop, leb, ltb}
use Rattle.std.proofs.Common.{sym, ◌∙◌}
use Rattle.std.proofs.Math.Path.{ap, subst}
use native.Mathlib.Omega.{arith}
use Rattle.std.proofs.Math.ListN.{length, get_or, length-drop}
use Rattle.std.proofs.Math.Seq.{length-take-le, get_or-take, get_or-drop, ext_get_or}
use borrow.Author.Tests.{ne_eqb, leb-true, lt-ltb, ltb-true}
use Rattle.floats.specs.Lists.{member, all}
use Rattle.floats.specs.Fill.{length-upto, at-upto}
use Rattle.floats.specs.Truth.{cond-t, cond-f, and_left}
use Rattle.layout.specs.Layout.{w_tolerance, w_axis_count, axis_codes, w_axes, w_motion, state_words, list_codes}
use Rattle.row_cells.specs.Codes.{geometric_of}
use Rattle.row_cells.specs.Masks.{member-keep}
use Rattle.saved_state.specs.State.{code_ok, codes_ok}
use Rattle.call_start.specs.Start.{fresh_word, fresh}

-- the geometric axes are codes below axis_codes
pub small-axes : (axes : List ℕ) (k : ℕ) → member k (geometric_of axes) ≡ true → k < axis_codes
unfolding geometric_of
small-axes axes k h =
    let e : (ltb k axis_codes && member k axes) ≡ true = sym (member-keep (λ (j : ℕ). ltb j axis_codes) k axes) ∙ h in
    let g : k < axis_codes = ltb-true k axis_codes (and_left (ltb k axis_codes) (member k axes) e) in
    omega arith

module _ (tol : ℕ) (axes : List ℕ) (ok : codes_ok axes ≡ true) where
  pub few-codes : length axes ≤ list_codes
  unfolding codes_ok
  few-codes = leb-true (length axes) list_codes (and_left (leb (length axes) list_codes) (all (length axes) (code_ok axes)) ok)

  pub fresh_at : (i : ℕ) → i < state_words → get_or (fresh tol axes) i 0 ≡ fresh_word tol axes i
  unfolding fresh
  fresh_at i h = at-upto (fresh_word tol axes) state_words i 0 h

  fresh-code : (i : ℕ) → i < length axes → get_or (fresh tol axes) (w_axes + i) 0 ≡ get_or axes i 0
  unfolding fresh_word
  fresh-code i h =
      let few : length axes ≤ list_codes = few-codes in
      let e : w_axes + i - w_axes ≡ i = omega arith in
      fresh_at (w_axes + i) (omega arith)
      ∙ cond-f _ _ (ne_eqb (w_axes + i) w_tolerance (λ z. omega arith))
      ∙ cond-f _ _ (ne_eqb (w_axes + i) w_axis_count (λ z. omega arith))
      ∙ cond-t _ _ (lt-ltb (w_axes + i) w_motion (omega arith))
      ∙ ap (λ (j : ℕ). get_or axes j 0) e

  pub fresh_list : take (length axes) (drop w_axes (fresh tol axes)) ≡ axes
  unfolding fresh
  fresh_list =
      let few : length axes ≤ list_codes = few-codes in
      let n : length (fresh tol axes) ≡ state_words = length-upto (fresh_word tol axes) state_words in
      let d : length (drop w_axes (fresh tol axes)) ≡ length (fresh tol axes) - w_axes = length-drop w_axes (fresh tol axes) in
      let m : length (take (length axes) (drop w_axes (fresh tol axes))) ≡ length axes =
      length-take-le (length axes) (drop w_axes (fresh tol axes)) (omega arith) in
      ext_get_or 0 (take (length axes) (drop w_axes (fresh tol axes))) axes m (λ i h.
      let g : i < length axes = subst (λ (k : ℕ). i < k) m h in
      get_or-take (length axes) (drop w_axes (fresh tol axes)) i 0 g ∙ get_or-drop w_axes (fresh tol axes) i 0 ∙ fresh-code i g)
