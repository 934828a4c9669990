-- LAWS. What a call that is not refused tells of its state, its store and its row. Assumes nothing.
use Rattle.std.specs.Prelude.{ℕ, ◌+◌, ◌*◌, ◌≤◌, ◌≡◌, Bool, true, false, ◌||◌, cond, List, length, get_or, leb, eqb}
use Rattle.std.proofs.Common.{sym, ◌∙◌, arith, eqb-true, ne_eqb}
use Rattle.std.proofs.Math.Option.{none}
use Rattle.std.proofs.lemmas.Bool.{eqb-false}
use Rattle.layout.specs.Layout.{axis_codes, row_words, w_known, w_start, state_words, most_held, list_codes}
use Rattle.motion.specs.Motion.{is_spline}
use Rattle.floats.specs.Lists.{all}
use Rattle.row_check.specs.Check.{row_check}
use Rattle.row_cells.specs.Masks.{has-past}
use Rattle.floats.specs.Truth.{by_bit, cond-t, cond-f, and_right}
use Rattle.saved_state.specs.State.{axis_count, motion_now, point_ok, point_word, position, curve_start, held_ok, state_ok, saved_check, held, held_row_ok}
use Rattle.saved_state.specs.StateLaws.{good, good-few, axes-few, point-small}
use Rattle.saved_state.specs.Checked.{saved-ok, saved_rows, saved-store}
use Rattle.push_resolve.specs.Blocks.{kept, motion_then}
use Rattle.push_check.specs.Refusal.{is_full, push_check}
use Rattle.push_check.proofs.DueLaws.{full-room}

-- ---- a state that is not refused
pub state-words : (st : List ℕ) → state_ok st ≡ true → length st ≡ state_words
state-words st h = (good st h).long

pub few-axes : (st : List ℕ) → state_ok st ≡ true → axis_count st ≤ list_codes
few-axes st h = axes-few st (good st h).axes

-- no axis is known past the last
past-point : (st : List ℕ) (w : ℕ) → point_ok st w ≡ true → (k : ℕ) → axis_codes ≤ k → point_word st w k ≡ none
unfolding point_word
past-point st w h k l = cond-f _ none (has-past (get_or st w 0) axis_codes k (point-small st w h) l)

pub past-place : (st : List ℕ) → state_ok st ≡ true → (k : ℕ) → axis_codes ≤ k → position st k ≡ none
past-place st h = past-point st w_known (good st h).known

pub past-start : (st : List ℕ) → state_ok st ≡ true → (k : ℕ) → axis_codes ≤ k → curve_start st k ≡ none
past-start st h = past-point st w_start (good st h).start

-- 2.13: no block is held while the motion is no spline
pub held-spline : (st : List ℕ) → state_ok st ≡ true → (held st ≡ 0 → ⊥) → is_spline (motion_now st) ≡ true
unfolding held_ok
held-spline st h d =
    let e : (eqb (held st) 0 || is_spline (motion_now st)) ≡ true =
    and_right (leb (held st) most_held) (eqb (held st) 0 || is_spline (motion_now st)) (good st h).count in
    rw (ne_eqb (held st) 0 d) at e

pub held-most : (st : List ℕ) → state_ok st ≡ true → held st ≤ most_held
held-most st h = good-few st (good st h)

-- ---- a state and a store that are not refused
pub record Saved (st store : List ℕ) : Type 0 where
  pub state : state_ok st ≡ true
  pub words : length st ≡ state_words
  pub room : held st * row_words ≤ length store
  pub rows : all (held st) (held_row_ok st store) ≡ true

pub saved : (st store : List ℕ) → saved_check st store ≡ 0 → Saved st store
saved st store e =
    record { state = saved-ok st store e; words = state-words st (saved-ok st store e); room = saved-store st store e; rows = saved_rows st store e }

-- ---- a row that 4, 3 and 5 do not refuse
abbrev pub Fine : List ℕ → Type 0
Fine r = row_check r ≡ 0

-- ---- a push that no check refuses
pub record Pushed (st store r : List ℕ) : Type 0 where
  pub saved : Saved st store
  pub row : Fine r
  pub space : is_full st store r ≡ false
  pub room : is_spline (motion_then st r) ≡ true → kept st r * row_words + row_words ≤ length store

fails : (b : Bool) → ◌≡◌ {A = ℕ} (cond b 6 0) 0 → b ≡ false
fails b e = by_bit b (λ y. let z : ◌≡◌ {A = ℕ} 6 0 = sym (cond-t 6 0 y) ∙ e in absurd (omega arith)) (λ n. n)

pub pushed : (st store r : List ℕ) → push_check st store r ≡ 0 → Pushed st store r
unfolding push_check
pushed st store r e =
    by_bit (eqb (saved_check st store) 0)
    (λ a. by_bit (eqb (row_check r) 0)
    (λ b. let f : is_full st store r ≡ false = fails (is_full st store r) (sym (cond-t _ _ a ∙ cond-t _ _ b) ∙ e) in
    record { saved = saved st store (eqb-true _ 0 a); row = eqb-true _ 0 b; space = f; room = λ h. (full-room st store r h f).1 })
    (λ b. absurd (eqb-false _ 0 b (sym (cond-t _ _ a ∙ cond-f _ _ b) ∙ e))))
    (λ a. absurd (eqb-false _ 0 a (sym (cond-f _ _ a) ∙ e)))
