-- LAWS. The room of a block that is buffered; what a push is due, case by case. Assumes nothing.
use Rattle.std.specs.Prelude.{Result, Ok, Err, ℕ, ◌+◌, ◌*◌, ◌/◌, ◌%◌, ◌<◌, ◌≤◌, min, ◌≡◌, Bool, true, ◌&&◌, List, length}
use Rattle.std.proofs.Math.Path.{sym, ap}
use Rattle.std.proofs.Common.{◌∙◌, arith, div-add-mod'}
use Rattle.std.proofs.Math.Bool.{false, cond}
use Rattle.std.proofs.Math.Dec.{leb, eqb}
use borrow.Author.Tests.{leb-false, eq-eqb, eqb-true, eqb-false}
use Rattle.layout.specs.Layout.{row_words, most_held}
use Rattle.motion.specs.Motion.{spline_kind, is_spline}
use Rattle.row_check.specs.Check.{row_check}
use Rattle.floats.specs.Truth.{by_bit, and_t, cond-t, cond-f}
use Rattle.saved_state.specs.State.{saved_check}
use Rattle.push_resolve.specs.Blocks.{motion_then, kept}
use Rattle.push_resolve.specs.Resolved.{resolved}
use Rattle.push_resolve.specs.declared.Resolved.{Resolved}
use Rattle.push_check.specs.Refusal.{is_full, push_check}
use Rattle.push_check.specs.Due.{due}

-- ---- a block that is buffered has room
pub full-room : (st store r : List ℕ) → is_spline (motion_then st r) ≡ true → is_full st store r ≡ false
    → (kept st r < most_held) × (kept st r * row_words + row_words ≤ length store)
unfolding is_full
full-room st store r a b =
    let l : kept st r < min most_held (length store / row_words) = leb-false (min most_held (length store / row_words)) (kept st r) (sym (and_t _ a) ∙ b) in
    let d : length store / row_words * row_words + length store % row_words ≡ length store = div-add-mod' (length store) row_words in
    (omega arith, omega arith)

-- ---- what a push is due, told apart
pub due-refused : (st store r : List ℕ) (n : ℕ) → due st store r ≡ Err n → (push_check st store r ≡ n) × (push_check st store r ≡ 0 → ⊥)
unfolding due
due-refused st store r n e =
    by_bit (eqb (push_check st store r) 0)
    (λ b. let z : ◌≡◌ {A = Result Resolved ℕ} (Ok (resolved st r)) (Err n) = sym (cond-t _ _ b) ∙ e in cc)
    (λ b. let z : ◌≡◌ {A = Result Resolved ℕ} (Err (push_check st store r)) (Err n) = sym (cond-f _ _ b) ∙ e in (cc, eqb-false (push_check st store r) 0 b))

pub due-push : (st store r : List ℕ) (b : Resolved) → due st store r ≡ Ok b → (push_check st store r ≡ 0) × (b ≡ resolved st r)
unfolding due
due-push st store r x e =
    by_bit (eqb (push_check st store r) 0)
    (λ b. let z : ◌≡◌ {A = Result Resolved ℕ} (Ok (resolved st r)) (Ok x) = sym (cond-t _ _ b) ∙ e in (eqb-true (push_check st store r) 0 b, cc))
    (λ b. let z : ◌≡◌ {A = Result Resolved ℕ} (Err (push_check st store r)) (Ok x) = sym (cond-f _ _ b) ∙ e in cc)

-- ---- a row and a state that are in order
module _ (st store r : List ℕ) (s : 0 ≡ saved_check st store) (p : 0 ≡ row_check r) (b : Resolved) (e : b ≡ resolved st r) (full : Bool)
    (f : full ≡ (spline_kind b.kind && leb (min most_held (length store / row_words)) b.kept)) where
  checked : push_check st store r ≡ cond full 6 0
  unfolding push_check is_full is_spline
  checked =
      let full_is = f ∙ ap (λ (x : Resolved). spline_kind x.kind && leb (min most_held (length store / row_words)) x.kept) e in
      cond-t _ _ (eq-eqb (saved_check st store) 0 (sym s)) ∙ cond-t _ _ (eq-eqb (row_check r) 0 (sym p)) ∙ ap (λ (x : Bool). cond x 6 0) (sym full_is)

  pub due-full : full ≡ true → Err 6 ≡ due st store r
  unfolding due
  due-full t =
      let c : push_check st store r ≡ 6 = checked ∙ cond-t _ _ t in
      ap Err (sym c) ∙ sym (cond-f _ _ (ap (λ (k : ℕ). eqb k 0) c))

  pub due-block : full ≡ false → Ok b ≡ due st store r
  unfolding due
  due-block t = ap Ok e ∙ sym (cond-t _ _ (eq-eqb (push_check st store r) 0 (checked ∙ cond-f _ _ t)))
