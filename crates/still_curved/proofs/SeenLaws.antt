-- Laws of this crate's proofs: what the code learns of a row is what the definitions say of it. Assumes nothing.
use Prim.Native.Nat.{ℕ}
use mathlib.Core.Path.{◌≡◌, sym, ◌∙◌, ap, ap₂}
use mathlib.Core.Bool.{Bool, true, false, not}
use mathlib.Core.List.{List}
use lib.Bits.{bit_and}
use lib.Dec.{eqb}
use borrow.Author.Tests.{eq-eqb, ne_eqb}
use Rattle.floats.specs.Truth.{cond-t, cond-f, and_t, and_f}
use Rattle.motion.specs.Motion.{is_curve}
use Rattle.row_cells.specs.Row.{motion_of, present_of}
use Rattle.still_curved.specs.Curved.{motion_after, path_mask, shows, still_curved, seen_of}
use Rattle.still_curved.specs.declared.Seen.{Seen}

module _ {own : ℕ} (m : ℕ) (row : List ℕ) (e : own ≡ motion_of row) where
  pub motion-stays : own ≡ 0 → m ≡ motion_after m row
  unfolding motion_after
  motion-stays z = sym (cond-t _ _ (eq-eqb (motion_of row) 0 (sym e ∙ z)))

  pub motion-own : (own ≡ 0 → ⊥) → own ≡ motion_after m row
  unfolding motion_after
  motion-own d = e ∙ sym (cond-f _ _ (ne_eqb (motion_of row) 0 (λ z. d (e ∙ z))))

pub shown-is : {present : ℕ} (row : List ℕ) → present ≡ present_of row → not (eqb (bit_and present path_mask) 0) ≡ shows row
unfolding shows
shown-is row e = ap (λ (p : ℕ). not (eqb (bit_and p path_mask) 0)) e

abbrev pub seen : ℕ → Bool → Seen
seen n c = record { motion = n; curved = c }

module _ {now : ℕ} {there : Bool} (m : ℕ) (row : List ℕ) (e : now ≡ motion_after m row) (s : there ≡ shows row) where
  seen-is : {b : Bool} → b ≡ still_curved m row → seen now b ≡ seen_of m row
  unfolding seen_of
  seen-is q = ap₂ seen e q

  pub seen-there : {b : Bool} → b ≡ is_curve now → there ≡ true → seen now b ≡ seen_of m row
  unfolding still_curved
  seen-there q t = seen-is (q ∙ ap is_curve e ∙ sym (and_t (is_curve (motion_after m row)) (sym s ∙ t)))

  pub seen-bare : there ≡ false → seen now there ≡ seen_of m row
  unfolding still_curved
  seen-bare f = seen-is (f ∙ sym (and_f (is_curve (motion_after m row)) (sym s ∙ f)))
