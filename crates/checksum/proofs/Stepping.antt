-- Laws of this crate's proofs: a step, and steps one after another. Assumes nothing.
use Prim.Native.Nat.{ℕ, ◌+◌, ◌*◌, ◌/◌, ◌%◌, ◌^◌}
use mathlib.Core.Path.{◌≡◌, refl, sym, ap, ◌∙◌}
use native.Mathlib.Numerals.{add-one}
use lib.Bits.{bit_xor}
use borrow.Author.Tests.{eq-eqb, ne_eqb}
use Rattle.checksum.specs.Checksum.{low_bits, polynomial, step, steps}

pub step-bare : (s : ℕ) → s / 2 ^ low_bits % 2 ≡ 0 → s % 2 ^ low_bits * 2 ≡ step s
unfolding step
step-bare s e = rw (eq-eqb (s / 2 ^ low_bits % 2) 0 e)

pub step-top : (s : ℕ) → (s / 2 ^ low_bits % 2 ≡ 0 → ⊥) → bit_xor (s % 2 ^ low_bits * 2) polynomial ≡ step s
unfolding step
step-top s e = rw (ne_eqb (s / 2 ^ low_bits % 2) 0 e)

pub steps-none : (s : ℕ) → s ≡ steps 0 s
unfolding steps
steps-none s = refl

pub steps-more : {t u : ℕ} (k s : ℕ) → t ≡ steps k s → u ≡ step t → u ≡ steps (k + 1) s
unfolding steps
steps-more k s e f = f ∙ ap step e ∙ ap (λ (n : ℕ). steps n s) (sym (add-one k))
