-- Laws of this crate's proofs: a length, byte by byte. Assumes nothing.
use Prim.Native.Nat.{ℕ, zero, suc, ◌+◌, ◌-◌, ◌/◌, ◌%◌, ◌^◌, ◌≤◌}
use mathlib.Core.Path.{◌≡◌, refl, sym, ap, ap₂, ◌∙◌}
use mathlib.Core.Bool.{Bool, true, false, cond}
use mathlib.Core.List.{[], ◌∷◌}
use native.Mathlib.Omega.{arith}
use lib.Dec.{eqb}
use borrow.Author.Tests.{eq-eqb, ne_eqb, eqb-true}
use Rattle.floats.specs.Truth.{cond-t, cond-f}
use Rattle.checksum.specs.Checksum.{with_byte, with_bytes, length_bytes, turned, ended}
use Rattle.checksum_length.specs.Length.{length_step}

pub length_none : (s n : ℕ) → n ≡ 0 → s ≡ length_step s n
length_none s n e = sym (cond-t s (with_byte s (n % 256)) (eq-eqb n 0 e))

pub length_some : {t b : ℕ} (s n : ℕ) → (n ≡ 0 → ⊥) → b ≡ n % 256 → t ≡ with_byte s b → t ≡ length_step s n
length_some s n e q p = p ∙ ap (with_byte s) q ∙ sym (cond-f s (with_byte s (n % 256)) (ne_eqb n 0 e))

no_bytes : (k : ℕ) → length_bytes k 0 ≡ []
unfolding length_bytes
no_bytes zero = refl
no_bytes (suc k) = refl

length_more : (k s n : ℕ) → with_bytes (length_step s n) (length_bytes k (n / 256)) ≡ with_bytes s (length_bytes (suc k) n)
unfolding length_bytes with_bytes
length_more k s n = go (eqb n 0) refl
  where
    go : (b : Bool) → eqb n 0 ≡ b
        → with_bytes (cond b s (with_byte s (n % 256))) (length_bytes k (n / 256)) ≡ with_bytes s (cond b [] (n % 256 ∷ length_bytes k (n / 256)))
    go true e = ap (λ (m : ℕ). with_bytes s (length_bytes k (m / 256))) (eqb-true n 0 e) ∙ ap (with_bytes s) (no_bytes k)
    go false e = refl

-- the loop: k bytes at most are left of n
pub length-next : {t w : ℕ} (j k s n : ℕ) → with_bytes s (length_bytes k n) ≡ w → j + 1 ≡ k → t ≡ length_step s n
    → with_bytes t (length_bytes j (n / 256)) ≡ w
length-next j zero s n e h f = absurd (omega arith)
length-next {t} {w} j (suc k) s n e h f =
    let z : j ≡ k = omega arith in
    ap₂ (λ (a b : ℕ). with_bytes a (length_bytes b (n / 256))) f z ∙ length_more k s n ∙ e

pub length-all : {w : ℕ} (k s n : ℕ) → with_bytes s (length_bytes k n) ≡ w → k ≤ 0 → s ≡ w
unfolding length_bytes with_bytes
length-all zero s n e h = e
length-all (suc k) s n e h = absurd (omega arith)

pub ended_is : {t : ℕ} (s n : ℕ) → t ≡ with_bytes s (length_bytes 8 n) → 2 ^ 32 - 1 - t % 2 ^ 32 ≡ ended s n
unfolding ended
ended_is s n e = ap turned e
