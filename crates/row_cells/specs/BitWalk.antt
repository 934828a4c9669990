-- LAWS. A walk over the set bits of a number, the lowest first: the bit, the bits after it, and what such a loop keeps. Assumes nothing.
use Rattle.std.specs.Prelude.{ℕ, zero, suc, ◌-◌, ◌*◌, ◌/◌, ◌%◌, ◌^◌, ◌<◌, ◌≤◌, ◌≡◌, true, false, eqb}
use Rattle.std.proofs.Common.{sym, ◌∙◌, ap, subst, arith, lt_of_lt_of_le, mod-lt, mod-eq_of_lt, pow-suc, pow_pos, pow_mono, eqb-true}
use Rattle.std.proofs.lemmas.Bool.{false≢true, eqb-false}
use Rattle.std.specs.Int.Bits.{bit_and, and_step, and_self}
use Rattle.std.specs.Int.Count.{count_trailing_zeros}
use Rattle.floats.specs.Truth.{by_bit}
use Rattle.row_cells.specs.Bits.{has, lowest, others}
use Rattle.row_cells.specs.Masks.{has-none, has-half, has_0, not_0, has_mod, out-same, out-other, below-bits}

-- ---- the lowest set bit
pub record Lowest (p k : ℕ) : Type 0 where
  pub there : has p k ≡ true
  pub first : (j : ℕ) → j < k → has p j ≡ false

odd_lowest : (p : ℕ) → p % 2 ≡ 1 → Lowest p 0
odd_lowest p e = record { there = has_0 p e; first = λ j h. absurd (omega arith) }

even-first : (p k : ℕ) → p % 2 ≡ 0 → Lowest (p / 2) k → (j : ℕ) → j < suc k → has p j ≡ false
even-first p k e l zero h = not_0 p e
even-first p k e l (suc j) h = has-half p j ∙ l.first j (omega arith)

even-lowest : (p k : ℕ) → p % 2 ≡ 0 → Lowest (p / 2) k → Lowest p (suc k)
even-lowest p k e l = record { there = has-half p k ∙ l.there; first = even-first p k e l }

trailing_odd : (n p : ℕ) → p % 2 ≡ 1 → count_trailing_zeros (suc n) p ≡ 0
unfolding count_trailing_zeros
trailing_odd n p e = rw e

trailing_even : (n p : ℕ) → p % 2 ≡ 0 → count_trailing_zeros (suc n) p ≡ suc (count_trailing_zeros n (p / 2))
unfolding count_trailing_zeros
trailing_even n p e = rw e

trailing_lowest : (n p : ℕ) → 0 < p → p < 2 ^ n → Lowest p (count_trailing_zeros n p)
trailing_lowest zero p h l = absurd (omega arith)
trailing_lowest (suc n) p h l =
    by_bit (eqb (p % 2) 1)
    (λ b. let e : p % 2 ≡ 1 = eqb-true (p % 2) 1 b in rw (trailing_odd n p e) (odd_lowest p e))
    (λ b. let d : p % 2 ≡ 1 → ⊥ = eqb-false (p % 2) 1 b in
    let e : p % 2 ≡ 0 = omega (arith, d) in
    let s : p / 2 < 2 ^ n = (let t : p < 2 ^ n * 2 = rw (pow-suc 2 n) at l in omega arith) in
    rw (trailing_even n p e) (even-lowest p _ e (trailing_lowest n (p / 2) (omega arith) s)))

pub lowest-is : (p : ℕ) → 0 < p → p < 2 ^ 64 → Lowest p (lowest p)
lowest-is p h l = trailing_lowest 64 p h l

-- p less one has the bits above the lowest, and those below it
and_trailing : (n p : ℕ) → 0 < p → p < 2 ^ n → bit_and p (p - 1) ≡ p - 2 ^ count_trailing_zeros n p
and_trailing zero p h l = absurd (omega arith)
and_trailing (suc n) p h l =
    by_bit (eqb (p % 2) 1)
    (λ b. let e : p % 2 ≡ 1 = eqb-true (p % 2) 1 b in
    let e1 : (p - 1) % 2 ≡ 0 = omega (arith, e) in
    let e2 : (p - 1) / 2 ≡ p / 2 = omega (arith, e) in
    rw (trailing_odd n p e, and_step p (p - 1), e, e1, e2, and_self (p / 2)) (omega (arith, e)))
    (λ b. let d : p % 2 ≡ 1 → ⊥ = eqb-false (p % 2) 1 b in
    let e : p % 2 ≡ 0 = omega (arith, d) in
    let e1 : (p - 1) % 2 ≡ 1 = omega (arith, e) in
    let e2 : (p - 1) / 2 ≡ p / 2 - 1 = omega (arith, e) in
    let s : p / 2 < 2 ^ n = (let t : p < 2 ^ n * 2 = rw (pow-suc 2 n) at l in omega arith) in
    rw (trailing_even n p e, and_step p (p - 1), e, e1, e2, and_trailing n (p / 2) (omega arith) s, pow-suc 2 (count_trailing_zeros n (p / 2)))
    (omega (arith, e)))

pub and_others : (p : ℕ) → 0 < p → p < 2 ^ 64 → bit_and p (p - 1) ≡ others p
and_others p h l = and_trailing 64 p h l

-- ---- a loop over bits: those of `rest`, still to come, are some of p's below n
pub record Bits (p n rest : ℕ) : Type 0 where
  pub small : rest < 2 ^ 64
  pub part : (k : ℕ) → has rest k ≡ true → (has p k ≡ true) × (k < n)

-- the bit k that the loop is at
pub record AtBit (p n rest k : ℕ) : Type 0 where
  pub bit : has rest k ≡ true
  pub there : has p k ≡ true
  pub below : k < n
  pub fewer : others rest < rest

module _ {p n : ℕ} where
  -- from p's bits below n on
  pub bits-first : n ≤ 64 → Bits p n (p % 2 ^ n)
  bits-first m =
      let l : p % 2 ^ n < 2 ^ n = mod-lt p (pow_pos n) in
      record {
        small = lt_of_lt_of_le l (pow_mono m);
        part = λ k h. let b : k < n = below-bits (p % 2 ^ n) n k l h in (sym (has_mod p n k b) ∙ h, b);
      }

  module _ {rest k : ℕ} (w : Bits p n rest) (h : 0 < rest) (e : k ≡ lowest rest) where
    pub at-bit : AtBit p n rest k
    at-bit =
        let b : has rest k ≡ true = subst (λ (i : ℕ). has rest i ≡ true) (sym e) (lowest-is rest h w.small).there in
        record { bit = b; there = (w.part k b).0; below = (w.part k b).1; fewer = omega (arith, pow_pos (lowest rest)) }

    module _ {next : ℕ} (f : next ≡ others rest) where
      is-next : next ≡ rest - 2 ^ k
      is-next = f ∙ ap (λ (i : ℕ). rest - 2 ^ i) (sym e)

      pub next-same : has next k ≡ false
      next-same = rw is-next (out-same rest k at-bit.bit)

      pub next-other : (j : ℕ) → (j ≡ k → ⊥) → has next j ≡ has rest j
      next-other j d = rw is-next (out-other rest k j at-bit.bit d)

      pub bits-next : Bits p n next
      bits-next = record {
        small = rw f (omega (arith, w.small));
        part = λ j b. w.part j (by_bit (eqb j k)
            (λ t. absurd (false≢true (sym next-same ∙ subst (λ (i : ℕ). has next i ≡ true) (eqb-true j k t) b)))
            (λ t. sym (next-other j (eqb-false j k t)) ∙ b));
      }

-- A loop's invariant: of every k below n that is not in `rest` there is P.
pub record Walking (p n : ℕ) (P : ℕ → Type 0) (rest : ℕ) : Type 0 where
  pub bits : Bits p n rest
  pub done : (k : ℕ) → k < n → has rest k ≡ false → P k

module _ {p n : ℕ} {P : ℕ → Type 0} where
  pub walking_first : n ≤ 64 → ((k : ℕ) → k < n → has p k ≡ false → P k) → Walking p n P (p % 2 ^ n)
  walking_first m d = record { bits = bits-first m; done = λ k b h. d k b (sym (has_mod p n k b) ∙ h) }

  -- from all of p's bits on, where none is past n
  pub walking_all : n ≤ 64 → p < 2 ^ n → ((k : ℕ) → k < n → has p k ≡ false → P k) → Walking p n P p
  walking_all m s d = subst (Walking p n P) (mod-eq_of_lt s) (walking_first m d)

  pub walking_more : {rest k next : ℕ} → Walking p n P rest → 0 < rest → k ≡ lowest rest → next ≡ others rest → P k → Walking p n P next
  walking_more {rest} {k} {next} w h e f q = record {
    bits = bits-next w.bits h e f;
    done = λ j l b. by_bit (eqb j k)
        (λ t. subst P (sym (eqb-true j k t)) q)
        (λ t. w.done j l (sym (next-other w.bits h e f j (eqb-false j k t)) ∙ b));
  }

  pub walked : {rest : ℕ} → Walking p n P rest → rest ≡ 0 → (k : ℕ) → k < n → P k
  walked w e k l = w.done k l (rw e (has-none k))
