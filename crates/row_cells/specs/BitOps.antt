-- LAWS. The bits of `&`, of `|`, of a bit set by `|`, and of what a number lacks of all ones. Assumes nothing.
use Rattle.std.specs.Prelude.{ℕ, zero, suc, ◌+◌, ◌-◌, ◌/◌, ◌%◌, ◌^◌, ◌<◌, min, max, ◌≡◌, refl, Bool, true, false, ◌&&◌, ◌||◌, not, eqb}
use Rattle.std.proofs.Common.{sym, ◌∙◌, ap, arith, pow-suc, eq-eqb, ne_eqb, eqb-true}
use Rattle.std.proofs.Math.Bool.{or-true, or-false}
use Rattle.std.specs.Int.Bits.{bit_and, bit_or, and_step, or_step}
use Rattle.std.proofs.lemmas.Nat.{and_shr, or_shr, or_lt}
use Rattle.std.proofs.Math.Pow.{pow-lt}
use Rattle.std.proofs.lemmas.Bool.{eqb-false}
use Rattle.floats.specs.Truth.{by_bit}
use Rattle.row_cells.specs.Bits.{has, with_bit, mask_sum}
use Rattle.row_cells.specs.Masks.{has-none, bit_0, bit_1, add_same, add_other, with-same, with-other, with-lt, has-mask, mask-of, same_bits}

has_1 : (x k : ℕ) → x / 2 ^ k % 2 ≡ 1 → has x k ≡ true
unfolding has
has_1 x k e = eq-eqb (x / 2 ^ k % 2) 1 e

has_0 : (x k : ℕ) → x / 2 ^ k % 2 ≡ 0 → has x k ≡ false
unfolding has
has_0 x k e = ne_eqb (x / 2 ^ k % 2) 1 (λ g. omega (arith, e, g))

-- ---- the bits that two numbers share
and_bit : (x y c d : ℕ) → x % 2 ≡ c → y % 2 ≡ d → min c d < 2 → bit_and x y % 2 ≡ min c d
and_bit x y c d p q l = rw (and_step x y, p, q) (omega arith)

and_there : (a b k c d : ℕ) → a / 2 ^ k % 2 ≡ c → b / 2 ^ k % 2 ≡ d → min c d < 2 → bit_and a b / 2 ^ k % 2 ≡ min c d
and_there a b k c d p q l = ap (λ (n : ℕ). n % 2) (and_shr a b k) ∙ and_bit (a / 2 ^ k) (b / 2 ^ k) c d p q l

pub has_and : (a b k : ℕ) → has (bit_and a b) k ≡ (has a k && has b k)
has_and a b k =
    by_bit (has a k)
    (λ p. by_bit (has b k)
    (λ q. rw (p, q) (has_1 (bit_and a b) k (and_there a b k 1 1 (bit_1 a k p) (bit_1 b k q) (omega arith))))
    (λ q. rw (p, q) (has_0 (bit_and a b) k (and_there a b k 1 0 (bit_1 a k p) (bit_0 b k q) (omega arith)))))
    (λ p. by_bit (has b k)
    (λ q. rw p (has_0 (bit_and a b) k (and_there a b k 0 1 (bit_0 a k p) (bit_1 b k q) (omega arith))))
    (λ q. rw p (has_0 (bit_and a b) k (and_there a b k 0 0 (bit_0 a k p) (bit_0 b k q) (omega arith)))))

-- ---- the bits that one of two numbers has
or_bit : (x y c d : ℕ) → x % 2 ≡ c → y % 2 ≡ d → max c d < 2 → bit_or x y % 2 ≡ max c d
or_bit x y c d p q l = rw (or_step x y, p, q) (omega arith)

or_there : (a b k c d : ℕ) → a / 2 ^ k % 2 ≡ c → b / 2 ^ k % 2 ≡ d → max c d < 2 → bit_or a b / 2 ^ k % 2 ≡ max c d
or_there a b k c d p q l = ap (λ (n : ℕ). n % 2) (or_shr a b k) ∙ or_bit (a / 2 ^ k) (b / 2 ^ k) c d p q l

pub has_or : (a b k : ℕ) → has (bit_or a b) k ≡ (has a k || has b k)
has_or a b k =
    by_bit (has a k)
    (λ p. by_bit (has b k)
    (λ q. rw p (has_1 (bit_or a b) k (or_there a b k 1 1 (bit_1 a k p) (bit_1 b k q) (omega arith))))
    (λ q. rw p (has_1 (bit_or a b) k (or_there a b k 1 0 (bit_1 a k p) (bit_0 b k q) (omega arith)))))
    (λ p. by_bit (has b k)
    (λ q. rw (p, q) (has_1 (bit_or a b) k (or_there a b k 0 1 (bit_0 a k p) (bit_1 b k q) (omega arith))))
    (λ q. rw (p, q) (has_0 (bit_or a b) k (or_there a b k 0 0 (bit_0 a k p) (bit_0 b k q) (omega arith)))))

-- ---- one bit set by `|`
power-same : (k : ℕ) → has (2 ^ k) k ≡ true
power-same k = let e : 0 + 2 ^ k ≡ 2 ^ k = omega arith in sym (ap (λ (n : ℕ). has n k) e) ∙ add_same 0 k (has-none k)

power-other : (k j : ℕ) → (j ≡ k → ⊥) → has (2 ^ k) j ≡ false
power-other k j d = let e : 0 + 2 ^ k ≡ 2 ^ k = omega arith in sym (ap (λ (n : ℕ). has n j) e) ∙ add_other 0 k j (has-none k) d ∙ has-none j

pub or_power : (p k n : ℕ) → p < 2 ^ n → k < n → bit_or p (2 ^ k) ≡ with_bit p k
or_power p k n l u =
    same_bits (bit_or p (2 ^ k)) (with_bit p k) n (or_lt n p (2 ^ k) l (pow-lt u)) (with-lt p k n l u) (λ j b.
    has_or p (2 ^ k) j
    ∙ by_bit (eqb j k)
    (λ t. let e : j ≡ k = eqb-true j k t in
    rw e (ap (λ (a : Bool). has p k || a) (power-same k) ∙ or-true (has p k) ∙ sym (with-same p k)))
    (λ t. let d = eqb-false j k t in
    ap (λ (a : Bool). has p j || a) (power-other k j d) ∙ or-false (has p j) ∙ sym (with-other p k j d)))

-- ---- what a number lacks of all ones
both-sum : (f : ℕ → Bool) (n : ℕ) → mask_sum f n + mask_sum (λ (k : ℕ). not (f k)) n + 1 ≡ 2 ^ n
unfolding mask_sum
both-sum f zero = omega arith
both-sum f (suc n) =
    by_bit (f n)
    (λ b. rw (b, pow-suc 2 n) (omega (arith, both-sum f n)))
    (λ b. rw (b, pow-suc 2 n) (omega (arith, both-sum f n)))

pub has-not : (p n k : ℕ) → p < 2 ^ n → k < n → has (2 ^ n - 1 - p) k ≡ not (has p k)
has-not p n k l h =
    let s : mask_sum (has p) n + mask_sum (λ (j : ℕ). not (has p j)) n + 1 ≡ 2 ^ n = both-sum (has p) n in
    let e : p ≡ mask_sum (has p) n = mask-of p n (has p) l (λ j b. refl) in
    let z : 2 ^ n - 1 - p ≡ mask_sum (λ (j : ℕ). not (has p j)) n = omega (arith, s, e) in
    rw z (has-mask (λ (j : ℕ). not (has p j)) n k h)
