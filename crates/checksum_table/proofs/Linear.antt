-- Laws of this crate's proofs: a step takes sums bit by bit, so that it may be taken of parts and put together. Assumes nothing.
use Prim.Native.Nat.{ℕ, zero, suc, ◌+◌, ◌*◌, ◌/◌, ◌%◌, ◌^◌, ◌<◌}
use mathlib.Core.Path.{◌≡◌, refl, sym, ap, ap₂, ◌∙◌}
use mathlib.Core.Bool.{Bool, true, false, cond}
use native.Mathlib.Omega.{arith}
use native.Mathlib.Nat.{add-zero, mul-add-mod_self_right}
use lib.Arith.{bin_ind}
use lib.Bits.{bit_xor, differ, xor_step, xor_zero_r, xor_comm, xor_shr, xor_mod, xor_block}
use lib.Dec.{eqb}
use Rattle.checksum.specs.Checksum.{low_bits, tail_bits, polynomial, step, steps}

-- ---- bits that differ
differ_low : (x y : ℕ) → x < 2 → y < 2 → differ x y < 2
differ_low zero y h k = k
differ_low (suc zero) zero h k = h
differ_low (suc zero) (suc zero) h k = omega arith
differ_low (suc zero) (suc (suc y)) h k = absurd (omega arith)
differ_low (suc (suc x)) y h k = absurd (omega arith)

differ_assoc : (x y z : ℕ) → x < 2 → y < 2 → z < 2 → differ (differ x y) z ≡ differ x (differ y z)
differ_assoc zero y z h k l = refl
differ_assoc (suc zero) zero z h k l = refl
differ_assoc (suc zero) (suc zero) zero h k l = refl
differ_assoc (suc zero) (suc zero) (suc zero) h k l = refl
differ_assoc (suc zero) (suc zero) (suc (suc z)) h k l = absurd (omega arith)
differ_assoc (suc zero) (suc (suc y)) z h k l = absurd (omega arith)
differ_assoc (suc (suc x)) y z h k l = absurd (omega arith)

-- ---- words that differ
bit-low : (a : ℕ) → a % 2 < 2
bit-low a = omega arith

xor_half : (a b : ℕ) → bit_xor a b / 2 ≡ bit_xor (a / 2) (b / 2)
xor_half a b = xor_shr a b 1

xor_odd : (a b : ℕ) → bit_xor a b % 2 ≡ differ (a % 2) (b % 2)
xor_odd a b =
    let q : ℕ = bit_xor (a / 2) (b / 2) in
    let d : ℕ = differ (a % 2) (b % 2) in
    let h : d < 2 = differ_low (a % 2) (b % 2) (bit-low a) (bit-low b) in
    let e : (q * 2 + d) % 2 ≡ d = omega (arith, h) in
    ap (λ (x : ℕ). x % 2) (xor_step a b) ∙ e

xor_assoc : (a b c : ℕ) → bit_xor (bit_xor a b) c ≡ bit_xor a (bit_xor b c)
xor_assoc =
    bin_ind (λ (n : ℕ). (b c : ℕ) → bit_xor (bit_xor n b) c ≡ bit_xor n (bit_xor b c)) (λ b c. refl)
    (λ n ih b c.
    xor_step (bit_xor n b) c
    ∙ ap₂ (λ (x y : ℕ). bit_xor x (c / 2) * 2 + differ y (c % 2)) (xor_half n b) (xor_odd n b)
    ∙ ap₂ (λ (x y : ℕ). x * 2 + y) (ih (b / 2) (c / 2)) (differ_assoc (n % 2) (b % 2) (c % 2) (bit-low n) (bit-low b) (bit-low c))
    ∙ sym (xor_step n (bit_xor b c) ∙ ap₂ (λ (x y : ℕ). bit_xor (n / 2) x * 2 + differ (n % 2) y) (xor_half b c) (xor_odd b c)))

xor_four : (a b c d : ℕ) → bit_xor (bit_xor a b) (bit_xor c d) ≡ bit_xor (bit_xor a c) (bit_xor b d)
xor_four a b c d =
    xor_assoc a b (bit_xor c d)
    ∙ ap (bit_xor a) (sym (xor_assoc b c d) ∙ ap (λ (x : ℕ). bit_xor x d) (xor_comm b c) ∙ xor_assoc c b d)
    ∙ sym (xor_assoc a c (bit_xor b d))

xor_double : (a b : ℕ) → bit_xor a b * 2 ≡ bit_xor (a * 2) (b * 2)
xor_double a b =
    sym (ap₂ bit_xor (sym (add-zero (a * 2))) (sym (add-zero (b * 2))) ∙ xor_block 1 a b 0 0 (omega arith) (omega arith) ∙ add-zero (bit_xor a b * 2))

-- ---- a step, as a sum without its top bit and what a top bit leaves
abbrev top : ℕ → ℕ
top s = s / 2 ^ low_bits % 2

abbrev low : ℕ → ℕ
low s = s % 2 ^ low_bits * 2

unfoldable gone : ℕ → ℕ
gone t = cond (eqb t 0) 0 polynomial

gone_differ : (t u : ℕ) → t < 2 → u < 2 → gone (differ t u) ≡ bit_xor (gone t) (gone u)
unfolding gone
gone_differ zero u h k = refl
gone_differ (suc zero) zero h k = refl
gone_differ (suc zero) (suc zero) h k = refl
gone_differ (suc zero) (suc (suc u)) h k = absurd (omega arith)
gone_differ (suc (suc t)) u h k = absurd (omega arith)

step_is : (s : ℕ) → step s ≡ bit_xor (low s) (gone (top s))
unfolding step gone
step_is s = go (eqb (top s) 0)
  where
    go : (b : Bool) → cond b (low s) (bit_xor (low s) polynomial) ≡ bit_xor (low s) (cond b 0 polynomial)
    go true = sym (xor_zero_r (low s))
    go false = refl

low_xor : (x y : ℕ) → low (bit_xor x y) ≡ bit_xor (low x) (low y)
low_xor x y = ap (λ (z : ℕ). z * 2) (xor_mod x y low_bits) ∙ xor_double (x % 2 ^ low_bits) (y % 2 ^ low_bits)

top_xor : (x y : ℕ) → top (bit_xor x y) ≡ differ (top x) (top y)
top_xor x y = ap (λ (z : ℕ). z % 2) (xor_shr x y low_bits) ∙ xor_odd (x / 2 ^ low_bits) (y / 2 ^ low_bits)

step_xor : (x y : ℕ) → step (bit_xor x y) ≡ bit_xor (step x) (step y)
step_xor x y =
    step_is (bit_xor x y)
    ∙ ap₂ (λ (a t : ℕ). bit_xor a (gone t)) (low_xor x y) (top_xor x y)
    ∙ ap (bit_xor (bit_xor (low x) (low y))) (gone_differ (top x) (top y) (bit-low (x / 2 ^ low_bits)) (bit-low (y / 2 ^ low_bits)))
    ∙ xor_four (low x) (low y) (gone (top x)) (gone (top y))
    ∙ sym (ap₂ bit_xor (step_is x) (step_is y))

pub steps_xor : (n x y : ℕ) → steps n (bit_xor x y) ≡ bit_xor (steps n x) (steps n y)
unfolding steps
steps_xor zero x y = refl
steps_xor (suc n) x y = ap step (steps_xor n x y) ∙ step_xor (steps n x) (steps n y)

-- ---- only the 32 lowest bits are looked at
step-first : (n s : ℕ) → steps (suc n) s ≡ steps n (step s)
unfolding steps
step-first zero s = refl
step-first (suc n) s = ap step (step-first n s)

step-low : (s : ℕ) → step s ≡ step (s % 2 ^ 32)
unfolding step
step-low s =
    let e : s % 2 ^ 32 % 2 ^ low_bits ≡ s % 2 ^ low_bits = omega arith in
    let g : s / 2 ^ low_bits ≡ s / 2 ^ 32 * 2 + s % 2 ^ 32 / 2 ^ low_bits = omega arith in
    let f : s % 2 ^ 32 / 2 ^ low_bits % 2 ≡ s / 2 ^ low_bits % 2 =
    sym (ap (λ (x : ℕ). x % 2) g ∙ mul-add-mod_self_right (s / 2 ^ 32) 2 (s % 2 ^ 32 / 2 ^ low_bits)) in
    sym (ap₂ (λ (d t : ℕ). cond (eqb t 0) (d * 2) (bit_xor (d * 2) polynomial)) e f)

pub steps_low : (n s : ℕ) → steps (suc n) s ≡ steps (suc n) (s % 2 ^ 32)
steps_low n s = step-first n s ∙ ap (steps n) (step-low s) ∙ sym (step-first n (s % 2 ^ 32))

-- ---- as long as no bit comes to the top, a step doubles
step_small : (s : ℕ) → s < 2 ^ low_bits → step s ≡ s * 2
unfolding step
step_small s h =
    let e : s % 2 ^ low_bits ≡ s = omega (arith, h) in
    let f : s / 2 ^ low_bits % 2 ≡ 0 = omega (arith, h) in
    ap₂ (λ (d t : ℕ). cond (eqb t 0) (d * 2) (bit_xor (d * 2) polynomial)) e f

double : (k s m : ℕ) → steps k s ≡ s * m → s * m < 2 ^ low_bits → steps (suc k) s ≡ s * m * 2
unfolding steps
double k s m e h = ap step e ∙ step_small (s * m) h

pub steps-small : (s : ℕ) → s < 2 ^ tail_bits → steps 8 s ≡ s * 256
unfolding steps
steps-small s h =
    let a : steps 1 s ≡ s * 2 = step_small s (omega (arith, h)) in
    let b : steps 2 s ≡ s * 4 = double 1 s 2 a (omega (arith, h)) ∙ omega arith in
    let c : steps 3 s ≡ s * 8 = double 2 s 4 b (omega (arith, h)) ∙ omega arith in
    let d : steps 4 s ≡ s * 16 = double 3 s 8 c (omega (arith, h)) ∙ omega arith in
    let e : steps 5 s ≡ s * 32 = double 4 s 16 d (omega (arith, h)) ∙ omega arith in
    let f : steps 6 s ≡ s * 64 = double 5 s 32 e (omega (arith, h)) ∙ omega arith in
    let g : steps 7 s ≡ s * 128 = double 6 s 64 f (omega (arith, h)) ∙ omega arith in
    double 7 s 128 g (omega (arith, h)) ∙ omega arith
