-- LAWS. What the code of `half_up_count` finds by tests on floats is `half_up_of`. Assumes nothing.
use Rattle.std.proofs.Common.{◌≡◌, ℕ, ◌+◌, ◌-◌, ◌*◌, ◌/◌, ◌^◌, ◌<◌, ◌≤◌, Bool, true, false, cond, ltb, ℤ, pos, sym, refl, ap, ◌∙◌, subst, true≢false}
use Rattle.std.proofs.Common.{lt_of_lt_of_le, zero-lt-suc, mul_assoc, div-lt_iff_lt-mul, add-mul, mul-lt-mul_of_pos_right, mul-pos, one-mul, mul-one}
use Rattle.std.proofs.Common.{mul_right_comm, div-mul-le_self, mul_left_comm, arith, lit<, lit≤, ltb-false, ltb-true, lt-ltb}
use mathlib.Core.Bool.{false≢true}
use native.Mathlib.Nat.{div-eq_of_lt-le, lt-div-mul-add}
use lib.Ieee.{Float, nan, inf, fin, binary64, up, down, lt, add, of_bits, of_int, to_unsigned, round}
use lib.Ieee.Fits.{down_pos}
use lib.Ieee.Exact.{HasValue, round_exact}
use lib.Ieee.Scale.{round_same}
use lib.Ieee.Back.{round_whole}
use Rattle.floats.specs.Numbers.{f0, f½}
use Rattle.whole.specs.Whole.{two_to52, two_to53, half_up_of}
use Rattle.whole.proofs.Whole.{ltb-scale, cut}

-- ---- a test of a float against a value is one of numbers
lt-value : (y : Float) (a c m : ℕ) (e : ℤ) → 0 < c → HasValue y false a c → lt (fin false m e) y ≡ ltb (m * up e * c) (a * down e)
unfolding lt
lt-value nan a c m e C v = absurd v
lt-value (inf t) a c m e C v = absurd v
lt-value (fin true n g) a c m e C v = absurd (true≢false v.0)
lt-value (fin false n g) a c m e C v =
    let l : m * up e * down g * c ≡ m * up e * c * down g = mul_right_comm (m * up e) (down g) c in
    let r : n * up g * down e * c ≡ a * down e * down g =
    mul_right_comm (n * up g) (down e) c ∙ ap (λ (z : ℕ). z * down e) v.1 ∙ mul_right_comm a (down g) (down e) in
    sym (ltb-scale (m * up e * down g) (n * up g * down e) c C)
    ∙ ap (λ (z : ℕ). ltb z (n * up g * down e * c)) l
    ∙ ap (λ (z : ℕ). ltb (m * up e * c * down g) z) r
    ∙ ltb-scale (m * up e * c) (a * down e) (down g) (down_pos g)

-- ---- a whole number and a f½, below 2 ^ 52, is a value of the format
halves : (q : ℕ) → q < 4503599627370496 → HasValue (round binary64 false (2 * q + 1) 2) false (2 * q + 1) 2
halves q h =
    round_exact binary64 false (2 * q + 1) 2 (2 * q + 1) 1073 (zero-lt-suc 1) (omega arith) small (sym (mul_assoc (2 * q + 1) (2 ^ 1073) 2))
  where
    small : (2 * q + 1) * 2 ^ 1073 < 2 ^ 2098
    small =
        let k : 2 * q + 1 < 2 ^ 53 = omega arith in
        lt_of_lt_of_le (mul-lt-mul_of_pos_right k (lit< tt)) (lit≤ tt)

spread : (q a d : ℕ) → a ≡ q * d → (a * 2 + 1 * d) * 2 ≡ (2 * q + 1) * (d * 2)
spread q a d k =
    let l : 2 * q * (d * 2) ≡ 4 * (q * d) = twice q d in
    let r : (2 * q + 1) * (d * 2) ≡ 2 * q * (d * 2) + 1 * (d * 2) = add-mul (2 * q) 1 (d * 2) in
    omega arith
  where
    twice : (q d : ℕ) → 2 * q * (d * 2) ≡ 4 * (q * d)
    twice q d = mul_assoc 2 q (d * 2) ∙ ap (λ (z : ℕ). 2 * z) (sym (mul_assoc q d 2)) ∙ omega arith

and_half : (q : ℕ) → q < 4503599627370496 → HasValue (add binary64 (of_int binary64 (pos q)) f½) false (2 * q + 1) 2
unfolding of_int add of_bits
and_half q h = go (round binary64 false q 1) (round_whole binary64 false q (omega arith))
  where
    go : (y : Float) → HasValue y false q 1 → HasValue (add binary64 y f½) false (2 * q + 1) 2
    go nan v = absurd v
    go (inf t) v = absurd v
    go (fin true n g) v = absurd (true≢false v.0)
    go (fin false n g) v =
        let k : n * up g ≡ q * down g = sym (mul-one (n * up g)) ∙ v.1 in
        let s : (n * up g * 2 + 1 * down g) * 2 ≡ (2 * q + 1) * (down g * 2) = spread q (n * up g) (down g) k in
        subst (λ (z : Float). HasValue z false (2 * q + 1) 2)
        (sym (round_same binary64 false (n * up g * 2 + 1 * down g) (down g * 2) (2 * q + 1) 2 (mul-pos (down_pos g) (zero-lt-suc 1)) (zero-lt-suc 1) s))
        (halves q h)

-- ---- a float between 0 and 2 ^ 52
below : (m : ℕ) (e : ℤ) → lt (fin false m e) two_to52 ≡ true → m * up e < 4503599627370496 * down e
unfolding lt of_bits
below m e q = let h : m * up e * 1 < 4503599627370496 * down e = ltb-true (m * up e * 1) (4503599627370496 * down e) q in omega arith

pub narrower : (x : Float) → lt f0 x ≡ true → lt x two_to52 ≡ true → lt x two_to53 ≡ true
unfolding lt of_bits
narrower nan p q = absurd (false≢true p)
narrower (inf true) p q = absurd (false≢true p)
narrower (inf false) p q = absurd (false≢true q)
narrower (fin true m e) p q = absurd (false≢true p)
narrower (fin false m e) p q =
    let h : m * up e * 1 < 4503599627370496 * down e = ltb-true (m * up e * 1) (4503599627370496 * down e) q in
    lt-ltb (m * up e * 1) (9007199254740992 * down e) (omega arith)

-- the doubled fraction lies in the two places of q + 1 / 2
nearer : (n d q : ℕ) → 0 < d → q * d ≤ n → n < q * d + d → cond (ltb (n * 2) ((2 * q + 1) * d)) q (q + 1) ≡ (2 * n + d) / (2 * d)
nearer n d q p h k = go (ltb (n * 2) ((2 * q + 1) * d)) refl
  where
    mid : (2 * q + 1) * d ≡ 2 * (q * d) + d
    mid = add-mul (2 * q) 1 d ∙ ap (λ (z : ℕ). z + 1 * d) (mul_assoc 2 q d) ∙ ap (λ (z : ℕ). 2 * (q * d) + z) (one-mul d)

    low : q * (2 * d) ≡ 2 * (q * d)
    low = mul_left_comm q 2 d

    next : (q + 1) * (2 * d) ≡ 2 * (q * d) + 2 * d
    next = add-mul q 1 (2 * d) ∙ ap (λ (z : ℕ). z + 1 * (2 * d)) low ∙ ap (λ (z : ℕ). 2 * (q * d) + z) (one-mul (2 * d))

    after : (q + 1 + 1) * (2 * d) ≡ 2 * (q * d) + 2 * d + 2 * d
    after = add-mul (q + 1) 1 (2 * d) ∙ ap (λ (z : ℕ). z + 1 * (2 * d)) next ∙ ap (λ (z : ℕ). 2 * (q * d) + 2 * d + z) (one-mul (2 * d))

    go : (t : Bool) → ltb (n * 2) ((2 * q + 1) * d) ≡ t → cond t q (q + 1) ≡ (2 * n + d) / (2 * d)
    go true b = let c : n * 2 < (2 * q + 1) * d = ltb-true (n * 2) ((2 * q + 1) * d) b in
        sym (div-eq_of_lt-le (2 * d) (omega (arith, mid, low)) (omega (arith, mid, next)))
    go false b = let c : (2 * q + 1) * d ≤ n * 2 = ltb-false (n * 2) ((2 * q + 1) * d) b in
        sym (div-eq_of_lt-le (2 * d) (omega (arith, mid, next)) (omega (arith, mid, after)))

pub few : (x : Float) → lt f0 x ≡ true → lt x two_to52 ≡ true → to_unsigned 64 x < 4503599627370496
unfolding lt of_bits to_unsigned
few nan p q = absurd (false≢true p)
few (inf true) p q = absurd (false≢true p)
few (inf false) p q = absurd (false≢true q)
few (fin true m e) p q = absurd (false≢true p)
few (fin false m e) p q = let h : m * up e / down e < 4503599627370496 = (div-lt_iff_lt-mul (down_pos e)).1 (below m e q) in omega arith

pub half-up-is : (x : Float) → lt f0 x ≡ true → lt x two_to52 ≡ true
    → cond (lt x (add binary64 (of_int binary64 (pos (to_unsigned 64 x))) f½)) (to_unsigned 64 x) (to_unsigned 64 x + 1) ≡ half_up_of x
unfolding lt of_bits
half-up-is nan p q = absurd (false≢true p)
half-up-is (inf true) p q = absurd (false≢true p)
half-up-is (inf false) p q = absurd (false≢true q)
half-up-is (fin true m e) p q = absurd (false≢true p)
half-up-is (fin false m e) p q = at_cut (to_unsigned 64 (fin false m e)) (cut m e (narrower (fin false m e) p q))
  where
    at_cut : (t : ℕ) → t ≡ m * up e / down e → cond (lt (fin false m e) (add binary64 (of_int binary64 (pos t)) f½)) t (t + 1) ≡ half_up_of (fin false m e)
    at_cut t h =
        let r = m * up e / down e in
        let s : r < 4503599627370496 = (div-lt_iff_lt-mul (down_pos e)).1 (below m e q) in
        ap (λ (z : ℕ). cond (lt (fin false m e) (add binary64 (of_int binary64 (pos z)) f½)) z (z + 1)) h
        ∙ ap (λ (b : Bool). cond b r (r + 1)) (lt-value (add binary64 (of_int binary64 (pos r)) f½) (2 * r + 1) 2 m e (zero-lt-suc 1) (and_half r s))
        ∙ nearer (m * up e) (down e) r (down_pos e) (div-mul-le_self (m * up e) (down e)) (lt-div-mul-add (down_pos e))
