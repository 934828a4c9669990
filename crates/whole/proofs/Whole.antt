-- LAWS. What the code of `ceil_count` finds by tests on floats is `ceil_of`. Assumes nothing.
use Rattle.std.proofs.Common.{◌≡◌, ℕ, ◌+◌, ◌-◌, ◌*◌, ◌/◌, ◌<◌, ◌≤◌, Bool, true, false, cond, T, ltb, ℤ, pos, sym, refl, ap, ◌∙◌, true≢false}
use Rattle.std.proofs.Common.{mul-le-mul_right, div-lt_iff_lt-mul, add-mul, mul-lt-mul_of_pos_right, one-mul, mul-one, mul_right_comm, div-mul-le_self}
use Rattle.std.proofs.Common.{arith, lt→ltb, ltb-false, ltb-true, le-ltb, lt-ltb}
use mathlib.Core.Bool.{false≢true}
use native.Mathlib.Nat.{div-eq_of_lt-le, lt-div-mul-add}
use lib.Ieee.{Float, nan, inf, fin, binary64, up, down, lt, of_bits, of_int, to_unsigned, round}
use lib.Ieee.Fits.{down_pos}
use lib.Ieee.Exact.{HasValue}
use lib.Ieee.Back.{round_whole}
use Rattle.floats.specs.Numbers.{f0}
use Rattle.whole.specs.Whole.{two_to53, ceil_of, trunc_of}

-- ---- numbers
up_one : (n d q : ℕ) → q * d < n → n < q * d + d → (n + (d - 1)) / d ≡ q + 1
up_one n d q h k =
    let a : (q + 1) * d ≡ q * d + d = simp (add-mul, one-mul) in
    let b : (q + 1 + 1) * d ≡ q * d + d + d = simp (add-mul, one-mul) in
    div-eq_of_lt-le d (omega arith) (omega arith)

stays : (n d q : ℕ) → 0 < d → n ≤ q * d → q * d ≤ n → (n + (d - 1)) / d ≡ q
stays n d q p h k =
    let a : (q + 1) * d ≡ q * d + d = simp (add-mul, one-mul) in
    div-eq_of_lt-le d (omega arith) (omega arith)

pub ltb-scale : (a b k : ℕ) → 0 < k → ltb (a * k) (b * k) ≡ ltb a b
ltb-scale a b k p = go (ltb a b) refl
  where
    go : (t : Bool) → ltb a b ≡ t → ltb (a * k) (b * k) ≡ ltb a b
    go true h = lt-ltb (a * k) (b * k) (mul-lt-mul_of_pos_right (ltb-true a b h) p) ∙ sym h
    go false h = le-ltb (a * k) (b * k) (mul-le-mul_right k (ltb-false a b h)) ∙ sym h

-- ---- a test of a whole number against a float is one of numbers
whole-lt : (q m : ℕ) (e : ℤ) → q ≤ 9007199254740992 → lt (of_int binary64 (pos q)) (fin false m e) ≡ ltb (q * down e) (m * up e)
unfolding of_int lt
whole-lt q m e h = go (round binary64 false q 1) (round_whole binary64 false q h)
  where
    go : (y : Float) → HasValue y false q 1 → lt y (fin false m e) ≡ ltb (q * down e) (m * up e)
    go nan v = absurd v
    go (inf t) v = absurd v
    go (fin true n g) v = absurd (true≢false v.0)
    go (fin false n g) v =
        let k : n * up g ≡ q * down g = sym (mul-one (n * up g)) ∙ v.1 in
        let l : n * up g * down e ≡ q * down e * down g = ap (λ (z : ℕ). z * down e) k ∙ mul_right_comm q (down g) (down e) in
        ap (λ (z : ℕ). ltb z (m * up e * down g)) l ∙ ltb-scale (q * down e) (m * up e) (down g) (down_pos g)

-- ---- a float between 0 and 2 ^ 53
pub in_range : (x : Float) → lt f0 x ≡ true → lt x two_to53 ≡ true → T (lt (fin true 1 (pos 0)) x) × T (lt x (fin false 1 (pos 64)))
unfolding lt of_bits
in_range nan p q = absurd (false≢true p)
in_range (inf true) p q = absurd (false≢true p)
in_range (inf false) p q = absurd (false≢true q)
in_range (fin true m e) p q = absurd (false≢true p)
in_range (fin false m e) p q =
    let h : m * up e * 1 < 9007199254740992 * down e = ltb-true (m * up e * 1) (9007199254740992 * down e) q in (
      lt→ltb 0 (1 * down e + m * up e * 1) (omega (arith, down_pos e)),
      lt→ltb (m * up e * 1) (18446744073709551616 * down e) (omega (arith, down_pos e)),
    )

below : (m : ℕ) (e : ℤ) → lt (fin false m e) two_to53 ≡ true → m * up e < 9007199254740992 * down e
unfolding lt of_bits
below m e q = let h : m * up e * 1 < 9007199254740992 * down e = ltb-true (m * up e * 1) (9007199254740992 * down e) q in omega arith

pub cut : (m : ℕ) (e : ℤ) → lt (fin false m e) two_to53 ≡ true → to_unsigned 64 (fin false m e) ≡ m * up e / down e
unfolding to_unsigned
cut m e q = let h : m * up e / down e < 9007199254740992 = (div-lt_iff_lt-mul (down_pos e)).1 (below m e q) in omega arith

pub few : (x : Float) → lt f0 x ≡ true → lt x two_to53 ≡ true → to_unsigned 64 x < 9007199254740992
unfolding lt of_bits to_unsigned
few nan p q = absurd (false≢true p)
few (inf true) p q = absurd (false≢true p)
few (inf false) p q = absurd (false≢true q)
few (fin true m e) p q = absurd (false≢true p)
few (fin false m e) p q = let h : m * up e / down e < 9007199254740992 = (div-lt_iff_lt-mul (down_pos e)).1 (below m e q) in omega arith

picked : (n d : ℕ) → 0 < d → cond (ltb (n / d * d) n) (n / d + 1) (n / d) ≡ (n + (d - 1)) / d
picked n d p = go (ltb (n / d * d) n) refl
  where
    go : (t : Bool) → ltb (n / d * d) n ≡ t → cond t (n / d + 1) (n / d) ≡ (n + (d - 1)) / d
    go true h = sym (up_one n d (n / d) (ltb-true (n / d * d) n h) (lt-div-mul-add p))
    go false h = sym (stays n d (n / d) p (ltb-false (n / d * d) n h) (div-mul-le_self n d))

pub ceil_is : (x : Float) → lt f0 x ≡ true → lt x two_to53 ≡ true
    → cond (lt (of_int binary64 (pos (to_unsigned 64 x))) x) (to_unsigned 64 x + 1) (to_unsigned 64 x) ≡ ceil_of x
unfolding lt of_bits
ceil_is nan p q = absurd (false≢true p)
ceil_is (inf true) p q = absurd (false≢true p)
ceil_is (inf false) p q = absurd (false≢true q)
ceil_is (fin true m e) p q = absurd (false≢true p)
ceil_is (fin false m e) p q = at_cut (to_unsigned 64 (fin false m e)) (cut m e q)
  where
    at_cut : (t : ℕ) → t ≡ m * up e / down e → cond (lt (of_int binary64 (pos t)) (fin false m e)) (t + 1) t ≡ ceil_of (fin false m e)
    at_cut t h =
        let r = m * up e / down e in
        let s : r < 9007199254740992 = (div-lt_iff_lt-mul (down_pos e)).1 (below m e q) in
        ap (λ (z : ℕ). cond (lt (of_int binary64 (pos z)) (fin false m e)) (z + 1) z) h
        ∙ ap (λ (b : Bool). cond b (r + 1) r) (whole-lt r m e (omega arith))
        ∙ picked (m * up e) (down e) (down_pos e)

pub trunc_is : (x : Float) → lt f0 x ≡ true → lt x two_to53 ≡ true → to_unsigned 64 x ≡ trunc_of x
unfolding lt of_bits
trunc_is nan p q = absurd (false≢true p)
trunc_is (inf true) p q = absurd (false≢true p)
trunc_is (inf false) p q = absurd (false≢true q)
trunc_is (fin true m e) p q = absurd (false≢true p)
trunc_is (fin false m e) p q = cut m e q
