-- LAWS. The rounded operations where they are exact: by one, by zero, of a number with itself, of whole numbers. Assumes nothing.
use Rattle.std.specs.Prelude.{◌≡◌, refl, ℕ, zero, suc, ◌+◌, ◌-◌, ◌*◌, ◌/◌, ◌%◌, ◌^◌, ◌≤◌, ◌<◌, Bool, true, false, not, ◌&&◌, cond, ℤ, pos, negsuc, T}
use Rattle.std.specs.Prelude.{leb, ltb, eqb, Float}
use Rattle.std.proofs.Common.{sym, ap, ◌∙◌, subst, ⊎_elim, arith, true≢false, ltb→lt, leb→le, pow-add, pow_pos, lt-ltb, le-ltb, ne_eqb, eq-eqb}
use native.Mathlib.Nat.{mul_assoc, mul_comm, mul_right_comm, mul-one, one-mul, zero-mul, mul-pos, zero-lt-suc, not-le_of_lt, lt_irrefl}
use native.Mathlib.Nat.{eq_of_mul-eq-mul_right, lt_of_mul-lt-mul_right, mul-lt-mul_of_pos_right, mul-le-mul_right, mul-le-mul}
use native.Mathlib.Nat.{mul-mul-mul_comm, mul-sub}
use Rattle.std.proofs.Math.Pow.{pow-lt}
use Rattle.std.specs.Float.{nan, inf, fin, Format, binary32, binary64}
use Rattle.std.specs.Float.Ieee.{prec, emax, low, unlike, up, down, round, sum, add, sub, mul, div, neg, lt, le, odd, units, fits, to_bits, of_bits, of_int}
use Rattle.std.specs.Float.Ieee.Fits.{down_pos, up_pos, and_l, and_r, round-fits}
use Rattle.std.specs.Float.Ieee.Bits.{of_bits-to_bits}
use Rattle.std.specs.Float.Ieee.Exact.{HasValue, round_exact}
use Rattle.std.specs.Float.Ieee.Nearest.{div_same}
use Rattle.std.specs.Float.Ieee.Scale.{finite, round_same}
use Rattle.std.specs.Float.Ieee.Back.{round_whole}
use Rattle.std.specs.Float.Ieee.Order.{round_mono}
use Rattle.floats.specs.Numbers.{◌⊕◌, ◌⊖◌, ◌⊗◌, f1}

-- ---- a value that fits is written in one way

same_bits : (f : Format) (s : Bool) (m : ℕ) (e : ℤ) (n : ℕ) (d : ℤ) → m * up e * down d ≡ n * up d * down e → to_bits f (fin s m e) ≡ to_bits f (fin s n d)
unfolding to_bits
same_bits f s m e n d h =
    let q : m * up e * 2 ^ low f / down e ≡ n * up d * 2 ^ low f / down d =
    div_same (m * up e * 2 ^ low f) (down e) (n * up d * 2 ^ low f) (down d) (down_pos e) (down_pos d)
    (mul_right_comm (m * up e) (2 ^ low f) (down d) ∙ ap (λ (x : ℕ). x * 2 ^ low f) h ∙ mul_right_comm (n * up d) (down e) (2 ^ low f)) in
    rw q

pub fits_unique : (f : Format) (s : Bool) (m : ℕ) (e : ℤ) (n : ℕ) (d : ℤ) → T (fits f (fin s m e)) → T (fits f (fin s n d))
    → m * up e * down d ≡ n * up d * down e → fin s m e ≡ fin s n d
fits_unique f s m e n d p q h = sym (of_bits-to_bits f (fin s m e) p) ∙ ap (of_bits f) (same_bits f s m e n d h) ∙ of_bits-to_bits f (fin s n d) q

-- ---- `round` at a value that fits

small : (f : Format) (s : Bool) (m : ℕ) (e : ℤ) → T (fits f (fin s (suc m) e)) → suc m < 2 ^ prec f
unfolding fits
small f s m e t =
    let whole = eqb (suc m % 2) 1 in
    let few = ltb (suc m) (2 ^ prec f) in
    let fine = leb (down e) (2 ^ low f) in
    ltb→lt (suc m) (2 ^ prec f) (and_r whole few (and_l (whole && few) fine (and_l (whole && few && fine) (ltb (suc m * up e) (2 ^ suc (emax f) * down e)) t)))

deep : (f : Format) (s : Bool) (m : ℕ) (e : ℤ) → T (fits f (fin s (suc m) e)) → down e ≤ 2 ^ low f
unfolding fits
deep f s m e t =
    leb→le (down e) (2 ^ low f) (and_r (eqb (suc m % 2) 1 && ltb (suc m) (2 ^ prec f)) (leb (down e) (2 ^ low f))
    (and_l (eqb (suc m % 2) 1 && ltb (suc m) (2 ^ prec f) && leb (down e) (2 ^ low f)) (ltb (suc m * up e) (2 ^ suc (emax f) * down e)) t))

under : (f : Format) (s : Bool) (m : ℕ) (e : ℤ) → T (fits f (fin s (suc m) e)) → suc m * up e < 2 ^ suc (emax f) * down e
unfolding fits
under f s m e t =
    let most = 2 ^ suc (emax f) * down e in
    ltb→lt (suc m * up e) most (and_r (eqb (suc m % 2) 1 && ltb (suc m) (2 ^ prec f) && leb (down e) (2 ^ low f)) (ltb (suc m * up e) most) t)

pow_le_inv : (a b : ℕ) → 2 ^ a ≤ 2 ^ b → a ≤ b
pow_le_inv a b h = ⊎_elim (λ l. absurd (not-le_of_lt (pow-lt l) h)) (λ l. l) (Rattle.floats.specs.Fill.lt_or_le b a)

-- the exponent, in units of the format's smallest value
lift : (f : Format) → (e : ℤ) → down e ≤ 2 ^ low f → (j : ℕ) × (up e * 2 ^ low f ≡ 2 ^ j * down e)
lift f (pos k) h = (k + low f, sym (pow-add 2 k (low f)) ∙ sym (mul-one (2 ^ (k + low f))))
lift f (negsuc k) h =
    let l : suc k ≤ low f = pow_le_inv (suc k) (low f) h in
    let g : low f - suc k + suc k ≡ low f = omega arith in
    (low f - suc k, one-mul (2 ^ low f) ∙ ap (λ (x : ℕ). 2 ^ x) (sym g) ∙ pow-add 2 (low f - suc k) (suc k))

own_value : (f : Format) (s : Bool) (m : ℕ) (e : ℤ) → T (fits f (fin s (suc m) e)) → HasValue (round f s (suc m * up e) (down e)) s (suc m * up e) (down e)
own_value f s m e t =
    let k = lift f e (deep f s m e t) in
    let j = k.0 in
    let h : suc m * up e * 2 ^ low f ≡ suc m * 2 ^ j * down e =
    mul_assoc (suc m) (up e) (2 ^ low f) ∙ ap (λ (x : ℕ). suc m * x) k.1 ∙ sym (mul_assoc (suc m) (2 ^ j) (down e)) in
    let w : suc m * 2 ^ j * down e < 2 ^ (low f + suc (emax f)) * down e =
    subst (λ (x : ℕ). x < 2 ^ (low f + suc (emax f)) * down e) h
    (subst (λ (x : ℕ). suc m * up e * 2 ^ low f < x)
    (mul_right_comm (2 ^ suc (emax f)) (down e) (2 ^ low f)
    ∙ ap (λ (x : ℕ). x * down e) (mul_comm (2 ^ suc (emax f)) (2 ^ low f) ∙ sym (pow-add 2 (low f) (suc (emax f)))))
    (mul-lt-mul_of_pos_right (under f s m e t) (pow_pos (low f)))) in
    round_exact f s (suc m * up e) (down e) (suc m) j (down_pos e) (small f s m e t) (lt_of_mul-lt-mul_right (down e) w) h

from-value : (f : Format) (s : Bool) (m : ℕ) (e : ℤ) (x : Float) → T (fits f x) → T (fits f (fin s m e)) → HasValue x s (m * up e) (down e) → x ≡ fin s m e
from-value f s m e nan p q v = absurd v
from-value f s m e (inf t) p q v = absurd v
from-value f s m e (fin t n d) p q v =
    ap (λ (b : Bool). fin b n d) v.0 ∙ fits_unique f s n d m e (subst (λ (b : Bool). T (fits f (fin b n d))) v.0 p) q v.1

round_zero : (f : Format) (s : Bool) → round f s 0 1 ≡ fin s 0 (pos 0)
unfolding round
round_zero binary32 s = refl
round_zero binary64 s = refl

zero_is : (f : Format) (s : Bool) (e : ℤ) → T (fits f (fin s 0 e)) → fin s 0 e ≡ fin s 0 (pos 0)
zero_is f s e t = fits_unique f s 0 e 0 (pos 0) t (unfold fits in tt) (rw (zero-mul, zero-mul, zero-mul))

pub round_self : (f : Format) (s : Bool) (m : ℕ) (e : ℤ) → T (fits f (fin s m e)) → (a c : ℕ) → 0 < c → a * down e ≡ m * up e * c → round f s a c ≡ fin s m e
round_self f s zero e t a c C h =
    let z : a * 1 ≡ 0 * c = mul-one a ∙ eq_of_mul-eq-mul_right (down e) (down_pos e) a 0 (h ∙ rw (zero-mul, zero-mul, zero-mul)) ∙ sym (zero-mul c) in
    round_same f s a c 0 1 C (zero-lt-suc 0) z ∙ round_zero f s ∙ sym (zero_is f s e t)
round_self f s (suc m) e t a c C h =
    round_same f s a c (suc m * up e) (down e) C (down_pos e) h
    ∙ from-value f s (suc m) e (round f s (suc m * up e) (down e)) (round-fits f s (suc m * up e) (down e)) t (own_value f s m e t)

-- ---- one, and the zeros

abbrev pub one : Float
one = fin false 1 (pos 0)

abbrev pub naught : Bool → Float
naught s = fin s 0 (pos 0)

pub one-is : f1 ≡ one
unfolding of_bits
one-is = refl

-- the number without the sign of a zero
abbrev pub tidy : Float → Float
tidy nan = nan
tidy (inf s) = inf s
tidy (fin s zero e) = fin false zero (pos 0)
tidy (fin s (suc m) e) = fin s (suc m) e

abbrev pub nonzero : Float → Bool
nonzero nan = false
nonzero (inf s) = true
nonzero (fin s zero e) = false
nonzero (fin s (suc m) e) = true

abbrev pub is_zero : Float → Bool
is_zero nan = false
is_zero (inf s) = false
is_zero (fin s zero e) = true
is_zero (fin s (suc m) e) = false

unlike-same : (s : Bool) → unlike s s ≡ false
unlike-same true = refl
unlike-same false = refl

unlike-false : (s : Bool) → unlike s false ≡ s
unlike-false true = refl
unlike-false false = refl

false-unlike : (s : Bool) → unlike false s ≡ s
false-unlike true = refl
false-unlike false = refl

-- ---- by one

pub mul_by_one : (f : Format) (x : Float) → T (fits f x) → mul f x one ≡ x
unfolding mul
mul_by_one f nan t = refl
mul_by_one f (inf s) t = ap inf (unlike-false s)
mul_by_one f (fin s m e) t =
    ap (λ (b : Bool). round f b (m * up e * 1) (down e * 1)) (unlike-false s)
    ∙ round_self f s m e t (m * up e * 1) (down e * 1) (mul-pos (down_pos e) (zero-lt-suc 0))
    (mul_assoc (m * up e) 1 (down e) ∙ ap (λ (x : ℕ). m * up e * x) (mul_comm 1 (down e)))

pub one_by_mul : (f : Format) (x : Float) → T (fits f x) → mul f one x ≡ x
unfolding mul
one_by_mul f nan t = refl
one_by_mul f (inf s) t = ap inf (false-unlike s)
one_by_mul f (fin s m e) t =
    ap (λ (b : Bool). round f b (1 * (m * up e)) (1 * down e)) (false-unlike s)
    ∙ round_self f s m e t (1 * (m * up e)) (1 * down e) (mul-pos (zero-lt-suc 0) (down_pos e)) (simp (one-mul))

pub div_by_one : (f : Format) (x : Float) → T (fits f x) → div f x one ≡ x
unfolding div
div_by_one f nan t = refl
div_by_one f (inf s) t = ap inf (unlike-false s)
div_by_one f (fin s m e) t =
    ap (λ (b : Bool). round f b (m * up e * 1) (1 * down e)) (unlike-false s)
    ∙ round_self f s m e t (m * up e * 1) (1 * down e) (mul-pos (zero-lt-suc 0) (down_pos e)) (simp (one-mul, mul-one))

-- ---- a number with itself

round_one : (f : Format) → round f false 1 1 ≡ one
unfolding round
round_one binary32 = refl
round_one binary64 = refl

pub div_self : (f : Format) (x : Float) → T (finite x) → T (nonzero x) → div f x x ≡ one
unfolding div
div_self f nan t n = absurd t
div_self f (inf s) t n = absurd t
div_self f (fin s zero e) t n = absurd n
div_self f (fin s (suc m) e) t n =
    let A : 0 < suc m * up e * down e = mul-pos (mul-pos (zero-lt-suc m) (up_pos e)) (down_pos e) in
    rw (ne_eqb (suc m) 0 (λ z. omega arith))
    (ap (λ (b : Bool). round f b (suc m * up e * down e) (suc m * up e * down e)) (unlike-same s)
    ∙ round_same f false (suc m * up e * down e) (suc m * up e * down e) 1 1 A (zero-lt-suc 0) (mul-one _ ∙ sym (one-mul _))
    ∙ round_one f)

round_none : (f : Format) (s : Bool) (a c : ℕ) → 0 < c → a ≡ 0 → round f s a c ≡ naught s
round_none f s a c C h = round_same f s a c 0 1 C (zero-lt-suc 0) (mul-one a ∙ h ∙ sym (zero-mul c)) ∙ round_zero f s

cancel : (f : Format) (s : Bool) (a c : ℕ) → 0 < c → sum f s a (not s) a c ≡ naught false
unfolding sum
cancel f true a c C = rw (le-ltb a a (omega arith)) (round_none f false (a - a) c C (omega arith))
cancel f false a c C = rw (le-ltb a a (omega arith)) (round_none f false (a - a) c C (omega arith))

pub sub_self : (f : Format) (x : Float) → T (finite x) → sub f x x ≡ naught false
unfolding sub add neg
sub_self f nan t = absurd t
sub_self f (inf s) t = absurd t
sub_self f (fin s m e) t = cancel f s (m * up e * down e) (down e * down e) (mul-pos (down_pos e) (down_pos e))

-- ---- a zero times a finite number is a zero

pub mul_zero_left : (f : Format) (s : Bool) (x : Float) → T (finite x) → T (is_zero (mul f (naught s) x))
unfolding mul
mul_zero_left f s nan t = absurd t
mul_zero_left f s (inf u) t = absurd t
mul_zero_left f s (fin u m e) t =
    subst (λ (z : Float). T (is_zero z)) (sym (round_none f (unlike s u) (0 * 1 * (m * up e)) (1 * down e) (mul-pos (zero-lt-suc 0) (down_pos e))
    (simp zero-mul))) tt

-- ---- a zero and a number

add_naught : (f : Format) (s t : Bool) (m : ℕ) (e : ℤ) (k : ℤ) → T (fits f (fin t (suc m) e)) → add f (fin s zero k) (fin t (suc m) e) ≡ fin t (suc m) e
unfolding add sum
add_naught f true true m e k h = round_self f true (suc m) e h (0 * up k * down e + suc m * up e * down k) (down k * down e)
    (mul-pos (down_pos k) (down_pos e)) (simp (zero-mul, native.Mathlib.Nat.zero-add, mul_assoc))
add_naught f false false m e k h = round_self f false (suc m) e h (0 * up k * down e + suc m * up e * down k) (down k * down e)
    (mul-pos (down_pos k) (down_pos e)) (simp (zero-mul, native.Mathlib.Nat.zero-add, mul_assoc))
add_naught f true false m e k h =
    let z : 0 * up k * down e ≡ 0 = simp zero-mul in
    rw (z, lt-ltb 0 (suc m * up e * down k) (mul-pos (mul-pos (zero-lt-suc m) (up_pos e)) (down_pos k)))
    (round_self f false (suc m) e h (suc m * up e * down k - 0) (down k * down e) (mul-pos (down_pos k) (down_pos e))
    (simp (native.Mathlib.Nat.sub-zero, mul_assoc)))
add_naught f false true m e k h =
    let z : 0 * up k * down e ≡ 0 = simp zero-mul in
    rw (z, lt-ltb 0 (suc m * up e * down k) (mul-pos (mul-pos (zero-lt-suc m) (up_pos e)) (down_pos k)))
    (round_self f true (suc m) e h (suc m * up e * down k - 0) (down k * down e) (mul-pos (down_pos k) (down_pos e))
    (simp (native.Mathlib.Nat.sub-zero, mul_assoc)))

tidy-zero : (x : Float) → T (is_zero x) → tidy x ≡ naught false
tidy-zero nan h = absurd h
tidy-zero (inf s) h = absurd h
tidy-zero (fin s zero e) h = refl
tidy-zero (fin s (suc m) e) h = absurd h

zero-sum : (f : Format) (s t : Bool) (a b c : ℕ) → 0 < c → a ≡ 0 → b ≡ 0 → T (is_zero (sum f s a t b c))
unfolding sum
zero-sum f true true a b c C ha hb = subst (λ (z : Float). T (is_zero z)) (sym (round_none f true (a + b) c C (omega arith))) tt
zero-sum f false false a b c C ha hb = subst (λ (z : Float). T (is_zero z)) (sym (round_none f false (a + b) c C (omega arith))) tt
zero-sum f true false a b c C ha hb = rw (le-ltb a b (omega arith), le-ltb b a (omega arith))
    (subst (λ (z : Float). T (is_zero z)) (sym (round_none f false (a - b) c C (omega arith))) tt)
zero-sum f false true a b c C ha hb = rw (le-ltb a b (omega arith))
    (subst (λ (z : Float). T (is_zero z)) (sym (round_none f false (a - b) c C (omega arith))) tt)

-- up to the sign of a zero
pub add_zero_left : (f : Format) (z x : Float) → T (is_zero z) → T (fits f x) → tidy (add f z x) ≡ tidy x
unfolding add
add_zero_left f nan x h t = absurd h
add_zero_left f (inf s) x h t = absurd h
add_zero_left f (fin s (suc n) k) x h t = absurd h
add_zero_left f (fin s zero k) nan h t = refl
add_zero_left f (fin s zero k) (inf u) h t = refl
add_zero_left f (fin s zero k) (fin u zero e) h t =
    tidy-zero (sum f s (0 * up k * down e) u (0 * up e * down k) (down k * down e))
    (zero-sum f s u _ _ _ (mul-pos (down_pos k) (down_pos e)) (simp zero-mul) (simp zero-mul))
add_zero_left f (fin s zero k) (fin u (suc m) e) h t = ap tidy (add_naught f s u m e k t)

-- a number that is not zero is what it is up to that sign
pub tidy-nonzero : (x y : Float) → tidy x ≡ y → T (nonzero y) → x ≡ y
tidy-nonzero nan y h n = h
tidy-nonzero (inf s) y h n = h
tidy-nonzero (fin s zero e) y h n = absurd (subst (λ (z : Float). T (nonzero z)) (sym h) n)
tidy-nonzero (fin s (suc m) e) y h n = h

pub tidy_finite : (x y : Float) → tidy x ≡ tidy y → T (finite y) → T (finite x)
tidy_finite nan nan h t = t
tidy_finite nan (inf s) h t = absurd t
tidy_finite nan (fin s zero e) h t = subst (λ (z : Float). T (finite z)) (sym h) tt
tidy_finite nan (fin s (suc m) e) h t = subst (λ (z : Float). T (finite z)) (sym h) tt
tidy_finite (inf u) nan h t = absurd t
tidy_finite (inf u) (inf s) h t = absurd t
tidy_finite (inf u) (fin s zero e) h t = subst (λ (z : Float). T (finite z)) (sym h) tt
tidy_finite (inf u) (fin s (suc m) e) h t = subst (λ (z : Float). T (finite z)) (sym h) tt
tidy_finite (fin u n k) y h t = tt

-- ---- whole numbers

abbrev pub whole : ℕ → Float
whole n = of_int binary64 (pos n)

-- 2^53
abbrev pub far : ℕ
far = 9007199254740992

pub whole-value : (n : ℕ) → n ≤ far → HasValue (whole n) false n 1
unfolding of_int
whole-value n h = round_whole binary64 false n h

-- a whole number against the common denominator
across : (m a x y : ℕ) → m * 1 ≡ a * x → m * y ≡ a * (x * y)
across m a x y h = ap (λ (z : ℕ). z * y) (sym (mul-one m) ∙ h) ∙ mul_assoc a x y

across-back : (m a x y : ℕ) → m * 1 ≡ a * x → m * y ≡ a * (y * x)
across-back m a x y h = across m a x y h ∙ ap (λ (z : ℕ). a * z) (mul_comm x y)

whole_sub_of : (a b : ℕ) (x y : Float) → HasValue x false a 1 → HasValue y false b 1 → b ≤ a → sub binary64 x y ≡ round binary64 false (a - b) 1
unfolding sub add neg sum
whole_sub_of a b nan y p q h = absurd p
whole_sub_of a b (inf s) y p q h = absurd p
whole_sub_of a b (fin true m e) y p q h = absurd (true≢false p.0)
whole_sub_of a b (fin false m e) nan p q h = absurd q
whole_sub_of a b (fin false m e) (inf s) p q h = absurd q
whole_sub_of a b (fin false m e) (fin true n d) p q h = absurd (true≢false q.0)
whole_sub_of a b (fin false m e) (fin false n d) p q h =
    let x : m * up e * down d ≡ a * (down e * down d) = across (m * up e) a (down e) (down d) p.1 in
    let y : n * up d * down e ≡ b * (down e * down d) = across-back (n * up d) b (down d) (down e) q.1 in
    let l : b * (down e * down d) ≤ a * (down e * down d) = mul-le-mul_right (down e * down d) h in
    rw (x, y, le-ltb _ _ l)
    (round_same binary64 false _ (down e * down d) (a - b) 1 (mul-pos (down_pos e) (down_pos d)) (zero-lt-suc 0)
    (mul-one _ ∙ sym (mul_comm (a - b) (down e * down d) ∙ mul-sub (down e * down d) a b ∙ rw (mul_comm (down e * down d) a, mul_comm (down e * down d) b))))

pub whole_sub : (a b : ℕ) → b ≤ a → a ≤ far → whole a ⊖ whole b ≡ whole (a - b)
unfolding of_int
whole_sub a b h l = whole_sub_of a b (whole a) (whole b) (whole-value a l) (whole-value b (omega arith)) h

whole_add_of : (a b : ℕ) (x y : Float) → HasValue x false a 1 → HasValue y false b 1 → add binary64 x y ≡ round binary64 false (a + b) 1
unfolding add sum
whole_add_of a b nan y p q = absurd p
whole_add_of a b (inf s) y p q = absurd p
whole_add_of a b (fin true m e) y p q = absurd (true≢false p.0)
whole_add_of a b (fin false m e) nan p q = absurd q
whole_add_of a b (fin false m e) (inf s) p q = absurd q
whole_add_of a b (fin false m e) (fin true n d) p q = absurd (true≢false q.0)
whole_add_of a b (fin false m e) (fin false n d) p q =
    let x : m * up e * down d ≡ a * (down e * down d) = across (m * up e) a (down e) (down d) p.1 in
    let y : n * up d * down e ≡ b * (down e * down d) = across-back (n * up d) b (down d) (down e) q.1 in
    rw (x, y)
    (round_same binary64 false _ (down e * down d) (a + b) 1 (mul-pos (down_pos e) (down_pos d)) (zero-lt-suc 0)
    (mul-one _ ∙ sym (native.Mathlib.Nat.add-mul a b (down e * down d))))

-- exact where both fit (the sum is rounded once, as any whole number is)
pub whole_add : (a b : ℕ) → a ≤ far → b ≤ far → whole a ⊕ whole b ≡ whole (a + b)
unfolding of_int
whole_add a b h l = whole_add_of a b (whole a) (whole b) (whole-value a h) (whole-value b l)

pub whole_finite : (n : ℕ) → n ≤ far → T (finite (whole n))
whole_finite n h = go (whole n) (whole-value n h)
  where
    go : (x : Float) → HasValue x false n 1 → T (finite x)
    go nan v = absurd v
    go (inf s) v = absurd v
    go (fin s m e) v = tt

pub whole-nonzero : (n : ℕ) → 0 < n → n ≤ far → T (nonzero (whole n))
whole-nonzero n p h = go (whole n) (whole-value n h)
  where
    go : (x : Float) → HasValue x false n 1 → T (nonzero x)
    go nan v = absurd v
    go (inf s) v = tt
    go (fin s zero e) v = absurd (lt_irrefl 0 (subst (λ (x : ℕ). 0 < x) (sym v.1 ∙ simp zero-mul) (mul-pos p (down_pos e))))
    go (fin s (suc m) e) v = tt

whole_lt_of : (a b : ℕ) (x y : Float) → HasValue x false a 1 → HasValue y false b 1 → lt x y ≡ ltb a b
unfolding lt
whole_lt_of a b nan y p q = absurd p
whole_lt_of a b (inf s) y p q = absurd p
whole_lt_of a b (fin true m e) y p q = absurd (true≢false p.0)
whole_lt_of a b (fin false m e) nan p q = absurd q
whole_lt_of a b (fin false m e) (inf s) p q = absurd q
whole_lt_of a b (fin false m e) (fin true n d) p q = absurd (true≢false q.0)
whole_lt_of a b (fin false m e) (fin false n d) p q =
    let x : m * up e * down d ≡ a * (down e * down d) = across (m * up e) a (down e) (down d) p.1 in
    let y : n * up d * down e ≡ b * (down e * down d) = across-back (n * up d) b (down d) (down e) q.1 in
    rw (x, y) (ltb-scale a b (down e * down d) (mul-pos (down_pos e) (down_pos d)))
  where
    ltb-scale : (a b k : ℕ) → 0 < k → ltb (a * k) (b * k) ≡ ltb a b
    ltb-scale a b k p = ⊎_elim
        (λ l. lt-ltb (a * k) (b * k) (mul-lt-mul_of_pos_right l p) ∙ sym (lt-ltb a b l))
        (λ l. le-ltb (a * k) (b * k) (mul-le-mul_right k l) ∙ sym (le-ltb a b l))
        (Rattle.floats.specs.Fill.lt_or_le a b)

pub whole-lt : (a b : ℕ) → a ≤ far → b ≤ far → lt (whole a) (whole b) ≡ ltb a b
whole-lt a b h l = whole_lt_of a b (whole a) (whole b) (whole-value a h) (whole-value b l)

le_self : (x : Float) → T (finite x) → le x x ≡ true
unfolding le
le_self nan t = absurd t
le_self (inf s) t = absurd t
le_self (fin true m e) t = rw (le-ltb (m * up e * down e) (m * up e * down e) (omega arith), eq-eqb (m * up e * down e) (m * up e * down e) refl)
le_self (fin false m e) t = rw (le-ltb (m * up e * down e) (m * up e * down e) (omega arith), eq-eqb (m * up e * down e) (m * up e * down e) refl)

pub whole_le_self : (n : ℕ) → n ≤ far → le (whole n) (whole n) ≡ true
whole_le_self n h = le_self (whole n) (whole_finite n h)

-- ---- a number that is not small

-- x is at least 1, and y is below 1
pub not-under : (n : ℕ) (a k : ℕ) → 0 < n → n ≤ far → a ≤ 2 ^ suc k → lt (whole n) (fin false a (negsuc k)) ≡ false
unfolding lt
not-under n a k p h l = go (whole n) (whole-value n h)
  where
    go : (x : Float) → HasValue x false n 1 → lt x (fin false a (negsuc k)) ≡ false
    go nan v = absurd v
    go (inf s) v = absurd v
    go (fin true m e) v = absurd (true≢false v.0)
    go (fin false m e) v =
        let x : m * up e ≡ n * down e = sym (mul-one (m * up e)) ∙ v.1 in
        let s : a * down e ≤ 2 ^ suc k * down e = mul-le-mul_right (down e) l in
        let t : 1 * (2 ^ suc k * down e) ≤ n * (2 ^ suc k * down e) = mul-le-mul_right (2 ^ suc k * down e) p in
        let y : m * up e * 2 ^ suc k ≡ n * (2 ^ suc k * down e) = across-back (m * up e) n (down e) (2 ^ suc k) v.1 in
        le-ltb (m * up e * 2 ^ suc k) (a * 1 * down e) (omega arith)

-- ---- a product of numbers that are not large is finite

units_finite : (f : Format) (s t : Bool) (q k : ℕ) → T (finite (units f s q k)) → T (finite (units f t q k))
unfolding units odd
units_finite f s t q k = go (ltb (q * 2 ^ k) (2 ^ (low f + suc (emax f)))) q
  where
    go : (b : Bool) (r : ℕ) → T (finite (cond b (odd (suc (prec f)) s r k (low f)) (inf s))) → T (finite (cond b (odd (suc (prec f)) t r k (low f)) (inf t)))
    go true zero h = tt
    go true (suc r) h = tt
    go false r h = absurd h

round_finite_sign : (f : Format) (s t : Bool) (a c : ℕ) → T (finite (round f s a c)) → T (finite (round f t a c))
unfolding round
round_finite_sign f s t a c h = units_finite f s t _ _ h

minus_inf : Float → Bool
minus_inf nan = false
minus_inf (inf s) = s
minus_inf (fin s m e) = false

units-plain : (f : Format) (q k : ℕ) → minus_inf (units f false q k) ≡ false
unfolding units odd minus_inf
units-plain f q k = go (ltb (q * 2 ^ k) (2 ^ (low f + suc (emax f)))) q
  where
    go : (b : Bool) (r : ℕ) → minus_inf (cond b (odd (suc (prec f)) false r k (low f)) (inf false)) ≡ false
    go true zero = refl
    go true (suc r) = refl
    go false r = refl

round_plain : (f : Format) (a c : ℕ) → minus_inf (round f false a c) ≡ false
unfolding round
round_plain f a c = units-plain f _ _

finite_under : (x : Float) → T (le x (fin false 1 (pos 100))) → minus_inf x ≡ false → T (finite x)
unfolding le minus_inf
finite_under nan l n = l
finite_under (inf true) l n = absurd (true≢false n)
finite_under (inf false) l n = l
finite_under (fin t m e) l n = tt

big-is : round binary64 false (2 ^ 100) 1 ≡ fin false 1 (pos 100)
unfolding round
big-is = refl

-- below 2^100
pub round_finite : (s : Bool) (a c : ℕ) → 0 < c → a ≤ 2 ^ 100 * c → T (finite (round binary64 s a c))
round_finite s a c C h =
    round_finite_sign binary64 false s a c
    (finite_under (round binary64 false a c)
    (subst (λ (z : Float). T (le (round binary64 false a c) z)) big-is
    (round_mono binary64 a c (2 ^ 100) 1 C (zero-lt-suc 0) (subst (λ (z : ℕ). z ≤ 2 ^ 100 * c) (sym (mul-one a)) h)))
    (round_plain binary64 a c))

-- the size is at most 2^50
abbrev pub modest : Float → Type 0
modest nan = ⊥
modest (inf s) = ⊥
modest (fin s m e) = m * up e ≤ 2 ^ 50 * down e

pub mul_finite : (x y : Float) → modest x → modest y → T (finite (x ⊗ y))
unfolding mul
mul_finite nan y p q = absurd p
mul_finite (inf s) y p q = absurd p
mul_finite (fin s m e) nan p q = absurd q
mul_finite (fin s m e) (inf t) p q = absurd q
mul_finite (fin s m e) (fin t n d) p q =
    round_finite (unlike s t) (m * up e * (n * up d)) (down e * down d) (mul-pos (down_pos e) (down_pos d))
    (subst (λ (z : ℕ). m * up e * (n * up d) ≤ z) (mul-mul-mul_comm (2 ^ 50) (down e) (2 ^ 50) (down d)) (mul-le-mul p q))

pub modest_finite : (x : Float) → modest x → T (finite x)
modest_finite nan h = absurd h
modest_finite (inf s) h = absurd h
modest_finite (fin s m e) h = tt
