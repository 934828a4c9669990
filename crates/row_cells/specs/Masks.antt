-- LAWS. Single bits, masks put together bit by bit, and the axes that a mask has. Assumes nothing.
use Rattle.std.specs.Prelude.{ℕ, zero, suc, ◌+◌, ◌-◌, ◌*◌, ◌/◌, ◌%◌, ◌^◌, ◌<◌, ◌≤◌, ◌≡◌, refl, Bool, true, false, cond, ◌&&◌, ◌||◌, List, [], ◌∷◌}
use Rattle.std.specs.Prelude.{◌++◌, eqb, ltb, length}
use Rattle.std.proofs.Common.{sym, ◌∙◌, ap, ap₂, subst, ⊎_elim, arith, add-one, div-lt_iff_lt-mul, mul_comm, pow-suc, lt_of_lt_of_le, eq-or-lt_of_le}
use Rattle.std.proofs.Common.{le_of_suc-le-suc, mod-eq_of_lt, pow_pos, pow-add, pow_mono, shr-shr, eqb-true, eq-eqb, ne_eqb, ltb-true, ltb-false}
use Rattle.std.proofs.Common.{lt-ltb, le-ltb}
use Rattle.std.proofs.Math.Bool.{and-false, or-false, or-true}
use Rattle.std.proofs.lemmas.Bool.{false≢true, eqb-false}
use Rattle.std.proofs.Math.Option.{Option, none, some}
use Rattle.std.proofs.Math.Nat.{add-div_right, add-mul-div_right, div-div-eq-div-mul, pow-succ', zero-div, mod-one, div-eq_of_lt}
use Rattle.std.proofs.lemmas.Nat.{mod-pow-add}
use Rattle.floats.specs.Lists.{upto, keep, member, is_some}
use Rattle.floats.specs.Fill.{length-upto}
use Rattle.floats.specs.Truth.{by_bit, cond-t, cond-f}
use Rattle.layout.specs.Layout.{axis_codes, axis_masks}
use Rattle.row_cells.specs.Bits.{has, with_bit, mask_sum}
use Rattle.row_cells.specs.Row.{mask_of, axes_of}

-- ---- one bit
pub has-none : (k : ℕ) → has 0 k ≡ false
unfolding has
has-none k = rw (zero-div (2 ^ k))

pub has-past : (p n k : ℕ) → p < 2 ^ n → n ≤ k → has p k ≡ false
unfolding has
has-past p n k h l = rw (div-eq_of_lt (lt_of_lt_of_le h (pow_mono l)))

-- a bit that is not set is 0
pub bit_0 : (p k : ℕ) → has p k ≡ false → p / 2 ^ k % 2 ≡ 0
unfolding has
bit_0 p k h = let n : p / 2 ^ k % 2 ≡ 1 → ⊥ = eqb-false _ _ h in omega (arith, n)

pub bit_1 : (p k : ℕ) → has p k ≡ true → p / 2 ^ k % 2 ≡ 1
unfolding has
bit_1 p k h = eqb-true _ _ h

pub has-half : (p k : ℕ) → has p (suc k) ≡ has (p / 2) k
unfolding has
has-half p k = ap (λ (n : ℕ). eqb (n % 2) 1) (ap (λ (n : ℕ). p / n) (pow-succ' 2 k) ∙ sym (div-div-eq-div-mul p 2 (2 ^ k)))

pub has_0 : (p : ℕ) → p % 2 ≡ 1 → has p 0 ≡ true
unfolding has
has_0 p e = let f : p / 2 ^ 0 % 2 ≡ 1 = omega (arith, e) in eq-eqb (p / 2 ^ 0 % 2) 1 f

pub not_0 : (p : ℕ) → p % 2 ≡ 0 → has p 0 ≡ false
unfolding has
not_0 p e = let f : p / 2 ^ 0 % 2 ≡ 1 → ⊥ = λ g. omega (arith, e, g) in ne_eqb (p / 2 ^ 0 % 2) 1 f

-- adding 2 ^ k adds 1 to what lies at bit k and above
add_at : (p k : ℕ) → (p + 2 ^ k) / 2 ^ k ≡ p / 2 ^ k + 1
add_at p k = add-div_right p (pow_pos k)

-- 2 to a sum, as the laws of division want it
pow_split : (k m : ℕ) → 2 ^ (k + suc m) ≡ 2 ^ m * 2 * 2 ^ k
pow_split k m = pow-add 2 k (suc m) ∙ mul_comm (2 ^ k) (2 ^ suc m) ∙ ap (λ (n : ℕ). n * 2 ^ k) (pow-suc 2 m)

pub add_lt : (p k m : ℕ) → has p k ≡ false → p < 2 ^ (k + suc m) → p + 2 ^ k < 2 ^ (k + suc m)
add_lt p k m h l =
    let q : p / 2 ^ k < 2 ^ m * 2 = (div-lt_iff_lt-mul (pow_pos k)).1 (rw (pow_split k m) at l) in
    let r : (p + 2 ^ k) / 2 ^ k < 2 ^ m * 2 = rw (add_at p k) (omega (arith, bit_0 p k h)) in
    rw (pow_split k m) ((div-lt_iff_lt-mul (pow_pos k)).0 r)

pub add_same : (p k : ℕ) → has p k ≡ false → has (p + 2 ^ k) k ≡ true
unfolding has
add_same p k h = eq-eqb ((p + 2 ^ k) / 2 ^ k % 2) 1 (rw (add_at p k) (omega (arith, bit_0 p k h)))

pub add_above : (p k m : ℕ) → has p k ≡ false → has (p + 2 ^ k) (k + suc m) ≡ has p (k + suc m)
unfolding has
add_above p k m h =
    let e : (x : ℕ) → x / 2 ^ (k + suc m) ≡ x / 2 ^ k / 2 / 2 ^ m =
    λ x. sym (shr-shr x k (suc m)) ∙ ap (λ (n : ℕ). x / 2 ^ k / n) (pow-succ' 2 m) ∙ sym (div-div-eq-div-mul (x / 2 ^ k) 2 (2 ^ m)) in
    let s : (p / 2 ^ k + 1) / 2 ≡ p / 2 ^ k / 2 = omega (arith, bit_0 p k h) in
    ap (λ (n : ℕ). eqb (n % 2) 1) (e (p + 2 ^ k) ∙ ap (λ (n : ℕ). n / 2 / 2 ^ m) (add_at p k) ∙ ap (λ (n : ℕ). n / 2 ^ m) s ∙ sym (e p))

pub add_below : (p j m : ℕ) → has (p + 2 ^ (j + suc m)) j ≡ has p j
unfolding has
add_below p j m =
    let e : (p + 2 ^ (j + suc m)) / 2 ^ j ≡ p / 2 ^ j + 2 ^ m * 2 =
    ap (λ (n : ℕ). (p + n) / 2 ^ j) (pow_split j m) ∙ add-mul-div_right p (2 ^ m * 2) (pow_pos j) in
    let s : (p / 2 ^ j + 2 ^ m * 2) % 2 ≡ p / 2 ^ j % 2 = omega arith in
    ap (λ (n : ℕ). eqb n 1) (ap (λ (n : ℕ). n % 2) e ∙ s)

pub add_other : (p k j : ℕ) → has p k ≡ false → (j ≡ k → ⊥) → has (p + 2 ^ k) j ≡ has p j
add_other p k j h d =
    by_bit (ltb j k)
    (λ b. let l : j < k = ltb-true j k b in
    let e : k ≡ j + suc (k - (j + 1)) = omega arith in
    subst (λ (n : ℕ). has (p + 2 ^ n) j ≡ has p j) (sym e) (add_below p j (k - (j + 1))))
    (λ b. let w : k ≤ j = ltb-false j k b in
    let l : k < j = omega (arith, d) in
    let e : j ≡ k + suc (j - (k + 1)) = omega arith in
    subst (λ (n : ℕ). has (p + 2 ^ k) n ≡ has p n) (sym e) (add_above p k (j - (k + 1)) h))

-- ---- a bit taken out
bit_le : (p k : ℕ) → has p k ≡ true → 2 ^ k ≤ p
bit_le p k h =
    by_bit (ltb p (2 ^ k))
    (λ b. let e : p / 2 ^ k ≡ 0 = div-eq_of_lt (ltb-true p (2 ^ k) b) in omega (arith, bit_1 p k h, e))
    (λ b. ltb-false p (2 ^ k) b)

pub out-same : (p k : ℕ) → has p k ≡ true → has (p - 2 ^ k) k ≡ false
unfolding has
out-same p k h =
    let e : p - 2 ^ k + 2 ^ k ≡ p = omega (arith, bit_le p k h) in
    let s : p / 2 ^ k ≡ (p - 2 ^ k) / 2 ^ k + 1 = ap (λ (n : ℕ). n / 2 ^ k) (sym e) ∙ add-div_right (p - 2 ^ k) (pow_pos k) in
    let f : (p - 2 ^ k) / 2 ^ k % 2 ≡ 1 → ⊥ = λ g. omega (arith, bit_1 p k h, s, g) in
    ne_eqb ((p - 2 ^ k) / 2 ^ k % 2) 1 f

pub out-other : (p k j : ℕ) → has p k ≡ true → (j ≡ k → ⊥) → has (p - 2 ^ k) j ≡ has p j
out-other p k j h d =
    let e : p - 2 ^ k + 2 ^ k ≡ p = omega (arith, bit_le p k h) in
    sym (add_other (p - 2 ^ k) k j (out-same p k h) d) ∙ ap (λ (n : ℕ). has n j) e

-- ---- a bit set
pub with-same : (p k : ℕ) → has (with_bit p k) k ≡ true
unfolding with_bit
with-same p k =
    by_bit (has p k)
    (λ h. ap (λ (n : ℕ). has n k) (cond-t _ _ h) ∙ h)
    (λ h. ap (λ (n : ℕ). has n k) (cond-f _ _ h) ∙ add_same p k h)

pub with-other : (p k j : ℕ) → (j ≡ k → ⊥) → has (with_bit p k) j ≡ has p j
unfolding with_bit
with-other p k j d =
    by_bit (has p k)
    (λ h. ap (λ (n : ℕ). has n j) (cond-t _ _ h))
    (λ h. ap (λ (n : ℕ). has n j) (cond-f _ _ h) ∙ add_other p k j h d)

pub with-lt : (p k n : ℕ) → p < 2 ^ n → k < n → with_bit p k < 2 ^ n
unfolding with_bit
with-lt p k n l u =
    by_bit (has p k)
    (λ h. rw (cond-t p (p + 2 ^ k) h) l)
    (λ h. rw (cond-f p (p + 2 ^ k) h)
    (let e : n ≡ k + suc (n - (k + 1)) = omega arith in
    subst (λ (i : ℕ). p + 2 ^ k < 2 ^ i) (sym e) (add_lt p k (n - (k + 1)) h (subst (λ (i : ℕ). p < 2 ^ i) e l))))

-- ---- a mask put together
pub mask-more : (f : ℕ → Bool) (n : ℕ) → mask_sum f (n + 1) ≡ mask_sum f n + cond (f n) (2 ^ n) 0
unfolding mask_sum
mask-more f n = rw add-one

pub mask_lt : (f : ℕ → Bool) (n : ℕ) → mask_sum f n < 2 ^ n
unfolding mask_sum
mask_lt f zero = omega arith
mask_lt f (suc n) =
    by_bit (f n)
    (λ b. rw (b, pow-suc 2 n) (omega (arith, mask_lt f n)))
    (λ b. rw (b, pow-suc 2 n) (omega (arith, mask_lt f n)))

pub mask-same : (f g : ℕ → Bool) (n : ℕ) → ((k : ℕ) → k < n → f k ≡ g k) → mask_sum f n ≡ mask_sum g n
unfolding mask_sum
mask-same f g zero e = refl
mask-same f g (suc n) e = ap₂ (λ (m : ℕ) (b : Bool). m + cond b (2 ^ n) 0) (mask-same f g n (λ k h. e k (omega arith))) (e n (omega arith))

-- of the bits of a number
pub mask-has : (p n : ℕ) → mask_sum (has p) n ≡ p % 2 ^ n
unfolding mask_sum
mask-has p zero = sym (mod-one p)
mask-has p (suc n) =
    let s : p % 2 ^ (1 + n) ≡ (p / 2 ^ n % 2) * 2 ^ n + p % 2 ^ n = mod-pow-add p 1 n in
    let i : suc n ≡ 1 + n = omega arith in
    rw (i, s) (by_bit (has p n)
    (λ b. rw (b, bit_1 p n b) (omega (arith, mask-has p n)))
    (λ b. rw (b, bit_0 p n b) (omega (arith, mask-has p n))))

-- .. and of a mask put together
pub has-mask : (f : ℕ → Bool) (n k : ℕ) → k < n → has (mask_sum f n) k ≡ f k
unfolding mask_sum
has-mask f zero k h = absurd (omega arith)
has-mask f (suc n) k h =
    let out : has (mask_sum f n) n ≡ false = has-past (mask_sum f n) n n (mask_lt f n) (omega arith) in
    ⊎_elim
    (λ (e : k ≡ n). rw e (by_bit (f n)
    (λ b. rw b (add_same (mask_sum f n) n out))
    (λ b. rw b (ap (λ (m : ℕ). has m n) (let z : mask_sum f n + 0 ≡ mask_sum f n = omega arith in z) ∙ out))))
    (λ (l : k < n). by_bit (f n)
    (λ b. rw b (add_other (mask_sum f n) n k out (λ e. omega arith) ∙ has-mask f n k l))
    (λ b. rw b (ap (λ (m : ℕ). has m k) (let z : mask_sum f n + 0 ≡ mask_sum f n = omega arith in z) ∙ has-mask f n k l)))
    (eq-or-lt_of_le (le_of_suc-le-suc h))

pub has_mod : (p n k : ℕ) → k < n → has (p % 2 ^ n) k ≡ has p k
has_mod p n k l = ap (λ (m : ℕ). has m k) (sym (mask-has p n)) ∙ has-mask (has p) n k l

pub below-bits : (p n k : ℕ) → p < 2 ^ n → has p k ≡ true → k < n
below-bits p n k l h =
    by_bit (ltb k n)
    (λ b. ltb-true k n b)
    (λ b. absurd (false≢true (sym (has-past p n k l (ltb-false k n b)) ∙ h)))

-- a number is the mask of its bits
pub mask-of : (p n : ℕ) (f : ℕ → Bool) → p < 2 ^ n → ((k : ℕ) → k < n → has p k ≡ f k) → p ≡ mask_sum f n
mask-of p n f l e = sym (mod-eq_of_lt l) ∙ sym (mask-has p n) ∙ mask-same (has p) f n e

pub same_bits : (p q n : ℕ) → p < 2 ^ n → q < 2 ^ n → ((k : ℕ) → k < n → has p k ≡ has q k) → p ≡ q
same_bits p q n l u e = mask-of p n (has q) l e ∙ mask-has q n ∙ mod-eq_of_lt u

-- the presence mask of a row's cells
mask_snoc : (xs : List (Option ℕ)) (c : Option ℕ) → mask_of (xs ++ (c ∷ [])) ≡ mask_of xs + cond (is_some c) (2 ^ length xs) 0
unfolding mask_of
mask_snoc [] none = refl
mask_snoc [] (some x) = refl
mask_snoc (x ∷ xs) c =
    rw (mask_snoc xs c, pow-suc 2 (length xs))
    (by_bit (is_some c)
    (λ b. rw b (omega arith))
    (λ b. rw b (omega arith)))

pub mask-upto : (f : ℕ → Option ℕ) (n : ℕ) → mask_of (upto f n) ≡ mask_sum (λ (k : ℕ). is_some (f k)) n
unfolding upto mask_sum mask_of
mask-upto f zero = refl
mask-upto f (suc n) = mask_snoc (upto f n) (f n) ∙ rw (mask-upto f n, length-upto f n)

-- ---- members
pub member_append : (k : ℕ) (xs ys : List ℕ) → member k (xs ++ ys) ≡ (member k xs || member k ys)
unfolding member
member_append k [] ys = refl
member_append k (x ∷ xs) ys = by_bit (eqb x k) (λ b. rw b) (λ b. rw b (member_append k xs ys))

pub member-keep : (p : ℕ → Bool) (k : ℕ) (xs : List ℕ) → member k (keep p xs) ≡ (p k && member k xs)
unfolding member keep
member-keep p k [] = sym (and-false (p k))
member-keep p k (x ∷ xs) =
    by_bit (p x)
    (λ a. rw a (by_bit (eqb x k)
    (λ b. rw (b, subst (λ (i : ℕ). p i ≡ true) (eqb-true x k b) a))
    (λ b. rw b (member-keep p k xs))))
    (λ a. rw a (by_bit (eqb x k)
    (λ b. rw (b, member-keep p k xs, subst (λ (i : ℕ). p i ≡ false) (eqb-true x k b) a))
    (λ b. rw b (member-keep p k xs))))

pub member-upto : (k n : ℕ) → member k (upto (λ (i : ℕ). i) n) ≡ ltb k n
unfolding upto member
member-upto k zero = sym (le-ltb k 0 (omega arith))
member-upto k (suc n) =
    member_append k (upto (λ (i : ℕ). i) n) (n ∷ [])
    ∙ rw (member-upto k n)
    (by_bit (eqb n k)
    (λ b. let e : n ≡ k = eqb-true n k b in rw b (or-true (ltb k n) ∙ sym (lt-ltb k (suc n) (omega arith))))
    (λ b. rw b (or-false (ltb k n) ∙ by_bit (ltb k n)
    (λ l. l ∙ sym (lt-ltb k (suc n) (omega (arith, ltb-true k n l))))
    (λ l. l ∙ sym (le-ltb k (suc n) (omega (arith, ltb-false k n l, eqb-false n k b)))))))

-- the axes of a mask
pub member-axes : (mask k : ℕ) → member k (axes_of mask) ≡ (has mask k && ltb k axis_codes)
unfolding axes_of
member-axes mask k = member-keep (has mask) k (upto (λ (i : ℕ). i) axis_codes) ∙ rw (member-upto k axis_codes)

pub member-small : (mask k : ℕ) → mask < axis_masks → member k (axes_of mask) ≡ has mask k
member-small mask k h =
    member-axes mask k
    ∙ by_bit (ltb k axis_codes)
    (λ b. rw b (by_bit (has mask k) (λ a. rw a) (λ a. rw a)))
    (λ b. rw (b, has-past mask axis_codes k h (ltb-false k axis_codes b)))
