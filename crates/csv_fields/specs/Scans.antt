-- LAWS. The digits that a text begins with: how many there are, what number they make, and the loop that finds both. Assumes nothing.
use Rattle.std.specs.Prelude.{◌≡◌, refl, ℕ, zero, suc, ◌+◌, ◌-◌, ◌*◌, ◌^◌, ◌≤◌, ◌<◌, List, [], ◌∷◌, ◌++◌, ltb, length, take, drop, get_or}
use Rattle.std.proofs.Common.{sym, ap, ◌∙◌, subst, zero-le, add-one, lit<, drop-cons, take-suc}
use native.Mathlib.Nat.{add-zero, mul-one, mul_assoc, pow-suc, pow-le-pow_right, lt_of_lt_of_le}
use native.Mathlib.Omega.{arith}
use mathlib.Core.Bool.{Bool, true, false, cond}
use Rattle.std.proofs.Math.Seq.{drop-length}
use borrow.Author.Tests.{lt-ltb, le-ltb}
use Rattle.csv_fields.specs.Read.{is_digit, run, num}

pub digit_in : (b : ℕ) → 48 ≤ b → b < 58 → is_digit b ≡ true
digit_in b l h = ap (λ (t : Bool). cond t false (ltb b 58)) (le-ltb b 48 l) ∙ lt-ltb b 58 h

pub digit_under : (b : ℕ) → b < 48 → is_digit b ≡ false
digit_under b h = ap (λ (t : Bool). cond t false (ltb b 58)) (lt-ltb b 48 h)

pub digit_over : (b : ℕ) → 58 ≤ b → is_digit b ≡ false
digit_over b h = go (ltb b 48)
  where
    go : (t : Bool) → cond t false (ltb b 58) ≡ false
    go true = refl
    go false = le-ltb b 58 h

-- ---- `run`
pub run-nil : (m : ℕ) → run m [] ≡ 0
unfolding run
run-nil zero = refl
run-nil (suc m) = refl

pub run_more : (m c : ℕ) (t : List ℕ) → is_digit c ≡ true → run (suc m) (c ∷ t) ≡ suc (run m t)
unfolding run
run_more m c t h = ap (λ (b : Bool). cond b (suc (run m t)) 0) h

pub run-stops : (m c : ℕ) (t : List ℕ) → is_digit c ≡ false → run m (c ∷ t) ≡ 0
unfolding run
run-stops zero c t h = refl
run-stops (suc m) c t h = ap (λ (b : Bool). cond b (suc (run m t)) 0) h

pub run-most : (m : ℕ) (t : List ℕ) → run m t ≤ m
unfolding run
run-most zero t = zero-le
run-most (suc m) [] = zero-le
run-most (suc m) (c ∷ t) = go (is_digit c) (run-most m t)
  where
    go : (b : Bool) → run m t ≤ m → cond b (suc (run m t)) 0 ≤ suc m
    go true h = omega arith
    go false h = zero-le

pub run_length_lem : (m : ℕ) (t : List ℕ) → run m t ≤ length t
unfolding run
run_length_lem zero t = zero-le
run_length_lem (suc m) [] = zero-le
run_length_lem (suc m) (c ∷ t) = go (is_digit c) (run_length_lem m t)
  where
    go : (b : Bool) → run m t ≤ length t → cond b (suc (run m t)) 0 ≤ suc (length t)
    go true h = omega arith
    go false h = zero-le

-- ---- `num`
pub num-last : (n : ℕ) (t : List ℕ) (c : ℕ) → num n (t ++ (c ∷ [])) ≡ num n t * 10 + (c - 48)
unfolding num
num-last n [] c = refl
num-last n (a ∷ t) c = num-last (n * 10 + (a - 48)) t c

-- ---- the loop: i digits were read, and they make n
pub record Scanning (s : List ℕ) (most start i n : ℕ) : Type 0 where
  pub within : i ≤ length s
  pub few : i ≤ most
  pub left : run most s ≡ i + run (most - i) (drop i s)
  pub made : n ≡ num start (take i s)
  pub low : n < 1000000000 * 10 ^ i

pub begins : (s : List ℕ) (most start : ℕ) → start < 1000000000 → Scanning s most start 0 start
unfolding num
begins s most start h =
    record {
      within = zero-le;
      few = zero-le;
      left = sym (native.Mathlib.Nat.zero-add (run (most - 0) s) ∙ ap (λ (k : ℕ). run k s) (native.Mathlib.Nat.sub-zero most));
      made = refl;
      low = h;
    }

power_of : (i : ℕ) → 10 ^ suc i ≡ 10 ^ i * 10
power_of i = pow-suc 10 i

pub room : {s : List ℕ} {most start i n : ℕ} → Scanning s most start i n → most ≤ 10 → (i ≡ most → ⊥) → n * 10 + 10 ≤ 10000000000000000000
room {s} {most} {start} {i} {n} c h e =
    let p : 10 ^ i ≤ 10 ^ 9 = pow-le-pow_right (lit< {m = 0} {n = 10} tt) (small i most c.few h e) in
    omega (arith, c.low)
  where
    small : (i most : ℕ) → i ≤ most → most ≤ 10 → (i ≡ most → ⊥) → i ≤ 9
    small i most a b e = omega arith

pub turns : (s : List ℕ) (most start i n : ℕ) → Scanning s most start i n → i < length s → (i ≡ most → ⊥) → 48 ≤ get_or s i 0 → get_or s i 0 < 58 → (d : ℕ)
    → d ≡ get_or s i 0 - 48
    → Scanning s most start (i + 1) (n * 10 + d)
turns s most start i n c h e l u d w =
    let b = get_or s i 0 in
    let m : most - i ≡ suc (most - suc i) = again most i c.few e in
    record {
      within = omega arith;
      few = further most i c.few e;
      left =
          c.left
          ∙ ap (λ (k : ℕ). i + run k (drop i s)) m
          ∙ ap (λ (t : List ℕ). i + run (suc (most - suc i)) t) (drop-cons s i 0 h)
          ∙ ap (λ (k : ℕ). i + k) (run_more (most - suc i) b (drop (suc i) s) (digit_in b l u))
          ∙ swap i (run (most - suc i) (drop (suc i) s))
          ∙ ap (λ (k : ℕ). i + 1 + run (most - k) (drop k s)) (sym (add-one i));
      made =
          ap (λ (z : ℕ). z * 10 + d) c.made
          ∙ ap (λ (z : ℕ). num start (take i s) * 10 + z) w
          ∙ sym (num-last start (take i s) b)
          ∙ ap (num start) (sym (take-suc s i 0 h) ∙ ap (λ (k : ℕ). take k s) (sym (add-one i)));
      low = subst (λ (z : ℕ). n * 10 + d < 1000000000 * 10 ^ z) (sym (add-one i)) (omega (arith, c.low, power_of i));
    }
  where
    again : (most i : ℕ) → i ≤ most → (i ≡ most → ⊥) → most - i ≡ suc (most - suc i)
    again most i a e = omega arith

    further : (most i : ℕ) → i ≤ most → (i ≡ most → ⊥) → i + 1 ≤ most
    further most i a e = omega arith

    swap : (i k : ℕ) → i + suc k ≡ i + 1 + k
    swap i k = omega arith

-- what it has found where it ends
abbrev Found : List ℕ → ℕ → ℕ → ℕ → ℕ → Type 0
Found s most start i n = (i ≡ run most s) × (n ≡ num start (take i s))

module _ (s : List ℕ) (most start i n : ℕ) (c : Scanning s most start i n) where
  stopped : run (most - i) (drop i s) ≡ 0 → Found s most start i n
  stopped h = (sym (c.left ∙ ap (λ (k : ℕ). i + k) h ∙ add-zero i), c.made)

  pub at_most : i ≡ most → Found s most start i n
  unfolding run
  at_most e = let z : most - i ≡ 0 = omega arith in stopped (ap (λ (k : ℕ). run k (drop i s)) z)

  pub at-end : length s ≤ i → Found s most start i n
  at-end h =
      let e : i ≡ length s = omega (arith, c.within) in
      stopped (ap (λ (k : ℕ). run (most - i) (drop k s)) e ∙ ap (run (most - i)) (drop-length s) ∙ run-nil (most - i))

  pub at-length : length s ≤ i → Found s most start (length s) n
  at-length h = let e : i ≡ length s = omega (arith, c.within) in subst (λ (k : ℕ). Found s most start k n) e (at-end h)

  pub no_digit : i < length s → is_digit (get_or s i 0) ≡ false → Found s most start i n
  no_digit h d = stopped (ap (run (most - i)) (drop-cons s i 0 h) ∙ run-stops (most - i) (get_or s i 0) (drop (suc i) s) d)

-- ---- how large the number is
pub num-low : (m : ℕ) (t : List ℕ) (n b : ℕ) → n < b → num n (take (run m t) t) < b * 10 ^ run m t
unfolding run num
num-low zero t n b h = subst (λ (z : ℕ). n < z) (sym (mul-one b)) h
num-low (suc m) [] n b h = subst (λ (z : ℕ). n < z) (sym (mul-one b)) h
num-low (suc m) (c ∷ t) n b h = go (is_digit c) (ltb c 48) (ltb c 58) refl refl refl (num-low m t)
  where
    upper : (l u : Bool) → cond l false u ≡ true → u ≡ true
    upper true u e = absurd (mathlib.Core.Bool.false≢true e)
    upper false u e = e

    go : (d l u : Bool) → is_digit c ≡ d → ltb c 48 ≡ l → ltb c 58 ≡ u → ((n b : ℕ) → n < b → num n (take (run m t) t) < b * 10 ^ run m t)
        → num n (take (cond d (suc (run m t)) 0) (c ∷ t)) < b * 10 ^ cond d (suc (run m t)) 0
    go false l u e f g ih = subst (λ (z : ℕ). n < z) (sym (mul-one b)) h
    go true l u e f g ih =
        let k = run m t in
        let x : c < 58 = borrow.Author.Tests.ltb-true c 58 (upper (ltb c 48) (ltb c 58) e) in
        lt_of_lt_of_le (ih (n * 10 + (c - 48)) (b * 10) (omega arith))
        (native.Mathlib.Nat.le_of_eq (mul_assoc b 10 (10 ^ k) ∙ ap (λ (z : ℕ). b * z) (native.Mathlib.Nat.mul_comm 10 (10 ^ k) ∙ sym (pow-suc 10 k))))
