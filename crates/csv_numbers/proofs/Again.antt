-- LAWS. A number that was read, when it is written and read again, is the same number. Assumes nothing.
use Rattle.std.specs.Prelude.{◌≡◌, refl, List, [], ◌∷◌, ◌++◌, eqb, pos, get_or, Float, Some, None}
use Rattle.std.proofs.Math.Path.{sym, ap}
use Rattle.std.proofs.Common.{◌∙◌, subst, append-nil, lit<, lit≤, pow-add, take_all}
use Prim.Native.Nat.{ℕ, zero, suc, ◌+◌, ◌-◌, ◌*◌, ◌/◌, ◌%◌, ◌^◌, ◌≤◌, ◌<◌, zero-le}
use native.Mathlib.Nat.{le_refl, le_trans, le_of_eq, le_of_lt, lt_of_lt_of_le, zero-lt-suc, mul_assoc, mul-one, mul-pos, add-mul, pow-succ', one-le-pow}
use native.Mathlib.Nat.{pow-le-pow_right, mod-eq_of_lt, mul-lt-mul_of_pos_right, div-add-mod', add-zero, mod-lt}
use native.Mathlib.Omega.{arith}
use mathlib.Core.Bool.{Bool, true, false, cond, ◌&&◌}
use Rattle.std.proofs.Math.Dec.{ltb}
use Rattle.std.proofs.Math.Arith.{mod-mul}
use Rattle.std.proofs.Math.ListN.{length, take, drop, length-append}
use Rattle.std.proofs.Math.Seq.{take_at, drop-append-add}
use Rattle.std.proofs.lemmas.List.{get_or_at}
use Rattle.std.specs.Float.Ieee.{binary64, div, neg, round, of_int}
use Rattle.std.specs.Float.Ieee.Scale.{round_same}
use borrow.Author.Tests.{lt-ltb, le-ltb, ltb-true}
use Rattle.csv_decimal.specs.Decimal.{millionths, quotient, width}
use Rattle.csv_decimal.specs.Widths.{some-width, width-nine, width-holds}
use Rattle.csv_numbers.proofs.Forms.{no_value}
use Rattle.csv_numbers.specs.Quotients.{quotient_is, millionths_of, not-under, under, sign_free}
use Rattle.csv_fields.specs.Read.{is_digit, run, num, fraction, unsigned, number}
use Rattle.csv_figures.specs.Write.{figures, millionths_text, number_text, shown}
use Rattle.csv_fields.specs.Scans.{digit_in, run-nil, run_more, run-stops, run-most, num-low}
use Rattle.csv_figures.specs.Figures.{figures-length}
use Rattle.csv_fields.specs.Readers.{frac_some, uns_point, minus_in, no_minus, tail-is}

-- ---- digits are read back
pub figure-in : (v k : ℕ) → is_digit (48 + v / 10 ^ k % 10) ≡ true
figure-in v k = let h = mod-lt (v / 10 ^ k) (lit< {m = 0} {n = 10} tt) in digit_in (48 + v / 10 ^ k % 10) (omega arith) (omega arith)

pub run-figures : (m k v : ℕ) (r : List ℕ) → k ≤ m → ((i : ℕ) → run i r ≡ 0) → run m (figures k v ++ r) ≡ k
unfolding figures
run-figures m zero v r h e = e m
run-figures zero (suc k) v r h e = absurd (omega arith)
run-figures (suc m) (suc k) v r h e = run_more m (48 + v / 10 ^ k % 10) (figures k v ++ r) (figure-in v k) ∙ ap suc (run-figures m k v r (omega arith) e)

pub num-figures : (k v n : ℕ) → num n (figures k v) ≡ n * 10 ^ k + v % 10 ^ k
unfolding figures num
num-figures zero v n = sym (ap (λ (z : ℕ). n * 1 + z) (native.Mathlib.Nat.mod-one v) ∙ add-zero (n * 1) ∙ mul-one n)
num-figures (suc k) v n =
    let p = 10 ^ k in
    let d = v / p % 10 in
    let w : v % 10 ^ suc k ≡ d * p + v % p = ap (λ (z : ℕ). v % z) (pow-succ' 10 k) ∙ mod-mul v (lit< {m = 0} {n = 10} tt) (one-le-pow k 10 (lit< tt)) in
    let x : 48 + d - 48 ≡ d = omega arith in
    num-figures k v (n * 10 + (48 + d - 48))
    ∙ ap (λ (z : ℕ). (n * 10 + z) * p + v % p) x
    ∙ ap (λ (z : ℕ). z + v % p) (add-mul (n * 10) d p)
    ∙ native.Mathlib.Nat.add_assoc (n * 10 * p) (d * p) (v % p)
    ∙ ap (λ (z : ℕ). n * 10 * p + z) (sym w)
    ∙ ap (λ (z : ℕ). z + v % 10 ^ suc k) (mul_assoc n 10 p ∙ ap (λ (z : ℕ). n * z) (sym (pow-succ' 10 k)))

-- ---- the text of N millionths is read as N / 10 ^ 6
module _ (s : Bool) (N : ℕ) (small : N < 1000000000000000) where
  fraction_read : Some (quotient s N 6) ≡ fraction s (N / 1000000) (figures 6 N)
  fraction_read =
      let f = figures 6 N in
      let l : length f ≡ 6 = figures-length 6 N in
      let r : run 6 f ≡ 6 = ap (run 6) (sym (append-nil f)) ∙ run-figures 6 6 N [] (le_refl 6) run-nil in
      let t : take 6 f ≡ f = take_all 6 f (le_of_eq l) in
      let n : N ≡ num (N / 1000000) (take 6 f) = sym (ap (num (N / 1000000)) t ∙ num-figures 6 N (N / 1000000) ∙ div-add-mod' N 1000000) in
      frac_some s (N / 1000000) f 6 N (sym r) n (λ (e : 6 ≡ 0). absurd (omega arith)) (sym l) (quotient s N 6) refl

  pub unsigned_read : Some (quotient s N 6) ≡ unsigned s (millionths_text N)
  unfolding millionths_text
  unsigned_read =
      let W = N / 1000000 in
      let w = width W in
      let f = figures w W in
      let g = figures 6 N in
      let t = f ++ (46 ∷ g) in
      let small-W : W < 1000000000 = omega arith in
      let l : length f ≡ w = figures-length w W in
      let r : run 9 t ≡ w = run-figures 9 w W (46 ∷ g) (width-nine W small-W) (λ (i : ℕ). run-stops i 46 g refl) in
      let k : take w t ≡ f = take_at f (46 ∷ g) w l in
      let n : W ≡ num 0 (take w t) =
      sym
      (ap (num 0) k ∙ num-figures w W 0 ∙ ap (λ (z : ℕ). 0 * 10 ^ w + z) (mod-eq_of_lt (width-holds W (omega arith))) ∙ ap (λ (z : ℕ). z + W)
      (native.Mathlib.Nat.zero-mul (10 ^ w)) ∙ native.Mathlib.Nat.zero-add W) in
      let len : length t ≡ w + suc (length g) = length-append f (46 ∷ g) ∙ ap (λ (z : ℕ). z + suc (length g)) l in
      let rest : drop (w + 1) t ≡ g = ap (λ (z : ℕ). drop (z + 1) t) (sym l) ∙ drop-append-add f (46 ∷ g) 1 in
      uns_point s t w W (sym r) n (λ (e : w ≡ 0). absurd (omega (arith, some-width W))) (λ (e : w ≡ length t). absurd (omega arith)) (get_or_at f 46 g 0 w l)
      (Some (quotient s N 6))
      (fraction_read ∙ ap (fraction s W) (sym (tail-is t (w + 1) ∙ rest)))

first_of : (k v : ℕ) (r : List ℕ) → 1 ≤ k → get_or (figures k v ++ r) 0 0 ≡ 45 → ⊥
unfolding figures
first_of zero v r h e = omega arith
first_of (suc k) v r h e = omega arith

pub plain_read : (N : ℕ) → N < 1000000000000000 → number (millionths_text N) ≡ Some (quotient false N 6)
unfolding millionths_text
plain_read N h =
    sym
    (no_minus (millionths_text N) (first_of (width (N / 1000000)) (N / 1000000) (46 ∷ figures 6 N) (some-width (N / 1000000)))
    (Some (quotient false N 6))
    (unsigned_read false N h))

pub minus_read : (N : ℕ) → N < 1000000000000000 → number (45 ∷ millionths_text N) ≡ Some (quotient true N 6)
minus_read N h =
    let t : List ℕ = 45 ∷ millionths_text N in
    sym (minus_in t refl (Some (quotient true N 6)) (unsigned_read true N h ∙ ap (unsigned true) (sym (tail-is t 1))))

-- ---- n / 10 ^ k and n * 10 ^ (6 - k) / 10 ^ 6 are one number
module _ (n k : ℕ) (l : k ≤ 6) (h : n < 10 ^ (9 + k)) where
  N : ℕ
  N = n * 10 ^ (6 - k)

  tens : 10 ^ (6 - k) * 10 ^ k ≡ 1000000
  tens = sym (pow-add 10 (6 - k) k) ∙ ap (λ (z : ℕ). 10 ^ z) (back k l)
    where
      back : (k : ℕ) → k ≤ 6 → 6 - k + k ≡ 6
      back k l = omega arith

  N-low : N < 1000000000000000
  unfolding N
  N-low =
      lt_of_lt_of_le (mul-lt-mul_of_pos_right h (one-le-pow (6 - k) 10 (lit< tt)))
      (le_of_eq (sym (pow-add 10 (9 + k) (6 - k)) ∙ ap (λ (z : ℕ). 10 ^ z) (all k l)))
    where
      all : (k : ℕ) → k ≤ 6 → 9 + k + (6 - k) ≡ 15
      all k l = omega arith

  n-low : n ≤ 2 ^ 53
  n-low = le_trans (le_of_lt (lt_of_lt_of_le h (pow-le-pow_right (lit< {m = 0} {n = 10} tt) (top k l)))) (lit≤ {m = 10 ^ 15} {n = 2 ^ 53} tt)
    where
      top : (k : ℕ) → k ≤ 6 → 9 + k ≤ 15
      top k l = omega arith

  one_number : round binary64 false n (10 ^ k) ≡ round binary64 false N 1000000
  unfolding N
  one_number =
      round_same binary64 false n (10 ^ k) N 1000000 (one-le-pow k 10 (lit< tt)) (lit< tt)
      (ap (λ (z : ℕ). n * z) (sym tens) ∙ sym (mul_assoc n (10 ^ (6 - k)) (10 ^ k)))

  divided : div binary64 (of_int binary64 (pos n)) (of_int binary64 (pos (10 ^ k))) ≡ round binary64 false N 1000000
  divided = quotient_is n k n-low (le_trans l (lit≤ tt)) ∙ one_number

  divided-again : div binary64 (of_int binary64 (pos N)) (of_int binary64 (pos (10 ^ 6))) ≡ round binary64 false N 1000000
  divided-again = quotient_is N 6 (le_trans (le_of_lt N-low) (lit≤ {m = 1000000000000000} {n = 2 ^ 53} tt)) (lit≤ tt)

  alike : ltb 0 n ≡ ltb 0 N
  unfolding N
  alike = go n
    where
      go : (n : ℕ) → ltb 0 n ≡ ltb 0 (n * 10 ^ (6 - k))
      go zero = sym (le-ltb 0 (0 * 10 ^ (6 - k)) (le_of_eq (native.Mathlib.Nat.zero-mul (10 ^ (6 - k)))))
      go (suc n) = lt-ltb 0 (suc n) (zero-lt-suc n) ∙ sym (lt-ltb 0 (suc n * 10 ^ (6 - k)) (mul-pos (zero-lt-suc n) (one-le-pow (6 - k) 10 (lit< tt))))

  y : Float
  y = round binary64 false N 1000000

  signed : Bool → Float
  signed b = cond b (neg y) y

  -- both quotients
  first-is : (s : Bool) → quotient s n k ≡ signed (s && ltb 0 N)
  unfolding quotient y signed
  first-is s = rw (divided, alike)

  again-is : (s : Bool) → quotient s N 6 ≡ signed (s && ltb 0 N)
  unfolding quotient y signed
  again-is s = ap (λ (x : Float). cond (s && ltb 0 N) (neg x) x) divided-again

  size_of : (b : Bool) → millionths (signed b) ≡ N
  unfolding signed y
  size_of true = sign_free (round binary64 false N 1000000) ∙ millionths_of N N-low
  size_of false = millionths_of N N-low

  pub is-shown : (s : Bool) → shown (quotient s n k) ≡ true
  is-shown s = ap shown (first-is s) ∙ ap (λ (z : ℕ). ltb z 1000000000000000) (size_of (s && ltb 0 N)) ∙ lt-ltb N 1000000000000000 N-low

  text_of : (b : Bool) → (b ≡ true → 0 < N) → number_text (signed b) ≡ cond b (45 ∷ millionths_text N) (millionths_text N)
  unfolding number_text signed y
  text_of true p = rw (size_of true, under N N-low (p refl), lt-ltb 0 N (p refl))
  text_of false p = rw (size_of false, not-under N N-low)

  read_back : (s b : Bool) → b ≡ (s && ltb 0 N) → quotient s N 6 ≡ signed b
      → number (cond b (45 ∷ millionths_text N) (millionths_text N)) ≡ Some (signed b)
  read_back true true e q = minus_read N N-low ∙ ap Some q
  read_back false true e q = absurd (mathlib.Core.Bool.true≢false e)
  read_back s false e q = plain_read N N-low ∙ ap Some (again-is false ∙ ap signed refl)

  pub same-again : (s : Bool) → number (number_text (quotient s n k)) ≡ Some (quotient s n k)
  same-again s =
      let b = s && ltb 0 N in
      ap (λ (x : Float). number (number_text x)) (first-is s)
      ∙ ap number (text_of b (some s (ltb 0 N) refl))
      ∙ read_back s b refl (again-is s)
      ∙ ap Some (sym (first-is s))
    where
      some : (s t : Bool) → ltb 0 N ≡ t → (s && t) ≡ true → 0 < N
      some true true e p = ltb-true 0 N e
      some true false e p = absurd (mathlib.Core.Bool.false≢true p)
      some false t e p = absurd (mathlib.Core.Bool.false≢true p)

-- ---- what can be read
pub record Readable (x : Float) : Type 0 where
  pub sign : Bool
  pub whole : ℕ
  pub places : ℕ
  pub few : places ≤ 6
  pub low : whole < 10 ^ (9 + places)
  pub value : x ≡ quotient sign whole places

of_fraction : (s : Bool) (n : ℕ) (t : List ℕ) (x : Float) → n < 1000000000 → fraction s n t ≡ Some x → Readable x
unfolding fraction
of_fraction s n t x h e = go (eqb (run 6 t) 0) (eqb (run 6 t) (length t)) e
  where
    go : (a b : Bool) → cond a None (cond b (Some (quotient s (num n (take (run 6 t) t)) (run 6 t))) None) ≡ Some x → Readable x
    go true b e = absurd (no_value x e)
    go false false e = absurd (no_value x e)
    go false true e =
        record {
          sign = s;
          whole = num n (take (run 6 t) t);
          places = run 6 t;
          few = run-most 6 t;
          low = lt_of_lt_of_le (num-low 6 t n 1000000000 h) (le_of_eq (sym (pow-add 10 9 (run 6 t))));
          value = cc;
        }

of_unsigned : (s : Bool) (t : List ℕ) (x : Float) → unsigned s t ≡ Some x → Readable x
unfolding unsigned
of_unsigned s t x e = go (eqb (run 9 t) 0) (eqb (run 9 t) (length t)) (eqb (get_or t (run 9 t) 0) 46) e
  where
    low : num 0 (take (run 9 t) t) < 1000000000
    low =
        lt_of_lt_of_le (num-low 9 t 0 1 (lit< tt))
        (le_trans (le_of_eq (native.Mathlib.Nat.one-mul (10 ^ run 9 t))) (pow-le-pow_right (lit< {m = 0} {n = 10} tt) (run-most 9 t)))

    go : (a b d : Bool)
        → cond a None (cond b (Some (quotient s (num 0 (take (run 9 t) t)) 0))
        (cond d (fraction s (num 0 (take (run 9 t) t)) (drop (suc (run 9 t)) t)) None)) ≡ Some x
        → Readable x
    go true b d e = absurd (no_value x e)
    go false true d e = record { sign = s; whole = num 0 (take (run 9 t) t); places = 0; few = zero-le; low = low; value = cc }
    go false false true e = of_fraction s (num 0 (take (run 9 t) t)) (drop (suc (run 9 t)) t) x low e
    go false false false e = absurd (no_value x e)

pub readable : (t : List ℕ) (x : Float) → number t ≡ Some x → Readable x
unfolding number
readable t x e = go (eqb (get_or t 0 0) 45) e
  where
    go : (b : Bool) → cond b (unsigned true (drop 1 t)) (unsigned false t) ≡ Some x → Readable x
    go true e = of_unsigned true (drop 1 t) x e
    go false e = of_unsigned false t x e

-- What can be read is written, and read again it is the same number.
pub read_again : (t : List ℕ) (x : Float) → number t ≡ Some x → (shown x ≡ true) × (number (number_text x) ≡ Some x)
read_again t x e =
    let r = readable t x e in
    subst (λ (z : Float). (shown z ≡ true) × (number (number_text z) ≡ Some z)) (sym r.value)
    (is-shown r.whole r.places r.few r.low r.sign, same-again r.whole r.places r.few r.low r.sign)
