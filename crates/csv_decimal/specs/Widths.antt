-- LAWS. How many digits a number has. Assumes nothing.
use Rattle.std.specs.Prelude.{◌≡◌, refl, ℕ, zero, suc, ◌+◌, ◌^◌, ◌≤◌, ◌<◌, Bool, true, false, cond, ltb}
use Rattle.std.proofs.Common.{sym, ap, ◌∙◌, subst, le_refl, le_trans, add-zero, arith, lit<, lt-ltb, le-ltb, ltb-true}
use Rattle.std.proofs.Math.Nat.{pow-le-pow_right}
use Rattle.csv_decimal.specs.Decimal.{width_from, width}

-- ---- where it is found
hit : (i j n : ℕ) → n < 10 ^ i → width_from i (suc j) n ≡ i
unfolding width_from
hit i j n h = ap (λ (b : Bool). cond b i (width_from (suc i) j n)) (lt-ltb n (10 ^ i) h)

miss : (i j n : ℕ) → 10 ^ i ≤ n → width_from i (suc j) n ≡ width_from (suc i) j n
unfolding width_from
miss i j n h = ap (λ (b : Bool). cond b i (width_from (suc i) j n)) (le-ltb n (10 ^ i) h)

further : (i k : ℕ) → i + suc k ≡ suc i + k
further i k = omega arith

-- the tests from i up to i + k miss
behind : (k j i n : ℕ) → 10 ^ (i + k) ≤ n → width_from i (suc k + j) n ≡ width_from (i + suc k) j n
behind zero j i n h =
    let e : suc zero + j ≡ suc j = omega arith in
    let f : suc i ≡ i + suc zero = omega arith in
    ap (λ (z : ℕ). width_from i z n) e ∙ miss i j n (subst (λ (z : ℕ). 10 ^ z ≤ n) (add-zero i) h) ∙ ap (λ (z : ℕ). width_from z j n) f
behind (suc k) j i n h =
    let e : suc (suc k) + j ≡ suc (suc k + j) = omega arith in
    let low : 10 ^ i ≤ n = le_trans (pow-le-pow_right (lit< {m = 0} {n = 10} tt) {i = i} {j = i + suc k} (omega arith)) h in
    ap (λ (z : ℕ). width_from i z n) e
    ∙ miss i (suc k + j) n low
    ∙ behind k j (suc i) n (subst (λ (z : ℕ). 10 ^ z ≤ n) (further i k) h)
    ∙ ap (λ (z : ℕ). width_from z j n) (sym (further i (suc k)))

pub width_one : (n : ℕ) → n < 10 → 1 ≡ width n
width_one n h = sym (hit 1 8 n h)

pub width-at : (k j n : ℕ) → 10 ^ (1 + k) ≤ n → n < 10 ^ (1 + suc k) → 1 + suc k ≡ width_from 1 (suc k + suc j) n
width-at k j n l h = sym (behind k (suc j) 1 n l ∙ hit (1 + suc k) j n h)

pub width-last : (n : ℕ) → 1000000000 ≤ n → 10 ≡ width n
unfolding width_from
width-last n h = sym (behind 8 0 1 n h)

-- ---- how large it is
from-least : (j i n : ℕ) → i ≤ width_from i j n
unfolding width_from
from-least zero i n = le_refl i
from-least (suc j) i n = go (ltb n (10 ^ i)) (from-least j (suc i) n)
  where
    go : (b : Bool) → suc i ≤ width_from (suc i) j n → i ≤ cond b i (width_from (suc i) j n)
    go true h = le_refl i
    go false h = omega arith

from-most : (j i n : ℕ) → width_from i j n ≤ i + j
unfolding width_from
from-most zero i n = omega arith
from-most (suc j) i n = go (ltb n (10 ^ i)) (from-most j (suc i) n)
  where
    go : (b : Bool) → width_from (suc i) j n ≤ suc i + j → cond b i (width_from (suc i) j n) ≤ i + suc j
    go true h = omega arith
    go false h = omega arith

from-under : (k j i n : ℕ) → n < 10 ^ (i + k) → width_from i j n ≤ i + k
unfolding width_from
from-under k zero i n h = omega arith
from-under zero (suc j) i n h =
    subst (λ (w : ℕ). w ≤ i + zero) (sym (hit i j n (subst (λ (z : ℕ). n < 10 ^ z) (add-zero i) h))) (omega arith)
from-under (suc k) (suc j) i n h = go (ltb n (10 ^ i)) (from-under k j (suc i) n (subst (λ (z : ℕ). n < 10 ^ z) (further i k) h))
  where
    go : (b : Bool) → width_from (suc i) j n ≤ suc i + k → cond b i (width_from (suc i) j n) ≤ i + suc k
    go true l = omega arith
    go false l = omega arith

from-holds : (j i n : ℕ) → n < 10 ^ (i + j) → n < 10 ^ width_from i j n
unfolding width_from
from-holds zero i n h = subst (λ (z : ℕ). n < 10 ^ z) (add-zero i) h
from-holds (suc j) i n h = go (ltb n (10 ^ i)) refl (from-holds j (suc i) n (subst (λ (z : ℕ). n < 10 ^ z) (further i j) h))
  where
    go : (b : Bool) → ltb n (10 ^ i) ≡ b → n < 10 ^ width_from (suc i) j n → n < 10 ^ cond b i (width_from (suc i) j n)
    go true e l = ltb-true n (10 ^ i) e
    go false e l = l

pub some-width : (n : ℕ) → 1 ≤ width n
some-width n = from-least 9 1 n

pub width-ten : (n : ℕ) → width n ≤ 10
width-ten n = from-most 9 1 n

pub width-nine : (n : ℕ) → n < 1000000000 → width n ≤ 9
width-nine n h = from-under 8 9 1 n h

pub width-holds : (n : ℕ) → n < 10000000000 → n < 10 ^ width n
width-holds n h = from-holds 9 1 n h
