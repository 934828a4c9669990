-- LAWS. Counting by index. Assumes nothing.
use Rattle.std.specs.Prelude.{ℕ, zero, suc, ◌+◌, ◌≤◌, ◌≡◌, Bool, true, false}
use Rattle.std.proofs.Common.{sym, ◌∙◌, ap₂, add-one, arith}
use Rattle.tally_words.specs.Words.{bit, count_if}

count-more : (f : ℕ → Bool) (n : ℕ) → count_if f (n + 1) ≡ count_if f n + bit (f n)
unfolding count_if
count-more f n = rw (add-one n)

pub bit_le : (b : Bool) → bit b ≤ 1
bit_le true = omega arith
bit_le false = omega arith

pub bit-small : (b : Bool) (v : ℕ) → v ≡ bit b → v ≤ 1
bit-small b v e = rw e (bit_le b)

-- a loop's next count
pub count-step : (f : ℕ → Bool) (i r v : ℕ) → r ≡ count_if f i → v ≡ bit (f i) → r + v ≡ count_if f (i + 1)
count-step f i r v er ev = ap₂ (λ (x y : ℕ). x + y) er ev ∙ sym (count-more f i)

count_le : (f : ℕ → Bool) (n : ℕ) → count_if f n ≤ n
unfolding count_if
count_le f zero = omega arith
count_le f (suc n) = omega (arith, count_le f n, bit_le (f n))

pub count_small : (f : ℕ → Bool) (i r : ℕ) → r ≡ count_if f i → r ≤ i
count_small f i r e = rw e (count_le f i)
