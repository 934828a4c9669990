-- How many of a list's first elements pass a test, as the definition counts them by index. Assumes nothing.
use Rattle.std.proofs.Common.{ℕ, zero, suc, ◌≡◌, ◌≤◌, ◌<◌, Bool, cond, List, length, take, get_or, refl, add-one, arith}
use Rattle.std.specs.List.{count_by}
use Rattle.std.proofs.lemmas.List.Sums.{sum_by_more}
use Rattle.tally_words.specs.Words.{count_if}

pub counted : (p : ℕ → Bool) (xs : List ℕ) (n : ℕ) → n ≤ length xs → count_by p (take n xs) ≡ count_if (λ (i : ℕ). p (get_or xs i 0)) n
unfolding count_if
counted p xs zero h = refl
counted p xs (suc n) h =
    let l : n < length xs = omega arith in
    rw (← add-one n, sum_by_more (λ x. cond (p x) 1 0) xs n 0 l, counted p xs n (omega arith))
