-- LAWS. A row of a flat list, lent as a part of a slice. Assumes nothing.
use Rattle.std.specs.Prelude.{◌≡◌, List, ℕ, ◌+◌, ◌*◌, ◌-◌, ◌≤◌, length, take, drop, Float}
use Rattle.std.proofs.Common.{◌∙◌, add-one, suc-mul, arith, length-drop, length-take-le}
use Rattle.floats.specs.Lists.{row}

-- the part of n cells from a on
abbrev pub part : List Float → ℕ → ℕ → List Float
part xs a n = take (a + n - a) (drop a xs)

pub length_part : (xs : List Float) (a n : ℕ) → a + n ≤ length xs → length (part xs a n) ≡ n
length_part xs a n h = length-take-le (a + n - a) (drop a xs) (rw length-drop (omega arith)) ∙ omega arith

pub part-row : (xs : List Float) (k n a : ℕ) → a ≡ k * n → part xs a n ≡ row xs n k
part-row xs k n a e =
    let s : k * n + n - k * n ≡ n = omega arith in
    rw (e, s)

pub next_row : (k n a : ℕ) → a ≡ k * n → a + n ≡ (k + 1) * n
next_row k n a e = rw (add-one, suc-mul, e)
