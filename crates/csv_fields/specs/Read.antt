-- DEFINITIONS. What the texts of numbers and of source lines stand for: rules 7.7, 7.8. Assumes nothing.
use Rattle.std.specs.Prelude.{ℕ, zero, suc, ◌+◌, ◌-◌, ◌*◌, Bool, true, false, cond, List, [], ◌∷◌, ltb, eqb, length, take, drop, get_or, Option, Some, None}
use Rattle.std.specs.Prelude.{Float}
use Rattle.layout.specs.Layout.{line_numbers}
use Rattle.csv_decimal.specs.Decimal.{quotient}

abbrev pub is_digit : ℕ → Bool
is_digit c = cond (ltb c 48) false (ltb c 58)

-- how many digits t begins with, m at most
unfoldable pub run : ℕ → List ℕ → ℕ
run zero t = 0
run (suc m) [] = 0
run (suc m) (c ∷ t) = cond (is_digit c) (suc (run m t)) 0

-- the whole number that the digits t make behind n
unfoldable pub num : ℕ → List ℕ → ℕ
num n [] = n
num n (c ∷ t) = num (n * 10 + (c - 48)) t

-- 7.8: 1 to 6 digits behind the point, and no more; n is what stands before it
unfoldable pub fraction : Bool → ℕ → List ℕ → Option Float
unfolding run num
fraction s n t =
    cond (eqb (run 6 t) 0) None
    (cond (eqb (run 6 t) (length t)) (Some (quotient s (num n (take (run 6 t) t)) (run 6 t))) None)

-- 7.8: 1 to 9 digits, and then nothing, or a point and its digits
unfoldable pub unsigned : Bool → List ℕ → Option Float
unfolding run num fraction
unsigned s t =
    cond (eqb (run 9 t) 0) None
    (cond (eqb (run 9 t) (length t)) (Some (quotient s (num 0 (take (run 9 t) t)) 0))
    (cond (eqb (get_or t (run 9 t) 0) 46) (fraction s (num 0 (take (run 9 t) t)) (drop (suc (run 9 t)) t)) None))

-- 7.8: a minus, or none
unfoldable pub number : List ℕ → Option Float
unfolding unsigned
number t = cond (eqb (get_or t 0 0) 45) (unsigned true (drop 1 t)) (unsigned false t)

-- 7.7: 1 to 10 digits, and a number of the layout
unfoldable pub line_number : List ℕ → Option ℕ
unfolding run num
line_number t =
    cond (eqb (run 10 t) 0) None
    (cond (eqb (run 10 t) (length t)) (cond (ltb (num 0 (take (run 10 t) t)) line_numbers) (Some (num 0 (take (run 10 t) t))) None) None)
