-- DEFINITIONS. The values of numbers read and written (rules 7.9 to 7.11), over lib.Ieee's exact values. Assumes nothing.
use Rattle.std.specs.Prelude.{ℕ, zero, suc, ◌*◌, ◌^◌, min, Bool, cond, ◌&&◌, ltb, pos, Float}
use Rattle.std.specs.Float.{nan, inf, fin, binary64}
use Rattle.std.specs.Float.Ieee.{up, down, div, neg, of_int}
use Rattle.std.specs.Float.Ieee.Nearest.{closest}

-- 7.10: the whole number nearest to |x| * 10 ^ 6, ties to even, where x is m * 2 ^ e exactly (`closest`).
-- 10 ^ 15 stands for all that is not below it (7.11).
unfoldable pub millionths : Float → ℕ
millionths nan = 1000000000000000
millionths (inf s) = 1000000000000000
millionths (fin s m e) = min (closest (m * up e * 1000000) (down e)) 1000000000000000

-- 7.9: all digits as a whole number, divided once; no minus before zero
unfoldable pub quotient : Bool → ℕ → ℕ → Float
quotient s n k =
    cond (s && ltb 0 n) (neg (div binary64 (of_int binary64 (pos n)) (of_int binary64 (pos (10 ^ k)))))
    (div binary64 (of_int binary64 (pos n)) (of_int binary64 (pos (10 ^ k))))

-- the first k from i on, of j and one more, with n below 10 ^ k; the last one where it is below none
unfoldable pub width_from : ℕ → ℕ → ℕ → ℕ
width_from i zero n = i
width_from i (suc j) n = cond (ltb n (10 ^ i)) i (width_from (suc i) j n)

-- how many digits n has, for an n below 10 ^ 10
abbrev pub width : ℕ → ℕ
width n = width_from 1 9 n
