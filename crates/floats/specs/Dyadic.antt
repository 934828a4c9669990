-- LAWS. A whole multiple of a power of two down, as the nearest float: it is exact. Assumes nothing.
use Rattle.std.specs.Prelude.{◌≡◌, ℕ, ◌+◌, ◌-◌, ◌*◌, ◌^◌, ◌≤◌, ◌<◌, false, Float}
use Rattle.std.proofs.Common.{sym, ap, ◌∙◌, mul_assoc, lt_of_lt_of_le, arith, pow-add, pow_pos, pow_mono, shl_lt}
use Rattle.std.specs.Float.{binary64}
use Rattle.std.specs.Float.Ieee.{round}
use Rattle.std.specs.Float.Ieee.Exact.{HasValue, round_exact}

-- a / 2^d
unfoldable pub dy : ℕ → ℕ → Float
dy a d = round binary64 false a (2 ^ d)

pub dy-value : (a d : ℕ) → a < 2 ^ 53 → d ≤ 1000 → HasValue (dy a d) false a (2 ^ d)
unfolding dy
dy-value a d h l =
    let j : ℕ = 1074 - d in
    let e : 1074 - d + d ≡ 1074 = omega arith in
    round_exact binary64 false a (2 ^ d) a (1074 - d) (pow_pos d) h
    (lt_of_lt_of_le (shl_lt 53 (1074 - d) h) (pow_mono {i = 53 + (1074 - d)} {j = 2098} (omega arith)))
    (ap (λ (z : ℕ). a * 2 ^ z) (sym e) ∙ ap (λ (z : ℕ). a * z) (pow-add 2 (1074 - d) d) ∙ sym (mul_assoc a (2 ^ (1074 - d)) (2 ^ d)))
