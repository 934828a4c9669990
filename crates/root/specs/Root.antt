-- DEFINITIONS. The square root of IEEE 754 over `lib.Ieee`: the exact root to the format's nearest value, ties to the even one. Assumes nothing.
-- There are no real numbers here: a root is compared by squares of whole numbers. What the steps below come to is said without them in two laws
-- of modules beside this one: Floor, `floor-root`; Closest, `sqrt_is_closest`.
use Prim.Native.Nat.{ℕ, zero, suc, ◌-◌, ◌*◌, ◌/◌, ◌^◌, compare}
use Rattle.std.specs.Prelude.{false, cond, leb, Float}
use Rattle.std.specs.Float.{binary64, nan, inf, fin, Format}
use Rattle.std.specs.Float.Ieee.{prec, low, up, down, size, nearest, units}

-- The largest s with s * s ≤ n, for an n below 4 ^ d: a binary digit of s for each two of n.
unfoldable pub floor_root : ℕ → ℕ → ℕ
floor_root zero n = zero
floor_root (suc d) n = let h = 2 * floor_root d (n / 4) in cond (leb (suc h * suc h) n) (suc h) h

-- The value of the format f nearest to √n times f's smallest value. √n's whole part has half as many binary digits as n,
-- rounded up. The format keeps the `prec` leading ones and drops k.
-- So the result is a multiple of 2 ^ k: q of them, or one more where √n is above (q + 1/2) * 2 ^ k. That is half of h, and √n is half of √(4 * n).
unfoldable pub root_units : Format → ℕ → Float
unfolding floor_root size units
root_units f n =
    let k = suc (size n) / 2 - prec f in
    let q = floor_root (prec f) (n / (2 ^ k * 2 ^ k)) in
    let h = suc (2 * q) * 2 ^ k in
    units f false (nearest q (compare (4 * n) (h * h))) k

-- A number above 0 is some w of the format's smallest values, each 2 ^ -low, and its root √(w * 2 ^ low) of them. The root of a
-- zero is that zero, and no number below 0 has a root.
unfoldable pub sqrt : Format → Float → Float
unfolding root_units
sqrt f nan = nan
sqrt f (inf s) = cond s nan (inf s)
sqrt f (fin s zero e) = fin s zero e
sqrt f (fin s (suc m) e) = cond s nan (root_units f (suc m * up e * 2 ^ low f / down e * 2 ^ low f))

-- of binary64, the format of every number here
abbrev pub root : Float → Float
root x = sqrt binary64 x
