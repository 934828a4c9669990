-- LAWS. The room that the numbers of n points take. Assumes nothing.
use Rattle.std.specs.Prelude.{ℕ, ◌*◌, ◌≤◌}
use Rattle.std.proofs.Common.{mul-le-mul_left, arith}
use Rattle.layout.specs.Layout.{axis_codes}

pub cells_in : (n ch : ℕ) → ch ≤ axis_codes → n * ch ≤ axis_codes * n
cells_in n ch h = let a : n * ch ≤ n * axis_codes = mul-le-mul_left n h in omega arith
