-- `row_cells::set_bit`: the answers to its goals. Assumes nothing.
use mathlib.Core.Path.{◌≡◌}
use native.Mathlib.Omega.{arith}
use Prim.Native.Nat.{ℕ, ◌*◌, ◌%◌, ◌^◌}
use lib.Pow.{pow-lt}
use Rattle.row_cells.specs.BitOps.{or_power}
use Rattle.row_cells.proofs.set_bit.Goals as goal

pub returns : goal.returns
returns c =
    let k = c.args.k in
    let e : ◌≡◌ {A = ℕ} (1 * 2 ^ k % 18446744073709551616) (2 ^ k) = omega (arith, pow-lt c.requires) in
    rw e (or_power _ k 64 (omega arith) c.requires)
