-- `checksum_length::ended`: what holds at each turn of its loops. Assumes nothing.
use Prim.Native.Nat.{◌-◌}
use mathlib.Core.Path.{◌≡◌}
use Rattle.checksum.specs.Checksum.{with_bytes, length_bytes}
use Rattle.checksum_length.proofs.ended.Given as goal

abbrev pub invariant-loop : goal.invariant-loop
invariant-loop l = with_bytes l.sum (length_bytes (8 - l.counter) l.left) ≡ with_bytes l.s (length_bytes 8 l.length)
