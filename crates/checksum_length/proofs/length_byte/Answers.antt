-- `checksum_length::length_byte`: the answers to its goals. Assumes nothing.
use Rattle.checksum_length.proofs.Lengths.{length_none, length_some}
use native.Mathlib.Omega.{arith}
use Rattle.checksum_length.proofs.length_byte.Goals as goal

pub returns-then-n-eq0 : goal.returns-then-n-eq0
returns-then-n-eq0 c = length_none _ _ c.if-n-eq0.true

pub returns : goal.returns
returns c = length_some _ _ c.if-n-eq0.false (omega arith) c.with_byte.ensures
