-- `picture_text::put_end`: the answers to its goals. Assumes nothing.
use native.Mathlib.Omega.{arith}
use Rattle.picture_text.proofs.put_end.Goals as goal

pub returns : goal.returns
returns c = record { least = omega arith; most = omega arith; same = omega arith }
