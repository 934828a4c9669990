-- `picture_path::put_path_end`: the answers to its goals. Assumes nothing.
use mathlib.Core.Path.{refl}
use native.Mathlib.Omega.{arith}
use borrow.Author.Tests.{eq-eqb, ne_eqb}
use Rattle.picture_path.specs.PathText.{end_text}
use Rattle.picture_path.proofs.put_path_end.Goals as goal

pub returns-then-path-eq0 : goal.returns-then-path-eq0
unfolding end_text
returns-then-path-eq0 c = rw (eq-eqb _ _ c.if-path-eq0.true) (record { next = omega arith; text = refl })

pub returns-else-path-eq0 : goal.returns-else-path-eq0
unfolding end_text
returns-else-path-eq0 c = rw (ne_eqb _ _ c.if-path-eq0.false) c.put_bytes.ensures
