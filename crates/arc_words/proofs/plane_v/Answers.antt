-- `arc_words::plane_v`: the answers to its goals. Assumes nothing.
use native.Mathlib.Omega.{arith}
use borrow.Author.Tests.{eq-eqb, ne_eqb}
use Rattle.row_cells.specs.Codes.{plane_v}
use Rattle.arc_words.proofs.plane_v.Goals as goal

pub returns-then-plane-eq-PLANE_ZX : goal.returns-then-plane-eq-PLANE_ZX
unfolding plane_v
returns-then-plane-eq-PLANE_ZX c = (rw (eq-eqb _ _ c.if-plane-eq-PLANE_ZX.true), omega arith)

pub returns-then-plane-eq-PLANE_YZ : goal.returns-then-plane-eq-PLANE_YZ
unfolding plane_v
returns-then-plane-eq-PLANE_YZ c = (rw (ne_eqb _ _ c.if-plane-eq-PLANE_ZX.false, eq-eqb _ _ c.if-plane-eq-PLANE_YZ.true), omega arith)

pub returns-else-plane-eq-PLANE_YZ : goal.returns-else-plane-eq-PLANE_YZ
unfolding plane_v
returns-else-plane-eq-PLANE_YZ c = (rw (ne_eqb _ _ c.if-plane-eq-PLANE_ZX.false, ne_eqb _ _ c.if-plane-eq-PLANE_YZ.false), omega arith)
