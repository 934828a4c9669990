-- `fit_piece::is_piece`: the answers to its goals. Assumes nothing.
use mathlib.Core.Logic.{inl, inr}
use native.Mathlib.Omega.{arith}
use borrow.Author.Tests.{eqb-true}
use Rattle.fit_piece.proofs.Pieces.{hinted}
use Rattle.fit_piece.proofs.is_piece.Goals as goal
use Rattle.fit_piece.proofs.is_piece.Goals.{else-w-gt0-via-then-w-gt0+else-t-ts, else-w-gt0-via-else-w-gt0}

pub returns-then-t-ts-2 : goal.returns-then-t-ts-2
returns-then-t-ts-2 c e = hinted _ _ _ c.requires.rising _ (omega arith) (λ h. elim c.else-w-gt0.branch [
  | else-w-gt0-via-then-w-gt0+else-t-ts w ↦ w.if-t-ts.false
  | else-w-gt0-via-else-w-gt0 w ↦ absurd (omega (arith, w.if-w-gt0.false))
]) (inr c.if-t-ts-2.true)

pub returns-else-t-ts-2 : goal.returns-else-t-ts-2
returns-else-t-ts-2 c e = hinted _ _ _ c.requires.rising _ (omega arith) (λ h. elim c.else-w-gt0.branch [
  | else-w-gt0-via-then-w-gt0+else-t-ts w ↦ w.if-t-ts.false
  | else-w-gt0-via-else-w-gt0 w ↦ absurd (omega (arith, w.if-w-gt0.false))
]) (inl (eqb-true _ _ e))
