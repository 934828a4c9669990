-- `saved_rows::row_fits`: the answer to a goal. Assumes nothing.
use Rattle.std.proofs.Common.{sym, ◌∙◌, arith, eqb-true}
use Rattle.row_check.specs.CheckLaws.{check-length}
use Rattle.saved_rows.proofs.row_fits.Goals as goal

pub bounds-row-1 : goal.bounds-row-1
bounds-row-1 c = omega (arith, check-length _ (eqb-true _ _ (sym c.row_ok.ensures ∙ c.if-row_ok.true)))
