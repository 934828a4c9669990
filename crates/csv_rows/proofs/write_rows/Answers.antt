-- `csv_rows::write_rows`: the answers to its goals. Assumes nothing.
use mathlib.Core.Path.{◌≡◌, refl}
use native.Mathlib.Omega.{arith}
use Rattle.csv_write.specs.Writer.{rows_text, rows_writable}
use Rattle.csv_write.specs.Texts.{row-length}
use Rattle.csv_write.specs.Writing.{puts_none, puts_on, puts_off, puts_all, part-tried}
use Rattle.csv_rows.proofs.write_rows.Goals as goal

pub loop-i-init : goal.loop-i-init
loop-i-init c = puts_none _ _ _ _ _

pub returns-in_err-at : goal.returns-in_err-at
unfolding rows_text rows_writable
returns-in_err-at c =
    rw c.from_residual.ensures
    (puts_off _ _ _ c.args.count c.loop-i.invariant c.loop-i-test.true c.in_err-at.was
    (part-tried c.args.rows.now c.loop-i.i _ _ refl refl c.write_row.ensures))

pub loop-i-preserved : goal.loop-i-preserved
loop-i-preserved c =
    puts_on _ _ _ _ c.loop-i.invariant c.in_ok-at.was (part-tried c.args.rows.now c.loop-i.i _ _ refl refl c.write_row.ensures) (row-length _)

pub shape_of-out : goal.shape_of-out
shape_of-out c = c.loop-i.invariant.same

pub returns : goal.returns
unfolding rows_text rows_writable
returns c =
    let e : c.loop-i.i ≡ c.args.count = omega arith in puts_all _ _ _ c.args.count c.loop-i.invariant e
