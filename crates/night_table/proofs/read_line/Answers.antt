-- `night_table::read_line`: the answers to its goals. Assumes nothing.
use mathlib.Core.Path.{sym, ◌∙◌}
use native.Mathlib.Omega.{arith}
use Rattle.night_args.specs.FieldLaws.{near-end}
use Rattle.night_table.proofs.Taking.{reads_none, reads_more, reads_bad, reads_short, reads_end}
use Rattle.night_table.proofs.read_line.Goals as goal

pub loop-k-init : goal.loop-k-init
loop-k-init c = reads_none _ _

pub returns-then-at-text : goal.returns-then-at-text
returns-then-at-text c = reads_short c.loop-k.invariant (omega arith) c.if-at-text.true

pub slice_bounds-read_column-end : goal.slice_bounds-read_column-end
slice_bounds-read_column-end c = omega (arith, c.field_end-end.ensures, near-end c.args.text.now c.loop-k.at c.if-at-text.false)

pub returns-in_default : goal.returns-in_default
returns-in_default c =
    reads_bad c.loop-k.invariant (omega arith) c.if-at-text.false c.field_end-end.ensures (sym (c.in_default.is) ∙ c.read_column.ensures)

pub loop-k-preserved : goal.loop-k-preserved
loop-k-preserved c =
    reads_more c.loop-k.invariant c.requires (omega arith) c.if-at-text.false c.field_end-end.ensures (sym c.in-Some.is ∙ c.read_column.ensures)

pub returns : goal.returns
returns c = reads_end c.loop-k.invariant c.requires (omega arith)
