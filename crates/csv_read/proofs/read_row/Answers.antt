-- `csv_read::read_row`: the answers to its goals. Assumes nothing.
use mathlib.Core.Path.{sym, ◌∙◌}
use native.Mathlib.Omega.{arith}
use lib.Seq.{length-take-le}
use Rattle.csv_read.proofs.Answers.{inside, line_bad, line-last, line_on}
use borrow.Author.Rules.{rules}
use Rattle.csv_read.proofs.read_row.Goals as goal

pub slice_bounds-read_line-end : goal.slice_bounds-read_line-end
slice_bounds-read_line-end c = sym (length-take-le _ _ (inside _ _ c.field_end-end.ensures))

pub returns-in_default : goal.returns-in_default
returns-in_default c = line_bad _ _ c.field_end-end.ensures _ (sym c.in_default.is ∙ c.read_line.ensures)

pub returns-then-end-text : goal.returns-then-end-text
returns-then-end-text c =
    line-last _ _ c.field_end-end.ensures _ c.in-Some.line (sym c.in-Some.is ∙ c.read_line.ensures) c.if-end-text.true

pub overflow_add-from : goal.overflow_add-from
overflow_add-from c = let h = inside _ _ c.field_end-end.ensures in search rules

pub slice_bounds-read_from_motion-count : goal.slice_bounds-read_from_motion-count
slice_bounds-read_from_motion-count c = let h = inside _ _ c.field_end-end.ensures in let n = c.if-end-text.false in omega arith

pub slice_bounds-read_from_motion-start : goal.slice_bounds-read_from_motion-start
slice_bounds-read_from_motion-start c =
    let h = inside _ _ c.field_end-end.ensures in let n = c.if-end-text.false in search rules

pub returns : goal.returns
returns c =
    line_on _ _ c.field_end-end.ensures _ c.in-Some.line (sym c.in-Some.is ∙ c.read_line.ensures) c.if-end-text.false _ _
    c.read_from_motion.ensures
