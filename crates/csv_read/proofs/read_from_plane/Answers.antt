-- `csv_read::read_from_plane`: the answers to its goals. Assumes nothing.
use mathlib.Core.Path.{sym, ◌∙◌}
use native.Mathlib.Omega.{arith}
use lib.Seq.{length-take-le}
use Rattle.csv_read.proofs.Answers.{inside, plane_nowhere, plane-last, plane-on, cells_read, cells-not}
use borrow.Author.Rules.{rules}
use Rattle.csv_read.proofs.read_from_plane.Goals as goal

pub slice_bounds-read_plane-end : goal.slice_bounds-read_plane-end
slice_bounds-read_plane-end c = sym (length-take-le _ _ (inside _ _ c.field_end-end.ensures))

pub returns-in_default : goal.returns-in_default
returns-in_default c =
    plane_nowhere _ _ c.field_end-end.ensures _ _ _ (sym c.in_default.is ∙ c.read_plane.ensures)

pub returns-then-end-text : goal.returns-then-end-text
returns-then-end-text c =
    plane-last _ _ c.field_end-end.ensures _ _ _ c.in-Some.plane (sym c.in-Some.is ∙ c.read_plane.ensures) c.if-end-text.true

pub overflow_add-from : goal.overflow_add-from
overflow_add-from c = let h = inside _ _ c.field_end-end.ensures in search rules

pub slice_bounds-read_cells-count : goal.slice_bounds-read_cells-count
slice_bounds-read_cells-count c = let h = inside _ _ c.field_end-end.ensures in let n = c.if-end-text.false in omega arith

pub slice_bounds-read_cells-start : goal.slice_bounds-read_cells-start
slice_bounds-read_cells-start c = let h = inside _ _ c.field_end-end.ensures in let n = c.if-end-text.false in search rules

pub returns-then-read_cells : goal.returns-then-read_cells
returns-then-read_cells c =
    plane-on _ _ c.field_end-end.ensures _ _ _ c.in-Some.plane (sym c.in-Some.is ∙ c.read_plane.ensures) c.if-end-text.false _ _
    (cells_read _ _ _ _ _ _ _ c.if-read_cells.true c.read_cells.ensures _ c.copy_from_slice.ensures.after)

pub returns : goal.returns
returns c =
    plane-on _ _ c.field_end-end.ensures _ _ _ c.in-Some.plane (sym c.in-Some.is ∙ c.read_plane.ensures) c.if-end-text.false _ _
    (cells-not _ _ _ _ _ _ _ c.if-read_cells.false c.read_cells.ensures)
