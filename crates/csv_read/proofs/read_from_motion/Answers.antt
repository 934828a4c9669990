-- `csv_read::read_from_motion`: the answers to its goals. Assumes nothing.
use mathlib.Core.Path.{sym, ◌∙◌}
use native.Mathlib.Omega.{arith}
use lib.Seq.{length-take-le}
use Rattle.csv_read.proofs.Answers.{inside, motion_nowhere, motion-last, motion-on}
use borrow.Author.Rules.{rules}
use Rattle.csv_read.proofs.read_from_motion.Goals as goal

pub slice_bounds-read_motion-end : goal.slice_bounds-read_motion-end
slice_bounds-read_motion-end c = sym (length-take-le _ _ (inside _ _ c.field_end-end.ensures))

pub returns-in_default : goal.returns-in_default
returns-in_default c =
    motion_nowhere _ _ c.field_end-end.ensures _ _ (sym c.in_default.is ∙ c.read_motion.ensures)

pub returns-then-end-text : goal.returns-then-end-text
returns-then-end-text c =
    motion-last _ _ c.field_end-end.ensures _ _ c.in-Some.motion (sym c.in-Some.is ∙ c.read_motion.ensures) c.if-end-text.true

pub overflow_add-from : goal.overflow_add-from
overflow_add-from c = let h = inside _ _ c.field_end-end.ensures in search rules

pub slice_bounds-read_from_plane-count : goal.slice_bounds-read_from_plane-count
slice_bounds-read_from_plane-count c = let h = inside _ _ c.field_end-end.ensures in let n = c.if-end-text.false in omega arith

pub slice_bounds-read_from_plane-start : goal.slice_bounds-read_from_plane-start
slice_bounds-read_from_plane-start c =
    let h = inside _ _ c.field_end-end.ensures in let n = c.if-end-text.false in search rules

pub returns : goal.returns
returns c =
    motion-on _ _ c.field_end-end.ensures _ _ c.in-Some.motion (sym c.in-Some.is ∙ c.read_motion.ensures) c.if-end-text.false _ _
    c.read_from_plane.ensures
