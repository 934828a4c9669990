-- `picture_run::whole_line`: the answers to its goals. Assumes nothing.
use mathlib.Core.Path.{sym, ◌∙◌}
use lib.Seq.{length-take-le}
use Rattle.picture_run.specs.RoomLaws.{text-within}
use Rattle.picture_run.proofs.whole_line.Goals as goal

pub slice_bounds-text_line-end : goal.slice_bounds-text_line-end
slice_bounds-text_line-end c =
    sym (length-take-le _ _ (text-within _ _ (sym c.text_end.ensures ∙ c.in-Some.is)))
