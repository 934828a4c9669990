-- `night_deed::line_is`: the answers to its goals. Assumes nothing.
use mathlib.Core.Path.{sym, ◌∙◌}
use lib.Seq.{length-take-le}
use Rattle.csv_spec.specs.LineLaws.{end_in}
use Rattle.night_deed.proofs.line_is.Goals as goal

pub slice_bounds-text_is-end : goal.slice_bounds-text_is-end
slice_bounds-text_is-end c =
    let at_n = c in
    let at-text-end = at_n in
    sym (length-take-le _ _ (end_in _ (sym at-text-end.text_end.ensures ∙ at_n.in-Some.is)))
