-- `arc_ends::seek_centre`: the answers to its goals. Assumes nothing.
use mathlib.Core.Path.{◌∙◌}
use Rattle.arc_ends.proofs.seek_centre.Goals as goal

pub returns : goal.returns
returns c =
    let cr = c.cell_number-cr in
    let j = c.cell_number-j in
    let i = c.cell_number-i in
    c.find_centre.ensures ∙ rw (i.ensures, j.ensures, cr.ensures)
