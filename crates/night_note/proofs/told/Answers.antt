-- `night_note::told`: the answers to its goals. Assumes nothing.
use Rattle.night_note.proofs.Noting.{note-is}
use Rattle.night_note.proofs.told.Goals as goal

pub returns : goal.returns
returns c =
    let at-tally-note = c in
    note-is at-tally-note.tally_note-note.ensures c.if_told.ensures
