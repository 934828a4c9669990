-- `night_naming::put_line`: the answers to its goals. Assumes nothing.
use Rattle.night_naming.proofs.Putting.{line-put}
use Rattle.night_naming.proofs.put_line.Goals as goal

pub returns : goal.returns
returns c =
    let b2 = c in
    let b6 = b2 in
    let b10 = b6 in
    let b14 = b10 in
    let b18 = b14 in
    line-put _ _ _ _ _ b18.put_field-a.ensures b14.put_field-b.ensures b10.put_field-c.ensures b6.put_word-d.ensures b2.put_last.ensures
