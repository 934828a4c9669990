-- `night_naming::put_word`: the answers to its goals. Assumes nothing.
use Rattle.night_naming.proofs.Putting.{word-put, behind-word}
use Rattle.night_naming.proofs.put_word.Goals as goal

pub put_byte-requires : goal.put_byte-requires
put_byte-requires c =
    let b3 = c in
    let b6 = b3 in
    behind-word _ b6.requires.1 b6.requires.0 b3.put_motion-a.ensures

pub returns : goal.returns
returns c =
    let b2 = c in
    let b6 = b2 in
    let b9 = b6 in
    word-put _ b9.requires.1 b6.put_motion-a.ensures b2.put_byte.ensures
