-- `night_naming::put_last`: the answers to its goals. Assumes nothing.
use Rattle.night_naming.proofs.Putting.{none-put, some-put, behind-number}
use Rattle.night_naming.proofs.put_last.Goals as goal

pub returns-then-warning-eq0 : goal.returns-then-warning-eq0
returns-then-warning-eq0 c = none-put _ c.if-warning-eq0.true c.put_crlf.ensures

pub put_crlf-requires-2 : goal.put_crlf-requires-2
put_crlf-requires-2 c = behind-number _ c.requires c.put_whole-a.ensures

pub returns : goal.returns
returns c =
    let b2 = c in
    let b6 = b2 in
    let b8 = b6 in
    some-put _ b8.if-warning-eq0.false b6.put_whole-a.ensures b2.put_crlf-2.ensures
