-- `night_deed::heading`: the answers to its goals. Assumes nothing.
use Rattle.night_deed.proofs.Asking.{head-told}
use Rattle.night_deed.proofs.heading.Goals as goal

pub returns : goal.returns
returns c =
    let at-put-header = c in
    let start = at-put-header in
    head-told start.requires at-put-header.put_header-n.ensures c.with_out.ensures
