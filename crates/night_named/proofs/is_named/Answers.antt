-- `night_named::is_named`: the answers to its goals. Assumes nothing.
use Rattle.night_named.proofs.Naming.{named-after, named-first}
use Rattle.night_named.specs.Named.{further}
use Rattle.night_named.proofs.is_named.Goals as goal

pub returns-then-before : goal.returns-then-before
returns-then-before c = named-after _ _ _ c.if-curved.true c.if-before.true c.is_further.ensures

pub returns-then-curved : goal.returns-then-curved
returns-then-curved c =
    let b1 = c in
    let b3 = b1 in
    named-first _ (further b3.args.rows.now b3.args.i) _ b1.if-curved.true c.if-before.false
