-- `push_write::write_some`: the answers to its goals. Assumes nothing.
use native.Mathlib.Omega.{arith}
use Rattle.push_write.proofs.Writing.{passed_on}
use Rattle.push_write.proofs.write_some.Goals as goal

pub put_row-requires : goal.put_row-requires
put_row-requires c =
    let b6 = c in
    (b6.requires.0.ready.block.wide, omega (arith, b6.requires.0.room))

pub returns-in-None : goal.returns-in-None
returns-in-None c = passed_on _ _ _ _ _ _ (omega arith) c.in-None.is c.put_row.ensures
