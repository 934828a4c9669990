-- `night_naming::put_field`: the answers to its goals. Assumes nothing.
use Rattle.night_naming.proofs.Putting.{field_put, behind-number}
use native.Mathlib.Omega.{arith}
use Rattle.night_naming.proofs.put_field.Goals as goal

pub put_byte-requires : goal.put_byte-requires
put_byte-requires c =
    let b3 = c in
    let b6 = b3 in
    omega (arith, behind-number _ b6.requires b3.put_whole-a.ensures)

pub returns : goal.returns
returns c = field_put _ c.put_whole-a.ensures c.put_byte.ensures
