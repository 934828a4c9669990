-- `picture_point::put_point`: the answers to its goals. Assumes nothing.
use native.Mathlib.Omega.{arith}
use Rattle.csv_figures.specs.OutLaws.{wrote-length}
use Rattle.picture_point.specs.PointLaws.{behind-place, point-wrote}
use Rattle.picture_point.proofs.put_point.Goals as goal

pub put_byte-b-requires : goal.put_byte-b-requires
put_byte-b-requires c = let h = behind-place _ c.put_place-a.ensures in omega arith

pub put_place-requires : goal.put_place-requires
put_place-requires c =
    let b3 = c in
    let b7 = b3 in
    let h = behind-place _ b7.put_place-a.ensures in omega (arith, b3.put_byte-b.ensures.next, wrote-length b3.put_byte-b.ensures)

pub returns : goal.returns
returns c =
    let b6 = c in
    let b10 = b6 in
    point-wrote _ b10.put_place-a.ensures b6.put_byte-b.ensures c.put_place.ensures
