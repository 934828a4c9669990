-- `push_write::write_turn`: the answers to its goals. Assumes nothing.
use native.Mathlib.Omega.{arith}
use lib.ListN.{length-take, length-drop}
use Rattle.push_rows.specs.OwnLaws.{place_is, ready-axes, ready-plane, ready-small}
use Rattle.push_write.proofs.Writing.{write_at, written}
use Rattle.push_write.proofs.write_turn.Goals as goal

pub write_arc-requires : goal.write_arc-requires
write_arc-requires c =
    let b6 = c in
    let w = b6.requires.0 in
    let y = w.ready in (
      record { long = y.block.wide; axes = ready-small y; wide = simp (length-take, length-drop) (omega arith) },
      write_at _ _ _ _ _ _ (ready-axes y) (ready-plane y) (place_is _ y.known) _ _ w.planned b6.requires.1 w.room,
    )

pub returns : goal.returns
returns c =
    let b2 = c in
    let b9 = b2 in
    let y = b9.requires.0.ready in
    written _ _ _ _ _ _ (ready-axes y) (ready-plane y) (place_is _ y.known) _ _ _ b9.requires.1 b2.write_arc.ensures
