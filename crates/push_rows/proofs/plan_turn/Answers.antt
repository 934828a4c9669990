-- `push_rows::plan_turn`: the answers to its goals. Assumes nothing.
use native.Mathlib.Omega.{arith}
use lib.ListN.{length-take, length-drop}
use Rattle.push_rows.specs.OwnLaws.{place_is, turn-planned, ready-axes, ready-plane, ready-small}
use Rattle.push_rows.proofs.plan_turn.Goals as goal

pub plan_arc-requires : goal.plan_arc-requires
plan_arc-requires c =
    let b6 = c in
    record { long = b6.requires.block.wide; axes = ready-small b6.requires; wide = simp (length-take, length-drop) (omega arith) }

pub returns : goal.returns
returns c = let y = c.requires in
    turn-planned _ _ _ _ _ _ _ _ (ready-axes y) (ready-plane y) c.of_bits-tol.ensures (place_is _ y.known) c.plan_arc.ensures
