-- `night_args::field_at`: what holds at each turn of its loops. Assumes nothing.
use Prim.Native.Nat.{◌≤◌}
use lib.ListN.{length}
use Rattle.night_args.specs.Fields.{FieldFrom}
use Rattle.night_args.proofs.field_at.Given as goal

abbrev pub invariant-loop : goal.invariant-loop
invariant-loop l = FieldFrom l.text l.counter l.at × (l.at ≤ length l.text)
