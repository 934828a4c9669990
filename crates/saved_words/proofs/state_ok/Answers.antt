-- `saved_words::state_ok`: the answer to a goal. Assumes nothing.
use Rattle.std.proofs.Common.{arith}
use Rattle.std.proofs.lemmas.Bool.Decides.{nat_tests}
use Rattle.saved_state.specs.StateLaws.{axes-few}
use Rattle.saved_words.proofs.state_ok.Goals as goal

pub ok_from_motion-requires : goal.ok_from_motion-requires
ok_from_motion-requires c = record { long = grind (arith, nat_tests); few = grind (arith, nat_tests, axes-few) }
