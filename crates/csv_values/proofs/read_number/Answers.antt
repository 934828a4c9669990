-- `csv_values::read_number`: the answers to its goals. Assumes nothing.
use Rattle.std.proofs.Common.{arith}
use Rattle.std.proofs.lemmas.Grind.{common_steps}
use Rattle.csv_fields.specs.Readers.{signed}
use Rattle.csv_values.proofs.read_number.Goals as goal

pub returns : goal.returns
returns c = signed _ _ _ (grind (arith, common_steps)) (grind (arith, common_steps)) _ c.read_unsigned.ensures
