-- `csv_out::refuse`: the answers to its goals. Assumes nothing.
use mathlib.Core.Path.{refl}
use Rattle.csv_out.specs.SayLaws.{note, notice_short}
use Rattle.csv_out.proofs.refuse.Goals as goal

pub returns : goal.returns
returns c = note refl refl refl refl refl (notice_short _ _ _) c.requires c.put_notice-n.ensures
