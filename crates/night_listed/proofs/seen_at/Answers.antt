-- `night_listed::seen_at`: the answers to its goals. Assumes nothing.
use mathlib.Core.Path.{refl}
use Rattle.night_listed.proofs.Walking.{row_seen}
use Rattle.night_listed.proofs.seen_at.Goals as goal

pub returns : goal.returns
returns c = row_seen _ c.args.rows.now c.args.i _ _ refl refl c.still_curved.ensures
