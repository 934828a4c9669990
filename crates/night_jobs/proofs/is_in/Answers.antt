-- `night_jobs::is_in`: the answers to its goals. Assumes nothing.
use Rattle.night_jobs.proofs.is_in.Goals as goal

pub returns : goal.returns
returns c = rw (c.lot_of.ensures, c.tries_of.ensures)
