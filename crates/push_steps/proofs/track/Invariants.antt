-- `push_steps::track`: what holds at each turn of its loops. Assumes nothing.
use Rattle.push_resolve.specs.Asks.{Block}
use Rattle.push_steps.proofs.Tracks.{Tracked}
use Rattle.push_steps.proofs.track.Given as goal

abbrev pub invariant-loop-rest : goal.invariant-loop-rest
invariant-loop-rest l = Tracked l.initial.state l.row l.rest l.state × Block l.initial.state l.row

abbrev pub decreases-loop-rest : goal.decreases-loop-rest
decreases-loop-rest l = l.rest
