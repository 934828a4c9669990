-- `trig::sincos`: the answers to its goals. Assumes nothing.
use Rattle.trig.specs.Trig.{sin_steps, cos_steps}
use Rattle.trig.proofs.sincos.Goals as goal

pub returns : goal.returns
unfolding sin_steps cos_steps
returns c =
    let s = c.sin_of-s.ensures in
    let k = c.cos_of-c.ensures in
    (rw (c.turned.ensures.0, s, k), rw (c.turned.ensures.1, s, k))
