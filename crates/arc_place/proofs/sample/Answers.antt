-- `arc_place::sample`: the answers to its goals. Assumes nothing.
use Rattle.arc_place.proofs.sample.Goals as goal

pub returns : goal.returns
returns c =
    let sincos = c.sincos-a in
    record { u = rw sincos.ensures.1; v = rw sincos.ensures.0 }
