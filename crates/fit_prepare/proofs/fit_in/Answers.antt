-- `fit_prepare::fit_in`: the answers to its goals. Assumes nothing.
use native.Mathlib.Omega.{arith}
use Rattle.fit_prepare.proofs.Readies.{kept-few, kept-length, kept-below, kept-rise}
use Rattle.fit_prepare.proofs.fit_in.Goals as goal

pub gather-requires-clause-below : goal.gather-requires-clause-below
gather-requires-clause-below g c = kept-below c.requires.fit_room.some c.keep-m.ensures

pub gather-requires-clause-in_bounds : goal.gather-requires-clause-in_bounds
gather-requires-clause-in_bounds g c =
    let some = c.requires.fit_room.some in
    let kept = c.keep-m.ensures in
    omega (arith, kept-length some kept, kept-few some kept)

pub gather-requires-clause-times_rise : goal.gather-requires-clause-times_rise
gather-requires-clause-times_rise g c = kept-rise c.requires.fit_room.some c.keep-m.ensures
