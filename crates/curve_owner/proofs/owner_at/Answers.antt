-- `curve_owner::owner_at`: the answers to its goals. Assumes nothing.
use native.Mathlib.Omega.{arith}
use Rattle.curve_walk.specs.Walks.{own_in}
use Rattle.curve_owner.proofs.Owners.{knotted}
use Rattle.curve_owner.proofs.owner_at.Goals as goal

pub overflow_sub-s : goal.overflow_sub-s
overflow_sub-s c = omega (arith, (knotted c.in-Basis.is c.requires).one)

pub advance-requires : goal.advance-requires
advance-requires c =
    let at-form = c in
    let start = at-form in
    let k = knotted at-form.in-Basis.is start.requires in (start.requires.owned, (k.knots, k.low))

pub returns-in-Basis : goal.returns-in-Basis
unfolding own_in
returns-in-Basis c = rw c.in-Basis.is c.advance.ensures

pub returns-in-Fit : goal.returns-in-Fit
unfolding own_in
returns-in-Fit c = rw c.in-Fit.is
