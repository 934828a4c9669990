-- `root_bound::root_at_most`: the answers to its goals. Assumes nothing.
use mathlib.Core.Path.{sym, ap, ◌∙◌, subst}
use lib.Dec.{T}
use lib.Ieee.{Float, binary64, le, of_bits}
use lib.Ieee.Bits.{of_bits-to_bits}
use Rattle.root.specs.Root.{sqrt}
use Rattle.root_bound.proofs.Bound.{normal-is}
use Rattle.root_bound.proofs.root_at_most.Goals as goal

pub normal_at_most-requires : goal.normal_at_most-requires
normal_at_most-requires c =
    let second = c in
    let first = second in
    let x = normal-is first.bits-a.result (sym first.is_normal.ensures ∙ second.if-is_normal.true) in
    let y = normal-is first.bits-b.result (sym second.is_normal-then-is_normal.ensures ∙ c.if-is_normal-2.true) in
    record { bound = x; bound_2 = y }

pub returns-then-is_normal-2 : goal.returns-then-is_normal-2
returns-then-is_normal-2 c =
    let at = c in
    let start = at in
    c.normal_at_most.ensures
    ∙ ap (λ (z : Float). le (sqrt binary64 z) (of_bits binary64 at.bits-b.result))
    (ap (of_bits binary64) at.bits-a.ensures ∙ of_bits-to_bits binary64 start.args.x (subst T (sym c.well_formed.0.1) tt))
    ∙ ap (λ (z : Float). le (sqrt binary64 start.args.x) z)
    (ap (of_bits binary64) at.bits-b.ensures ∙ of_bits-to_bits binary64 start.args.y (subst T (sym c.well_formed.1.0.1) tt))

pub returns : goal.returns
returns c = ap (λ (z : Float). le z c.args.y) c.root.ensures
