-- `root::of_normal`: the answers to its goals. Assumes nothing.
use Prim.Native.Nat.{◌+◌, ◌-◌, ◌*◌, ◌/◌, ◌^◌}
use mathlib.Core.Path.{◌≡◌, sym, ◌∙◌, subst}
use native.Mathlib.Omega.{arith}
use Rattle.root.proofs.Normal.{exponent, Taken, bounds, taken_is, law}
use Rattle.root.proofs.of_normal.Goals as goal

digits_are : (c : goal.After-taken) → Taken c.args.b c.taken.result
digits_are c = subst (Taken c.args.b) (sym c.taken.ensures) (taken_is c.args.b)

pub near-requires : goal.near-requires
near-requires c = omega (arith, bounds c.args.b c.taken.result (digits_are c))

pub returns : goal.returns
returns c =
    let d = c in
    let base = (exponent d.args.b + 1021) / 2 * 2 ^ 52 in
    let whole : c.near.result ≡ base + (c.near.result - base) = omega (arith, c.near.ensures.0) in
    whole ∙ law d.args.b d.taken.result (c.near.result - base) d.requires.0 d.requires.1 (digits_are d.before) c.near.ensures.1
