-- `root::root`: the answers to its goals. Assumes nothing.
use mathlib.Core.Path.{◌≡◌, sym, ap, ◌∙◌, subst}
use mathlib.Core.Bool.{Bool, not}
use lib.Dec.{T}
use lib.Ieee.{Float, binary64, fits, is_nan, to_bits, of_bits}
use lib.Ieee.Bits.{of_bits-to_bits, nan_bits_is}
use Rattle.root.specs.Root.{sqrt}
use Rattle.root.proofs.Holds.{sqrt-fits}
use Rattle.root.proofs.Signs.{rootless, rooted, number, no_number}
use Rattle.root.proofs.root.Goals as goal

-- what owning an `f64` tells: the format holds it
held : (c : goal.After-root_bits) → T (fits binary64 c.args.x)
held c = subst T (sym c.well_formed.0.1) tt

same : (c : goal.After-root_bits) → of_bits binary64 c.root_bits.result ≡ sqrt binary64 c.args.x
same c =
    let x = c.args.x in
    let h = held c in
    ap (of_bits binary64) (c.root_bits.ensures ∙ ap (λ (y : Float). to_bits binary64 (sqrt binary64 y)) (of_bits-to_bits binary64 x h))
    ∙ of_bits-to_bits binary64 (sqrt binary64 x) (sqrt-fits x h)

pub float_to_bits-x : goal.float_to_bits-x
float_to_bits-x c = number c.args.x c.if-x.true

pub float_from_bits-result : goal.float_from_bits-result
float_from_bits-result c =
    let args = c.args in
    subst (λ (b : Bool). T (not b)) (sym (nan_bits_is binary64 c.root_bits.result ∙ ap is_nan (same c) ∙ rooted args.x c.if-x.true)) tt

pub returns-then-x : goal.returns-then-x
returns-then-x c = same c

pub returns-else-x : goal.returns-else-x
returns-else-x c = no_number ∙ sym (rootless c.args.x c.if-x.false)
