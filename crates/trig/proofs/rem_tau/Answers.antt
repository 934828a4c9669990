-- `trig::rem_tau`: the answers to its goals. Assumes nothing.
use mathlib.Core.Path.{sym, ap, ◌∙◌, subst}
use Prim.Native.Nat.{ℕ, ◌+◌, ◌-◌, ◌%◌, ◌^◌, ◌<◌}
use native.Mathlib.Omega.{arith}
use lib.Dec.{T}
use lib.Ieee.{Float, binary64, mul, of_int}
use lib.IntN.{pos}
use Rattle.trig.proofs.Remainder.{exponent, rem_below, rem_none, rem_above, with_digit, with_minus_digit, no_quotient}
use Rattle.trig.specs.Remainder.{left_by_tau}
use Rattle.trig.proofs.rem_tau.Goals as goal
use Rattle.trig.proofs.rem_tau.Goals.{then-b-lt-SIGN, else-b-lt-SIGN}

pub returns-then-e-lt-TAU_EXPONENT : goal.returns-then-e-lt-TAU_EXPONENT
returns-then-e-lt-TAU_EXPONENT c = rem_below c.args.x (subst T (sym c.well_formed.0.1) tt) c.bits-b.ensures c.if-e-lt-TAU_EXPONENT.true

pub returns-then-e-eq-NO_NUMBER : goal.returns-then-e-eq-NO_NUMBER
returns-then-e-eq-NO_NUMBER c = no_quotient ∙ rem_none c.args.x (subst T (sym c.well_formed.0.1) tt) c.bits-b.ensures c.if-e-eq-NO_NUMBER.true

pub returns : goal.returns
returns c =
    let b = c.bits-b.result in
    let d = b % 2 ^ 52 + 2 ^ 52 in
    let n = exponent b - 1025 in
    let hi : exponent b < 2047 = omega (arith, c.if-e-eq-NO_NUMBER.false) in
    ap (λ (y : Float). mul binary64 y c.if-b-lt-SIGN.one) (c.nearest_u64_to_f64.ensures ∙ ap (λ (z : ℕ). of_int binary64 (pos z)) c.left_by_tau-left.ensures)
    ∙ elim c.if-b-lt-SIGN.branch [
      | then-b-lt-SIGN w ↦ ap (mul binary64 (of_int binary64 (pos (left_by_tau d n)))) w.one-is ∙ with_digit d n w.if-b-lt-SIGN.true
      | else-b-lt-SIGN w ↦ ap (mul binary64 (of_int binary64 (pos (left_by_tau d n)))) w.one-is ∙ with_minus_digit d n w.if-b-lt-SIGN.false
    ]
    ∙ rem_above c.args.x (subst T (sym c.well_formed.0.1) tt) c.bits-b.ensures c.if-e-lt-TAU_EXPONENT.false hi
