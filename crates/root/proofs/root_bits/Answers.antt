-- `root::root_bits`: the answers to its goals. Assumes nothing.
use Prim.Native.Nat.{ℕ}
use mathlib.Core.Path.{◌≡◌, sym, subst}
use native.Mathlib.Omega.{arith}
use lib.Ieee.{binary64, to_bits, of_bits}
use Rattle.root.specs.Root.{sqrt}
use Rattle.root.proofs.Specials.{of_zero, of_minus_zero, of_infinity, of_no_root}
use Rattle.root.proofs.root_bits.Goals as goal

pub returns-then-b-eq9218868437227405312 : goal.returns-then-b-eq9218868437227405312
returns-then-b-eq9218868437227405312 c = subst (λ (b : ℕ). b ≡ to_bits binary64 (sqrt binary64 (of_bits binary64 b))) (sym
    c.if-b-eq9218868437227405312.true) of_infinity

pub returns-then-b-eq9223372036854775808 : goal.returns-then-b-eq9223372036854775808
returns-then-b-eq9223372036854775808 c = subst (λ (b : ℕ). b ≡ to_bits binary64 (sqrt binary64 (of_bits binary64 b))) (sym
    c.if-b-eq9223372036854775808.true) of_minus_zero

pub returns-then-b-ge4503599627370496 : goal.returns-then-b-ge4503599627370496
returns-then-b-ge4503599627370496 c = of_no_root c.args.b c.ranges.b.fits (omega arith) c.if-b-eq9223372036854775808.false

pub returns-then-b-eq0 : goal.returns-then-b-eq0
returns-then-b-eq0 c = subst (λ (b : ℕ). 0 ≡ to_bits binary64 (sqrt binary64 (of_bits binary64 b))) (sym c.if-b-eq0.true) of_zero
