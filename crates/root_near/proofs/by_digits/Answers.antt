-- `root_near::by_digits`: the answers to its goals. Assumes nothing.
use Prim.Native.Nat.{ℕ, ◌+◌, ◌-◌, ◌*◌, ◌/◌, ◌%◌, ◌^◌, ◌≤◌, ◌<◌}
use mathlib.Core.Path.{◌≡◌, sym, ap, ◌∙◌}
use native.Mathlib.Nat.{mul_assoc}
use native.Mathlib.Omega.{arith}
use lib.Pow.{pow-add, pow_mono}
use Rattle.root_near.specs.Squares.{square_of_odd, square_of_even}
use Rattle.root_near.proofs.by_digits.Invariants.{Digits}
use Rattle.root_near.proofs.by_digits.Goals as goal
use Rattle.root_near.proofs.by_digits.Goals.{then-t-rest, else-t-rest}

-- a root in a turn, which has at most 52 digits
root-lt : {x₀ x root rest i : ℕ} → Digits x₀ x root rest i → i < 53 → root < 2 ^ 52
root-lt {i = i} v h = omega (arith, pow_mono {i = i} {j = 52} (omega arith))

next-pow : (i : ℕ) → 2 ^ (i + 1) ≡ 2 ^ i * 2
next-pow i = pow-add 2 i 1

next-four : (x i : ℕ) → x * 4 ^ (i + 1) ≡ x * 4 ^ i * 4
next-four x i = ap (λ (y : ℕ). x * y) (pow-add 4 i 1) ∙ sym (mul_assoc x (4 ^ i) 4)

one : (x₀ x root rest i : ℕ) → Digits x₀ x root rest i → i < 53 → root * 4 + 1 ≤ rest * 4 + x / 0x4000_0000_0000_0000
    → Digits x₀ (x * 4 % 2 ^ 64) (root * 2 + 1) (rest * 4 + x / 0x4000_0000_0000_0000 - (root * 4 + 1)) (i + 1)
one x₀ x root rest i v h t = record {
  small = omega (arith, next-pow i);
  word = omega arith;
  whole = omega arith;
  all = omega (arith, square_of_odd root, next-four x₀ i);
}

none : (x₀ x root rest i : ℕ) → Digits x₀ x root rest i → i < 53 → rest * 4 + x / 0x4000_0000_0000_0000 < root * 4 + 1
    → Digits x₀ (x * 4 % 2 ^ 64) (root * 2) (rest * 4 + x / 0x4000_0000_0000_0000) (i + 1)
none x₀ x root rest i v h t = record {
  small = omega (arith, next-pow i);
  word = omega arith;
  whole = omega arith;
  all = omega (arith, square_of_even root, next-four x₀ i);
}

pub overflow_mul-rest : goal.overflow_mul-rest
overflow_mul-rest c = omega (arith, root-lt c.loop.invariant c.loop-test.true)

pub overflow_add-rest : goal.overflow_add-rest
overflow_add-rest c = omega (arith, root-lt c.loop.invariant c.loop-test.true)

pub overflow_mul-t : goal.overflow_mul-t
overflow_mul-t c = omega (arith, root-lt c.loop.invariant c.loop-test.true)

pub overflow_add-t : goal.overflow_add-t
overflow_add-t c = omega (arith, root-lt c.loop.invariant c.loop-test.true)

pub loop-preserved : goal.loop-preserved
loop-preserved c =
    let at = c.loop in
    let x₀ = c.args.m * 2 ^ 10 % 2 ^ 64 in
    let turn = c.loop-test.true in
    elim c.if-t-rest.branch [
      | then-t-rest w ↦ rw (w.root-is, w.rest-is) (one x₀ at.x at.root at.rest at.counter at.invariant turn w.if-t-rest.true)
      | else-t-rest w ↦ rw (w.root-is, w.rest-is) (none x₀ at.x at.root at.rest at.counter at.invariant turn w.if-t-rest.false)
    ]
