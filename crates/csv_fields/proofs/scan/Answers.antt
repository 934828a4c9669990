-- `csv_fields::scan`: the answers to its goals. Assumes nothing.
use native.Mathlib.Omega.{arith}
use Rattle.csv_fields.specs.Scans.{begins, room, turns, at_most, at-length, no_digit, digit_under, digit_over}
use Rattle.csv_fields.proofs.scan.Goals as goal
use Rattle.csv_fields.proofs.scan.Goals.{then-i-most-via-then-i-most, then-i-most-via-else-i-most+then-b-lt48}
use Rattle.csv_fields.proofs.scan.Goals.{then-i-most-via-else-i-most+else-b-lt48+then-b-gt57}

pub loop-i-init : goal.loop-i-init
loop-i-init c = begins _ _ _ c.requires.1

pub returns-then-i-most : goal.returns-then-i-most
returns-then-i-most c =
    elim c.then-i-most.branch [
      | then-i-most-via-then-i-most w ↦ at_most _ _ _ _ _ c.loop-i.invariant w.if-i-most.true
      | then-i-most-via-else-i-most+then-b-lt48 w ↦ no_digit _ _ _ _ _ c.loop-i.invariant c.loop-i-test.true (digit_under _ w.if-b-lt48.true)
      | then-i-most-via-else-i-most+else-b-lt48+then-b-gt57 w ↦ no_digit _ _ _ _ _ c.loop-i.invariant c.loop-i-test.true (digit_over _ w.if-b-gt57.true)
    ]

pub overflow_mul-n : goal.overflow_mul-n
overflow_mul-n c = omega (arith, room c.loop-i.invariant c.requires.0 c.if-i-most.false)

pub overflow_add-n : goal.overflow_add-n
overflow_add-n c = omega (arith, c.from.ensures, room c.loop-i.invariant c.requires.0 c.if-i-most.false)

pub loop-i-preserved : goal.loop-i-preserved
loop-i-preserved c = turns _ _ _ _ _ c.loop-i.invariant c.loop-i-test.true c.if-i-most.false c.if-b-lt48.false (omega arith) _ c.from.ensures

pub returns : goal.returns
returns c = at-length _ _ _ _ _ c.loop-i.invariant c.loop-i-test.false
