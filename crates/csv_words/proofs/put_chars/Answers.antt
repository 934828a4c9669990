-- `csv_words::put_chars`: the answers to its goals. Assumes nothing.
use native.Mathlib.Nat.{add-zero, sub-zero}
use native.Mathlib.Omega.{arith}
use Rattle.std.specs.Prelude.{◌≡◌, ◌+◌, ◌-◌}
use Rattle.csv_words.specs.Chars.{starts, stores, ends}
use Rattle.csv_words.proofs.put_chars.Goals as goal

pub loop-i-init : goal.loop-i-init
loop-i-init c = rw (add-zero c.args.n, sub-zero c.args.k) (starts _ _ _ _)

pub loop-i-preserved : goal.loop-i-preserved
loop-i-preserved c =
    let at : c.args.n + (c.loop-i.i + 1) ≡ c.args.n + c.loop-i.i + 1 = omega arith in
    let left : c.args.k - (c.loop-i.i + 1) ≡ c.args.k - c.loop-i.i - 1 = omega arith in
    let last : c.args.k - 1 - c.loop-i.i ≡ c.args.k - c.loop-i.i - 1 = omega arith in
    rw (at, left) (stores _ _ _ _ _ _ _ _ c.loop-i.invariant (omega arith) (rw last at c.byte.ensures))

pub returns : goal.returns
returns c =
    let all : c.args.n + c.loop-i.i ≡ c.args.n + c.args.k = omega arith in rw all at (ends _ _ _ _ _ _ _ c.loop-i.invariant (omega arith))
