-- `csv_words::find`: the answers to its goals. Assumes nothing.
use native.Mathlib.Omega.{arith}
use Rattle.std.specs.Prelude.{ℕ}
use Rattle.csv_words.specs.Seeks.{as_number, seeks_first, seeks_hit, seeks_miss, seeks_end, place-there, place-nowhere, place-long}
use Rattle.csv_words.proofs.find.Goals as goal

pub returns-then-s-gt7 : goal.returns-then-s-gt7
returns-then-s-gt7 c = place-long _ _ _ c.requires c.if-s-gt7.true

pub loop-i-init : goal.loop-i-init
loop-i-init c = seeks_first _ _ _ _ c.requires (as_number _ _ c.packed.ensures.0)

pub returns-then-entry-number : goal.returns-then-entry-number
returns-then-entry-number c =
    place-there _ _ _ _
    (seeks_hit _ _ _ _ _ _ c.loop-i.invariant c.loop-i-test.true (λ (k : ℕ). (c.type_inv.s k).fits) c.if-s-gt7.false _ c.entry.ensures
    c.if-entry-number.true)
    c.loop-i-test.true

pub loop-i-preserved : goal.loop-i-preserved
loop-i-preserved c = seeks_miss _ _ _ _ _ _ c.loop-i.invariant c.loop-i-test.true _ c.entry.ensures c.if-entry-number.false

pub returns : goal.returns
returns c = place-nowhere _ _ _ _ (seeks_end _ _ _ _ _ _ c.loop-i.invariant (omega arith)) (omega arith)
