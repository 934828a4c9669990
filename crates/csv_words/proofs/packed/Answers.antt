-- `csv_words::packed`: the answers to its goals. Assumes nothing.
use native.Mathlib.Omega.{arith}
use Rattle.csv_words.specs.Chars.{packs_none, packs_low, packs_room, packs_more, packs_all}
use Rattle.csv_words.proofs.packed.Goals as goal

pub loop-b-init : goal.loop-b-init
loop-b-init c = packs_none _

pub overflow_mul-n : goal.overflow_mul-n
overflow_mul-n c = omega (arith, packs_room c.loop-b.invariant c.requires c.loop-b-test.true)

pub overflow_add-n : goal.overflow_add-n
overflow_add-n c = omega (arith, c.from.ensures, packs_room c.loop-b.invariant c.requires c.loop-b-test.true, c.type_inv.s c.loop-b.b-index)

pub loop-b-preserved : goal.loop-b-preserved
loop-b-preserved c =
    packs_more _ _ _ _ c.loop-b.invariant c.loop-b-test.true c.from.ensures (omega (arith, c.from.ensures, c.type_inv.s c.loop-b.b-index))

pub returns : goal.returns
returns c = (packs_all _ _ _ c.loop-b.invariant (omega arith), packs_low c.loop-b.invariant c.requires)
