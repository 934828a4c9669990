-- `night_pieces::put_numbers`: the answers to its goals. Assumes nothing.
use mathlib.Core.Path.{◌∙◌}
use native.Mathlib.Omega.{arith}
use Rattle.std.proofs.Common.{◌+◌, ◌-◌, drop}
use Rattle.std.proofs.lemmas.List.{get_or-drop, get_or-take}
use Rattle.night_pieces.proofs.Writing.{numbers-none, numbers_more}
use Rattle.night_pieces.proofs.put_numbers.Goals as goal

pub loop-v-init : goal.loop-v-init
loop-v-init c = numbers-none _ _ _ _

pub loop-v-preserved : goal.loop-v-preserved
loop-v-preserved c =
    let ns = c.args.numbers.now in
    let from = c.args.from in
    let k = c.loop-v.v-index in
    numbers_more c.loop-v.invariant (get_or-take (from + c.args.count - from) (drop from ns) k 0 (omega arith) ∙ get_or-drop from ns k 0)
    c.put_next-at.ensures.0 c.put_next-at.ensures.1
