-- `arc_last::put_last`: the answers to its goals. Assumes nothing.
use mathlib.Core.Path.{◌∙◌}
use Rattle.arc_last.proofs.Ends.{ends-are}
use Rattle.arc_words.specs.Words.{last_word}
use Rattle.arc_words.specs.WordLaws.{two-upto}
use Rattle.arc_last.proofs.put_last.Goals as goal

pub returns : goal.returns
unfolding last_word
returns c =
    let pre = c.requires in
    let ends = c.copy_from_slice.ensures.after ∙ ends-are _ pre.1.0 in
    two-upto _ ends pre.1.1.0 pre.1.1.1 c.bits-2.ensures c.bits.ensures
