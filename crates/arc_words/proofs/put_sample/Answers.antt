-- `arc_words::put_sample`: the answers to its goals. Assumes nothing.
use mathlib.Core.Path.{ap, ◌∙◌}
use native.Mathlib.Omega.{arith}
use lib.ListN.{length-set}
use Rattle.floats.specs.Numbers.{bits}
use Rattle.arc_words.specs.Words.{sample_word}
use Rattle.arc_words.specs.WordLaws.{two-upto}
use Rattle.arc_words.proofs.put_sample.Goals as goal

pub bounds-words-u : goal.bounds-words-u
bounds-words-u c = simp length-set (omega arith)

pub returns : goal.returns
unfolding sample_word
returns c =
    let sample = c.sample-p in
    let put-ramps = c.put_ramps in
    let pre = c.requires in
    let on_u = c.bits-2.ensures ∙ ap bits sample.ensures.u in
    let on_v = c.bits.ensures ∙ ap bits sample.ensures.v in
    two-upto _ put-ramps.ensures pre.on_u pre.on_v on_u on_v
