-- `tally_words::clear`: the answer to a goal. Assumes nothing.
use Rattle.std.proofs.Common.{ℕ, ◌∙◌, ap}
use Rattle.std.proofs.Math.ListN.{replicate}
use Rattle.tally_words.specs.Words.{tally_words, empty_tally}
use Rattle.tally_words.proofs.Zeros.{zeros-are}
use Rattle.tally_words.proofs.clear.Goals as goal

pub returns : goal.returns
unfolding empty_tally
returns c = c.fill.ensures.after (λ y e. e) ∙ ap (λ (n : ℕ). replicate {A = ℕ} n 0) c.requires ∙ zeros-are tally_words
