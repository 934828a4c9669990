-- DEFINITIONS. The figures of a try, of its job's tally before and behind it: rule 11.10. Assumes nothing.
use Rattle.std.specs.Prelude.{ℕ, ◌+◌, ◌-◌, cond, List, ltb, get_or}
use Rattle.tally_words.specs.Words.{w_slots, job_words}

-- figures are counted up to this one, the last of ten digits
abbrev pub most_figure : ℕ
most_figure = 9999999999

unfoldable pub capped : ℕ → ℕ
capped n = cond (ltb n most_figure) n most_figure

unfoldable pub since : ℕ → ℕ → ℕ
since before after = cond (ltb after before) 0 (after - before)

-- 11.10: what the try added to word k of its job's slot, the first of a tally that has one job
unfoldable pub figure_of : List ℕ → List ℕ → ℕ → ℕ
figure_of before after k = cond (ltb k job_words) (capped (since (get_or before (w_slots + k) 0) (get_or after (w_slots + k) 0))) 0
