-- `night_counts::count_with`: the answers to its goals. Assumes nothing.
use Rattle.std.proofs.Common.{rules, arith, ℕ, get_or, take}
use Rattle.std.proofs.lemmas.List.Sums.{length-filter}
use Rattle.row_cells.specs.Bits.{has}
use Rattle.tally_words.specs.Counting.{count_small}
use Rattle.night_counts.specs.Counts.{count_with}
use Rattle.night_counts.proofs.Counting.{counted}
use Rattle.night_counts.proofs.count_with.Goals as goal

pub returns : goal.returns
unfolding count_with
returns c =
    let m = c.args.marks.now in
    let n = c.args.n in
    let p : ℕ → _ = λ x. has x c.args.b in
    search (rules, length-filter p (take n m), counted p m n (omega arith), count_small (λ (i : ℕ). p (get_or m i 0)) n _ (counted p m n (omega arith)))
