-- LAWS. What holds of words that are a tally. Assumes nothing.
use Rattle.std.specs.Prelude.{ℕ, ◌≤◌, ◌≡◌, true, List, length, leb, eqb}
use Rattle.std.proofs.Common.{leb-true, eqb-true}
use Rattle.floats.specs.Truth.{and_left, and_right}
use Rattle.tally_words.specs.Words.{most_jobs, tally_words, jobs_in, tally_ok}

pub record Good (st : List ℕ) : Type 0 where
  pub long : length st ≡ tally_words
  pub few : jobs_in st ≤ most_jobs

pub good : (st : List ℕ) → tally_ok st ≡ true → Good st
unfolding tally_ok
good st h =
    record {
      long = eqb-true _ _ (and_left (eqb (length st) tally_words) _ h);
      few = leb-true _ _ (and_left (leb (jobs_in st) most_jobs) _ (and_right (eqb (length st) tally_words) _ h));
    }
