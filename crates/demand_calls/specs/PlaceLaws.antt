-- LAWS. Rows written to the first places of a row buffer. Assumes nothing.
use Rattle.std.specs.Prelude.{ℕ, ◌+◌, ◌*◌, ◌≤◌, ◌≡◌, refl, List, length, take, drop}
use Rattle.std.proofs.Common.{◌∙◌, ap, arith, zero-add, take_at, drop_at}
use Rattle.floats.specs.Lists.{flatten, spliced}
use Rattle.floats.specs.Splice.{length-spliced}
use Rattle.layout.specs.Layout.{row_words}
use Rattle.demand_calls.specs.Every.{Every}
use Rattle.demand_calls.specs.Laws.{length-flatten, every_imp}
use Rattle.demand_calls.specs.Places.{places, Filled}

pub record Long (row : List ℕ) : Type 0 where
  pub words : length row ≡ row_words

rows-length : (out : List (List ℕ)) → Every Long out → length (flatten out) ≡ length out * row_words
rows-length out l = length-flatten row_words out (every_imp (λ x q. q.words) l)

-- they fit where there are as many places
pub spliced-rows : (out : List (List ℕ)) (rows : List ℕ) → Every Long out → length out ≤ places rows → length (spliced rows 0 (flatten out)) ≡ length rows
spliced-rows out rows l h =
    let n : length (flatten out) ≡ length out * row_words = rows-length out l in
    length-spliced rows 0 (flatten out) (omega arith)

pub take-written : (rows : List ℕ) (out : List (List ℕ)) → Every Long out → take (length out * row_words) (spliced rows 0 (flatten out)) ≡ flatten out
unfolding spliced
take-written rows out l = take_at (flatten out) _ (length out * row_words) (rows-length out l)

drop-written : (rows : List ℕ) (out : List (List ℕ)) → Every Long out
    → drop (length out * row_words) (spliced rows 0 (flatten out)) ≡ drop (length out * row_words) rows
unfolding spliced
drop-written rows out l =
    let n : length (flatten out) ≡ length out * row_words = rows-length out l in
    drop_at (flatten out) (drop (0 + length (flatten out)) rows) (length out * row_words) n ∙ ap (λ (k : ℕ). drop k rows) (zero-add (length (flatten out)) ∙ n)

-- 2.2: the rows, then what stood there
pub filled : (rows : List ℕ) (out : List (List ℕ)) → Every Long out → Filled rows (spliced rows 0 (flatten out)) (length out) out
filled rows out l = record { rows = refl; written = take-written rows out l; beyond = drop-written rows out l }
