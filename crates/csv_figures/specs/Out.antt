-- CONTRACTS. What storing a text into a lent buffer leaves there, and what it answers. Assumes nothing.
use Rattle.std.specs.Prelude.{ℕ, ◌+◌, cond, ◌≡◌, List, length, Float, Option, Some, None}
use Rattle.std.proofs.lemmas.List.Edits.{sets}
use Rattle.csv_figures.specs.Write.{number_text, shown}

-- o' is o with the text t stored from n on, and r is the place after it
pub record Wrote (o : List ℕ) (n : ℕ) (t : List ℕ) (o' : List ℕ) (r : ℕ) : Type 0 where
  pub next : r ≡ n + length t
  pub text : o' ≡ sets o n t

-- a number's text is stored where it has one, and else nothing is
pub record Put (x : Float) (o : List ℕ) (n : ℕ) (o' : List ℕ) (r : Option ℕ) : Type 0 where
  pub answer : r ≡ cond (shown x) (Some (n + length (number_text x))) None
  pub text : o' ≡ cond (shown x) (sets o n (number_text x)) o
