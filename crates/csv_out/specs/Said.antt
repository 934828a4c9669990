-- CONTRACTS. What is said, of the buffers in which bytes wait. Assumes nothing.
use Rattle.std.specs.Prelude.{ℕ, ◌+◌, ◌≡◌, Bool, List, ◌++◌, length, take}
use Rattle.csv_count.specs.Count.{next_line}
use Rattle.csv_out.specs.declared.Run.{Run}
use Rattle.csv_out.specs.Say.{Say}

-- n bytes waited in o, and then r in o': those n, and behind them t
pub record Adds (t o : List ℕ) (n : ℕ) (o' : List ℕ) (r : ℕ) : Type 0 where
  pub count : r ≡ n + length t
  pub bytes : take r o' ≡ take n o ++ t
  pub same : length o' ≡ length o

-- t is said on standard error, and nothing on standard output
pub record Noted (b : Bool) (t : List ℕ) (run : Run) (e : List ℕ) (r : Run) (e' : List ℕ) : Type 0 where
  pub out : r.out ≡ run.out
  pub physical : r.physical ≡ run.physical
  pub source : r.source ≡ run.source
  pub refused : r.refused ≡ b
  pub err : Adds t e run.err e' r.err

-- p is said
pub record Said (p : Say) (run : Run) (o e : List ℕ) (r : Run) (o' e' : List ℕ) : Type 0 where
  pub physical : r.physical ≡ run.physical
  pub source : r.source ≡ run.source
  pub refused : r.refused ≡ p.refused
  pub out : Adds p.out o run.out o' r.out
  pub err : Adds p.err e run.err e' r.err

-- the next line's number, and nothing else
pub record NextIs (run r : Run) : Type 0 where
  pub physical : r.physical ≡ next_line run.physical
  pub source : r.source ≡ run.source
  pub refused : r.refused ≡ run.refused
  pub out : r.out ≡ run.out
  pub err : r.err ≡ run.err
