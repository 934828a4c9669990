-- CONTRACTS. A whole run of the row text program: its turns from the first to the last, and its end. Assumes nothing.
use Rattle.std.specs.Prelude.{ℕ, ◌≡◌, List, [], ◌++◌, take}
use Rattle.csv_status.specs.Status.{goes_on, ended}
use Rattle.csv_spec.specs.Csv.{begun, csv_spec, Begins}
use Rattle.csv_run.specs.Steps.{Slices, standing}
use Rattle.csv_reading.specs.declared.Reading.{Reading}
use Rattle.csv_reading.specs.Reading.{first_reading}
use Rattle.csv_run.specs.Turns.{Within, TurnIs}
use Rattle.csv_ending.specs.declared.Ending.{Ending}
use Rattle.csv_ending.specs.Ending.{LastIs}

-- turns one after another, the first from `first_reading` and each from where the one before it went on: the last of them left the
-- reading s, the input buffer b and the lent memory m, and they read `got` and handed over `outs` and `errs`, in this order
pub data Turns : Reading → List ℕ → Slices → List ℕ → List ℕ → List ℕ → Type 0 where
  none : {b : List ℕ} {m : Slices} → standing first_reading.run m ≡ begun → Turns first_reading b m [] [] []
  then : {s r : Reading} {b b' : List ℕ} {m m' : Slices} {got outs errs : List ℕ} → Turns s b m got outs errs → s.over ≡ goes_on
      → (t : TurnIs s b m r b' m') → Turns r b' m' (got ++ t.came) (outs ++ t.outs) (errs ++ t.errs)

pub record AllTurns (s : Reading) (b : List ℕ) (m : Slices) : Type 0 where
  pub got : List ℕ
  pub outs : List ℕ
  pub errs : List ℕ
  pub turns : Turns s b m got outs errs
  pub within : Within s

-- what a run read and handed over, turn by turn: where its turns came to the end, that and what then waits in the buffers o and e is what the
-- definition says of what was read, and the end hands it over (`last`); and where a descriptor failed before, no turn handed over anything but
-- what the definition says first, whatever would still have come
pub record Ran (r : Ending) (o e : List ℕ) : Type 0 where
  pub reading : Reading
  pub buffer : List ℕ
  pub memory : Slices
  pub turned : AllTurns reading buffer memory
  pub last : LastIs reading r
  pub rows : memory.out ≡ o
  pub notices : memory.err ≡ e
  pub all : reading.over ≡ ended → csv_spec turned.got ≡ record {
    out = turned.outs ++ take reading.run.out o;
    err = turned.errs ++ take reading.run.err e;
    refused = reading.run.refused;
  }
  pub part : (reading.over ≡ ended → ⊥) → (later : List ℕ)
      → Begins turned.outs (csv_spec (turned.got ++ later)).out × Begins turned.errs (csv_spec (turned.got ++ later)).err
