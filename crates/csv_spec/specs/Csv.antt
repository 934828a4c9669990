-- DEFINITIONS. The whole row text program, from the bytes of its input to the bytes of its outputs. Assumes nothing.
use Rattle.std.specs.Prelude.{ℕ, ◌*◌, ◌≡◌, Bool, false, cond, List, [], ◌∷◌, ◌++◌, length, replicate}
use Rattle.layout.specs.Layout.{row_words, state_words, most_held}
use Rattle.call_start.specs.Start.{start_spec}
use Rattle.csv_start.specs.Given.{tolerance, axes}
use Rattle.text_cut.specs.Cut.{lines_from, rest_from}
use Rattle.csv_out.specs.Say.{lent_rows}
use Rattle.csv_spec.specs.Line.{Stand, Step, csv_line, csv_end}

-- one step after another
abbrev pub and_then : Step → Step → Step
and_then d e = record { stand = e.stand; out = d.out ++ e.out; err = d.err ++ e.err }

abbrev pub still : Stand → Step
still s = record { stand = s; out = []; err = [] }

-- a refusal ends the run
unfoldable pub csv_lines : Stand → List (List ℕ) → Step
csv_lines s [] = still s
csv_lines s (l ∷ ls) = let d = csv_line s l in cond s.refused (still s) (and_then d (csv_lines d.stand ls))

-- the lines, and then the end, which is behind `left` bytes without an LF
unfoldable pub csv_finish : Step → ℕ → Step
csv_finish d left = cond d.stand.refused d (and_then d (csv_end d.stand left))

-- all that is done and said from s on, with this input still to come
unfoldable pub csv_rest : Stand → List ℕ → Step
csv_rest s input = csv_finish (csv_lines s (lines_from [] input)) (length (rest_from [] input))

-- axes X Y Z, tolerance 0.1, no seed, a full spline store
abbrev pub blank : ℕ → List ℕ
blank n = replicate n 0

unfoldable pub begun : Stand
begun =
    record {
      state = (start_spec (blank state_words) tolerance axes).state;
      store = blank (most_held * row_words);
      rows = blank (lent_rows * row_words);
      physical = 1;
      source = 0;
      refused = false;
    }

-- all of standard output, all of standard error, and whether there was a refusal
pub record Whole : Type 0 where
  pub out : List ℕ
  pub err : List ℕ
  pub refused : Bool

unfoldable pub csv_spec : List ℕ → Whole
csv_spec input = let d = csv_rest begun input in record { out = d.out; err = d.err; refused = d.stand.refused }

-- `all` begins with `some`
pub record Begins (some all : List ℕ) : Type 0 where
  pub more : List ℕ
  pub is : all ≡ some ++ more
