-- LAWS. The row text program line by line: a whole line is done and then the rest, a refusal ends it. Assumes nothing.
use Rattle.std.specs.Prelude.{ℕ, ◌≤◌, ◌<◌, ◌≡◌, refl, Bool, true, false, cond, take, drop}
use Rattle.std.proofs.Common.{sym, ◌∙◌, arith}
use Rattle.std.proofs.Math.Path.{ap}
use mathlib.Core.List.{List, [], ◌∷◌, ◌++◌, append_assoc, append-nil}
use Rattle.std.proofs.Math.ListN.{length}
use Rattle.std.proofs.Math.Seq.{take-length, drop-length}
use Rattle.text_cut.specs.Cut.{cut, lines_from, rest_from}
use Rattle.text_cut.specs.CutLaws.{lines-pieces, rest-pieces, first-line, first_rest, no_line}
use Rattle.csv_spec.specs.Line.{Stand, Step, csv_line, csv_end}
use Rattle.csv_spec.specs.Csv.{and_then, still, csv_lines, csv_finish, csv_rest}

abbrev put : Stand → List ℕ → List ℕ → Step
put s o e = record { stand = s; out = o; err = e }

pub then_assoc : (a b c : Step) → and_then (and_then a b) c ≡ and_then a (and_then b c)
then_assoc a b c =
    ap (λ (l : List ℕ). put c.stand l ((a.err ++ b.err) ++ c.err)) (append_assoc a.out b.out c.out)
    ∙ ap (λ (l : List ℕ). put c.stand (a.out ++ (b.out ++ c.out)) l) (append_assoc a.err b.err c.err)

pub then-still : (d : Step) → and_then d (still d.stand) ≡ d
then-still d =
    ap (λ (l : List ℕ). put d.stand l (d.err ++ [])) (append-nil d.out) ∙ ap (λ (l : List ℕ). put d.stand d.out l) (append-nil d.err)

pub finish_then : (d e : Step) (n : ℕ) → csv_finish (and_then d e) n ≡ and_then d (csv_finish e n)
unfolding csv_finish
finish_then d e n = go e.stand.refused
  where
    go : (b : Bool) → cond b (and_then d e) (and_then (and_then d e) (csv_end e.stand n)) ≡ and_then d (cond b e (and_then e (csv_end e.stand n)))
    go true = refl
    go false = then_assoc d e (csv_end e.stand n)

-- ---- u has been read and not yet used, `later` is still to come, and the first line stands whole in u
module _ (u later : List ℕ) (h : cut u ≤ length u) where
  abbrev pub first : List ℕ
  first = take (cut u) u

  abbrev pub behind : List ℕ
  behind = drop (cut u) u ++ later

  pub whole-first : lines_from [] (u ++ later) ≡ first ∷ lines_from [] behind
  whole-first =
      lines-pieces u later []
      ∙ ap (λ (l : List (List ℕ)). l ++ lines_from (rest_from [] u) later) (first-line u [] h)
      ∙ ap (λ (p : List ℕ). first ∷ (lines_from [] (drop (cut u) u) ++ lines_from p later)) (first_rest u [] h)
      ∙ ap (λ (l : List (List ℕ)). first ∷ l) (sym (lines-pieces (drop (cut u) u) later []))

  pub whole-rest : rest_from [] (u ++ later) ≡ rest_from [] behind
  whole-rest = rest-pieces u later [] ∙ ap (λ (p : List ℕ). rest_from p later) (first_rest u [] h) ∙ sym (rest-pieces (drop (cut u) u) later [])

  -- it is done, and the rest is as if the input began behind it
  pub rest-line : (s : Stand) → s.refused ≡ false
      → csv_rest s (u ++ later) ≡ and_then (csv_line s (take (cut u) u)) (csv_rest (csv_line s (take (cut u) u)).stand (drop (cut u) u ++ later))
  unfolding csv_rest csv_lines
  rest-line s e =
      let d = csv_line s first in
      let n = length (rest_from [] behind) in
      let rest = csv_lines d.stand (lines_from [] behind) in
      ap (λ (l : List (List ℕ)). csv_finish (csv_lines s l) (length (rest_from [] (u ++ later)))) whole-first
      ∙ ap (λ (l : List ℕ). csv_finish (csv_lines s (first ∷ lines_from [] behind)) (length l)) whole-rest
      ∙ ap (λ (b : Bool). csv_finish (cond b (still s) (and_then d rest)) n) e
      ∙ finish_then d rest n

-- a whole line, and what is behind it
pub rest-whole : (s : Stand) (l later : List ℕ) → s.refused ≡ false → cut l ≡ length l
    → csv_rest s (l ++ later) ≡ and_then (csv_line s l) (csv_rest (csv_line s l).stand later)
rest-whole s l later e w =
    let one : take (cut l) l ≡ l = ap (λ (n : ℕ). take n l) w ∙ take-length l in
    let none : drop (cut l) l ≡ [] = ap (λ (n : ℕ). drop n l) w ∙ drop-length l in
    rest-line l later (omega arith) s e
    ∙ ap (λ (x : List ℕ). and_then (csv_line s x) (csv_rest (csv_line s x).stand (drop (cut l) l ++ later))) one
    ∙ ap (λ (x : List ℕ). and_then (csv_line s l) (csv_rest (csv_line s l).stand (x ++ later))) none

-- the input has ended, and no line stands in what is left of it
pub rest_end : (s : Stand) (u : List ℕ) → s.refused ≡ false → length u < cut u → csv_rest s u ≡ csv_end s (length u)
unfolding csv_rest csv_lines csv_finish
rest_end s u e h =
    let w = no_line u [] h in
    ap (λ (l : List (List ℕ)). csv_finish (csv_lines s l) (length (rest_from [] u))) w.0
    ∙ ap (λ (l : List ℕ). csv_finish (still s) (length l)) w.1
    ∙ ap (λ (b : Bool). cond b (still s) (and_then (still s) (csv_end s (length u)))) e

-- behind a refusal nothing is done and nothing is said
pub refused-lines : (s : Stand) (ls : List (List ℕ)) → s.refused ≡ true → csv_lines s ls ≡ still s
unfolding csv_lines
refused-lines s [] e = refl
refused-lines s (l ∷ ls) e = ap (λ (b : Bool). cond b (still s) (and_then (csv_line s l) (csv_lines (csv_line s l).stand ls))) e

pub rest-refused : (s : Stand) (input : List ℕ) → s.refused ≡ true → csv_rest s input ≡ still s
unfolding csv_rest csv_finish
rest-refused s input e =
    let n = length (rest_from [] input) in
    ap (λ (d : Step). csv_finish d n) (refused-lines s (lines_from [] input) e)
    ∙ ap (λ (b : Bool). cond b (still s) (and_then (still s) (csv_end s n))) e
