-- LAWS. A run over more input: what the lines before said stays, and a refusal adds no row and ends it. Assumes nothing.
use Rattle.std.specs.Prelude.{ℕ, ◌≡◌, refl, Bool, true, false, cond, List, [], ◌∷◌, ◌++◌, length}
use Rattle.std.proofs.Common.{sym, ap, ◌∙◌}
use Rattle.text_cut.specs.Cut.{lines_from, rest_from}
use Rattle.text_cut.specs.CutLaws.{lines-pieces, rest-pieces}
use Rattle.csv_spec.specs.Line.{Stand, Step, csv_line}
use Rattle.csv_spec.specs.Csv.{and_then, still, csv_lines, csv_finish, csv_rest, begun, Whole, csv_spec, Begins}
use Rattle.csv_spec.proofs.CsvLaws.{then_assoc, then-still, finish_then, refused-lines}
use Rattle.csv_laws.specs.Output.{lines_said}

-- some lines, and then others
lines_then : (s : Stand) (xs ys : List (List ℕ)) → csv_lines s (xs ++ ys) ≡ and_then (csv_lines s xs) (csv_lines (csv_lines s xs).stand ys)
unfolding csv_lines
lines_then s [] ys = refl
lines_then s (l ∷ xs) ys = go s.refused refl (lines_then (csv_line s l).stand xs ys)
  where
    d : Step
    d = csv_line s l

    pick : Bool → List (List ℕ) → Step
    pick b ls = cond b (still s) (and_then d (csv_lines d.stand ls))

    go : (b : Bool) → s.refused ≡ b → csv_lines d.stand (xs ++ ys) ≡ and_then (csv_lines d.stand xs) (csv_lines (csv_lines d.stand xs).stand ys)
        → pick b (xs ++ ys) ≡ and_then (pick b xs) (csv_lines (pick b xs).stand ys)
    go true e r = sym (refused-lines s ys e)
    go false e r =
        ap (λ (x : Step). and_then d x) r ∙ sym (then_assoc d (csv_lines d.stand xs) (csv_lines (csv_lines d.stand xs).stand ys))

-- what is behind the lines of a
abbrev behind : Stand → List ℕ → List ℕ → Step
behind s a b = csv_finish (csv_lines s (lines_from (rest_from [] a) b)) (length (rest_from [] (a ++ b)))

more_input : (s : Stand) (a b : List ℕ)
    → csv_rest s (a ++ b) ≡ and_then (csv_lines s (lines_from [] a)) (behind (csv_lines s (lines_from [] a)).stand a b)
unfolding csv_rest
more_input s a b =
    let d = csv_lines s (lines_from [] a) in
    let n = length (rest_from [] (a ++ b)) in
    let ys = lines_from (rest_from [] a) b in
    ap (λ (l : List (List ℕ)). csv_finish (csv_lines s l) n) (lines-pieces a b [])
    ∙ ap (λ (x : Step). csv_finish x n) (lines_then s (lines_from [] a) ys)
    ∙ finish_then d (csv_lines d.stand ys) n

-- ---- 7.15: what the lines of an input said stays, whatever comes behind it
pub lines_stay : (a b : List ℕ) → Begins (lines_said a).out (csv_spec (a ++ b)).out × Begins (lines_said a).err (csv_spec (a ++ b)).err
unfolding csv_spec
lines_stay a b =
    let e = more_input begun a b in
    let d = behind (lines_said a).stand a b in
    (record { more = d.out; is = ap (λ (x : Step). x.out) e }, record { more = d.err; is = ap (λ (x : Step). x.err) e })

abbrev pub whole : Step → Whole
whole d = record { out = d.out; err = d.err; refused = d.stand.refused }

nothing-behind : (s : Stand) (a b : List ℕ) → s.refused ≡ true → behind s a b ≡ still s
unfolding csv_finish
nothing-behind s a b e = rw (refused-lines s (lines_from (rest_from [] a) b) e, e) refl

-- ---- 7.15: behind a line that was refused nothing is said: the output is that of the lines up to it
pub refused-ends : (a later : List ℕ) → (lines_said a).stand.refused ≡ true
    → csv_spec (a ++ later) ≡ record { out = (lines_said a).out; err = (lines_said a).err; refused = true }
unfolding csv_spec
refused-ends a later e =
    ap whole
    (more_input begun a later
    ∙ ap (λ (x : Step). and_then (lines_said a) x) (nothing-behind (lines_said a).stand a later e)
    ∙ then-still (lines_said a))
    ∙ ap (λ (b : Bool). record { out = (lines_said a).out; err = (lines_said a).err; refused = b }) e

-- ---- 7.15: a refused line writes no row: behind whole lines that were not refused, the output stays what they wrote, and the notice is added
pub whole-lines : (s : Stand) (a b : List ℕ) → rest_from [] a ≡ []
    → csv_rest s (a ++ b) ≡ and_then (csv_lines s (lines_from [] a)) (csv_rest (csv_lines s (lines_from [] a)).stand b)
unfolding csv_rest
whole-lines s a b e =
    let d = csv_lines s (lines_from [] a) in
    more_input s a b
    ∙ ap (λ (p : List ℕ). and_then d (csv_finish (csv_lines d.stand (lines_from p b)) (length (rest_from [] (a ++ b))))) e
    ∙ ap (λ (r : List ℕ). and_then d (csv_finish (csv_lines d.stand (lines_from [] b)) (length r)))
    (rest-pieces a b [] ∙ ap (λ (p : List ℕ). rest_from p b) e)
