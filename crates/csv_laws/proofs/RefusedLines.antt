-- LAWS. 7.15: a line that is refused adds no row to what whole lines before it wrote. Assumes nothing.
use Rattle.std.specs.Prelude.{ℕ, ◌≡◌, Bool, true, false, List, [], ◌++◌, length}
use Rattle.std.proofs.Common.{ap, ◌∙◌, append-nil}
use Rattle.text_cut.specs.Cut.{cut, rest_from}
use Rattle.csv_spec.specs.Line.{Step, csv_line}
use Rattle.csv_spec.specs.Csv.{and_then, csv_rest, begun, csv_spec}
use Rattle.csv_spec.proofs.CsvLaws.{then-still, rest-whole, rest-refused}
use Rattle.csv_laws.specs.Output.{lines_said}
use Rattle.csv_laws.specs.Refusals.{whole, whole-lines}
use Rattle.csv_laws.proofs.QuietLines.{line_quiet}

pub refusal-adds-none : (a l later : List ℕ) → rest_from [] a ≡ [] → cut l ≡ length l → (lines_said a).stand.refused ≡ false
    → (csv_line (lines_said a).stand l).stand.refused ≡ true
    → csv_spec (a ++ (l ++ later)) ≡ record { out = (lines_said a).out; err = (lines_said a).err ++ (csv_line (lines_said a).stand l).err; refused = true }
unfolding csv_spec
refusal-adds-none a l later e w f r =
    let d = lines_said a in
    let x = csv_line d.stand l in
    let rest : csv_rest d.stand (l ++ later) ≡ x =
    rest-whole d.stand l later f w ∙ ap (λ (y : Step). and_then x y) (rest-refused x.stand later r) ∙ then-still x in
    let out : d.out ++ x.out ≡ d.out = ap (λ (o : List ℕ). d.out ++ o) (line_quiet d.stand l r) ∙ append-nil d.out in
    ap whole (whole-lines begun a (l ++ later) e ∙ ap (λ (y : Step). and_then d y) rest)
    ∙ ap (λ (o : List ℕ). record { out = o; err = d.err ++ x.err; refused = x.stand.refused }) out
    ∙ ap (λ (b : Bool). record { out = d.out; err = d.err ++ x.err; refused = b }) r
