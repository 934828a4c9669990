-- What the two parts of a line of tries make together. Assumes nothing.
use Prim.Native.Nat.{ℕ}
use mathlib.Core.Path.{◌≡◌, refl, sym, ap, ◌∙◌, subst}
use mathlib.Core.Bool.{Bool, true, false, cond}
use mathlib.Core.List.{List, [], ◌∷◌, ◌++◌, append_assoc}
use native.Mathlib.Omega.{arith}
use lib.Dec.{eqb}
use lib.ListN.{get_or}
use Rattle.floats.specs.Lists.{upto}
use Rattle.csv_figures.specs.Out.{Wrote}
use Rattle.csv_figures.specs.OutLaws.{wrote_then}
use Rattle.csv_figures.specs.Write.{whole_text}
use Rattle.csv_line.specs.LineText.{comma, crlf, tailed, joined}
use Rattle.csv_write.specs.Texts.{tailed_append}
use Rattle.night_columns.specs.Columns.{c_job, c_refusal, c_line, may_lack}
use Rattle.night_pieces.specs.Pieces.{checked_texts, refusal_texts, front_text, PutFront}
use Rattle.night_rest.specs.Rest.{counted_texts, last_texts, rest_text, PutRest}
use Rattle.night_table.specs.Table.{field_text, fields, try_line}
use Rattle.night_table.specs.Lines.{PutLine}

two : (b : Bool) (x y : List ℕ) (l : List (List ℕ)) → cond b [] x ∷ cond b [] y ∷ l ≡ cond b ([] ∷ [] ∷ []) (x ∷ y ∷ []) ++ l
two true x y l = refl
two false x y l = refl

abbrev grouped : List ℕ → List ℕ → List ℕ → List (List ℕ) → List (List ℕ)
grouped numbers file tolerance l =
    whole_text (get_or numbers c_job 0) ∷ (file ∷ (checked_texts numbers ++ (tolerance ∷ (counted_texts numbers ++ l))))

fields_are : (numbers file tolerance : List ℕ) → fields numbers file tolerance
    ≡ grouped numbers file tolerance (refusal_texts (get_or numbers c_refusal 0) (get_or numbers c_line 0) ++ last_texts numbers)
unfolding fields field_text may_lack upto
fields_are numbers file tolerance =
    ap (grouped numbers file tolerance)
    (two (eqb (get_or numbers c_refusal 0) 0) (whole_text (get_or numbers c_refusal 0)) (whole_text (get_or numbers c_line 0)) (last_texts numbers))

joined-pieces : (a f t : List ℕ) (bs ds rs ws : List (List ℕ)) (e : List ℕ)
    → joined (a ∷ (f ∷ (bs ++ (t ∷ (ds ++ (rs ++ ws)))))) ++ e
    ≡ (a ++ ((comma ∷ f) ++ (tailed bs ++ (comma ∷ t)))) ++ (tailed ds ++ (tailed rs ++ (tailed ws ++ e)))
unfolding joined tailed
joined-pieces a f t bs ds rs ws e = simp (tailed_append, append_assoc) refl

line-is : (numbers file tolerance : List ℕ) → front_text numbers file tolerance ++ rest_text numbers ≡ try_line numbers file tolerance
unfolding try_line
line-is numbers file tolerance =
    sym (ap (λ (fs : List (List ℕ)). joined fs ++ crlf) (fields_are numbers file tolerance)
    ∙ joined-pieces (whole_text (get_or numbers c_job 0)) file tolerance (checked_texts numbers) (counted_texts numbers)
    (refusal_texts (get_or numbers c_refusal 0) (get_or numbers c_line 0)) (last_texts numbers) crlf)

pub line-put : {numbers file tolerance o o₁ o' : List ℕ} {n a r : ℕ} → PutFront numbers file tolerance o n o₁ a → PutRest numbers o₁ a o' r
    → PutLine numbers file tolerance o n o' r
line-put {numbers} {file} {tolerance} {o} {o₁} {o'} {n} {a} {r} x y =
    record {
      text = subst (λ (t : List ℕ). Wrote o n t o' r) (line-is numbers file tolerance) (wrote_then x.text y.text);
      near = omega (arith, x.near, y.near);
    }
