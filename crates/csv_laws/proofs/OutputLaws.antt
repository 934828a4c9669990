-- LAWS. Standard output is nothing, or a header line and clean lines, whatever the input is. Assumes nothing.
use Rattle.std.specs.Prelude.{ℕ, zero, suc, ◌+◌, ◌<◌, ◌⊎◌, ◌≡◌, refl, Bool, true, false, cond, List, [], ◌∷◌, ◌++◌, eqb, ltb, length, take, Option as Read}
use Rattle.std.specs.Prelude.{Some, None}
use Rattle.std.proofs.Common.{inl, inr, ⊎_elim, sym, ap, ◌∙◌, append_assoc, append-nil, arith, eq-eqb, ne_eqb, ltb-false}
use Rattle.std.proofs.Math.Path.{subst}
use Rattle.std.proofs.Math.Option.{Option, none as no_row, some}
use Rattle.floats.specs.Lists.{upto, flatten}
use Rattle.csv_words.specs.Words.{same}
use Rattle.csv_line.specs.LineText.{crlf, end_of}
use Rattle.csv_header.specs.Header.{header, header_out}
use Rattle.floats.specs.Truth.{all-at}
use Rattle.csv_read.specs.Reader.{read_row}
use Rattle.csv_write.specs.Writer.{row_at, rows_text, rows_writable, writable, row_text, out_fields}
use Rattle.csv_write.specs.Texts.{flatten-more}
use Rattle.csv_forms.proofs.RoundTrip.{written-is-clean}
use Rattle.csv_count.specs.Count.{bad_text, last_line, next_line}
use Rattle.csv_out.specs.Say.{Say, refusal, heading}
use Rattle.csv_answer.specs.Answer.{answer}
use Rattle.text_cut.specs.Cut.{lines_from, rest_from}
use Rattle.csv_out.specs.SayLaws.{heading-good, heading_bad}
use Rattle.csv_spec.specs.Line.{Stand, Step, spoken, unread, on_row, on_read, on_text, on_end, csv_line, csv_close, csv_end}
use Rattle.csv_spec.specs.Csv.{and_then, still, csv_lines, csv_finish, csv_rest, begun, csv_spec}
use Rattle.csv_spec.proofs.CsvLaws.{finish_then, refused-lines}
use Rattle.csv_spec.specs.LineLaws.{text-header}
use Rattle.csv_laws.specs.Output.{CleanText, CleanLines, none, then, Output, nothing, headed}

-- ---- rows
row-text : (r : List ℕ) → writable r ≡ true → CleanText (row_text r)
unfolding row_text
row-text r e =
    let w = written-is-clean r e in
    record { fields = out_fields r; count = w.as_headed; clean = w.no_quote_comma_cr_lf; text = refl }

lines_join : {a b : List ℕ} → CleanLines a → CleanLines b → CleanLines (a ++ b)
lines_join none y = y
lines_join {b = b} (then {l = l} {rest = r} c x) y = subst CleanLines (sym (append_assoc l r b)) (then c (lines_join x y))

lines-one : {l : List ℕ} → CleanText l → CleanLines l
lines-one {l} c = subst CleanLines (append-nil l) (then c none)

lines-upto : (f : ℕ → List ℕ) (n : ℕ) → ((i : ℕ) → i < n → CleanText (f i)) → CleanLines (flatten (upto f n))
unfolding upto flatten
lines-upto f zero h = none
lines-upto f (suc n) h =
    subst CleanLines (sym (flatten-more f n))
    (lines_join (lines-upto f n (λ (i : ℕ) (l : i < n). h i (omega arith))) (lines-one (h n (omega arith))))

rows-clean : (rows : List ℕ) (k : ℕ) → rows_writable rows k ≡ true → CleanLines (rows_text rows k)
unfolding rows_writable rows_text
rows-clean rows k e =
    lines-upto (λ (i : ℕ). row_text (row_at rows i)) k (λ (i : ℕ) (l : i < k). row-text (row_at rows i) (all-at k (λ (i : ℕ). writable (row_at rows i)) i e l))

-- ---- what is said to a line that is not the first, and at the end
pick-clean : (b : Bool) (p q : Say) → (b ≡ true → CleanLines p.out) → CleanLines q.out → CleanLines (cond b p q).out
pick-clean true p q x y = x refl
pick-clean false p q x y = y

refusal-clean : (n k : ℕ) → CleanLines (refusal n k).out
unfolding refusal
refusal-clean n k = none

answer-clean : (source code count warning : ℕ) (rows : List ℕ) → CleanLines (answer source code count warning rows).out
unfolding answer
answer-clean source code count warning rows =
    pick-clean (eqb code 0) _ _
    (λ (z : eqb code 0 ≡ true). pick-clean (rows_writable rows count) _ _ (rows-clean rows count) (refusal-clean source bad_text))
    (refusal-clean source code)

unread-clean : (s : Stand) → CleanLines (unread s).out
unfolding unread
unread-clean s = refusal-clean s.physical bad_text

step-clean : (b : Bool) (d e : Step) → CleanLines d.out → CleanLines e.out → CleanLines (cond b d e).out
step-clean true d e x y = x
step-clean false d e x y = y

read_clean : (s : Stand) (o : Option (List ℕ)) → CleanLines (on_read s o).out
unfolding on_row
read_clean s no_row = unread-clean s
read_clean s (some row) = answer-clean _ _ _ _ _

text-clean : (s : Stand) (t : List ℕ) → (s.physical ≡ 1 → ⊥) → CleanLines (on_text s t).out
unfolding on_text
text-clean s t h = rw (ne_eqb s.physical 1 h) (read_clean s (read_row t))

end_clean : (s : Stand) (l : List ℕ) (x : Read ℕ) → (s.physical ≡ 1 → ⊥) → CleanLines (on_end s l x).out
end_clean s l None h = unread-clean s
end_clean s l (Some n) h = text-clean s (take n l) h

line_clean : (s : Stand) (l : List ℕ) → (s.physical ≡ 1 → ⊥) → CleanLines (csv_line s l).out
unfolding csv_line
line_clean s l h = end_clean s l (end_of l) h

close-clean : (s : Stand) (left : ℕ) → CleanLines (csv_end s left).out
unfolding csv_end csv_close
close-clean s left =
    let shut = step-clean (eqb s.physical 1) _ _ (unread-clean s) (answer-clean _ _ _ _ _) in
    step-clean (eqb left 0) _ _ shut (unread-clean s)

-- ---- a line behind the first is not the first
physical-stays : (s : Stand) (l : List ℕ) (x : Read ℕ) → (on_end s l x).stand.physical ≡ s.physical
unfolding unread on_text on_row
physical-stays s l None = refl
physical-stays s l (Some n) = go (eqb s.physical 1) (read_row (take n l))
  where
    go : (b : Bool) (o : Option (List ℕ)) → (cond b (spoken s (heading s.physical (take n l))) (on_read s o)).stand.physical ≡ s.physical
    go true o = refl
    go false no_row = refl
    go false (some row) = refl

next_higher : (n : ℕ) → 0 < n → 1 < next_line n
unfolding next_line
next_higher n h = go (ltb n last_line) refl
  where
    go : (b : Bool) → ltb n last_line ≡ b → 1 < cond b (n + 1) n
    go true e = omega arith
    go false e = omega (arith, ltb-false n last_line e)

line-next : (s : Stand) (l : List ℕ) → 0 < s.physical → 1 < (csv_line s l).stand.physical
unfolding csv_line
line-next s l h = subst (λ (k : ℕ). 1 < next_line k) (sym (physical-stays s l (end_of l))) (next_higher s.physical h)

lines-clean : (s : Stand) (ls : List (List ℕ)) → 1 < s.physical → CleanLines (csv_lines s ls).out
unfolding csv_lines
lines-clean s [] h = none
lines-clean s (l ∷ ls) h =
    step-clean s.refused _ _ none
    (lines_join (line_clean s l (λ (e : s.physical ≡ 1). omega arith)) (lines-clean (csv_line s l).stand ls (line-next s l (omega arith))))

finish_clean : (d : Step) (n : ℕ) → CleanLines d.out → CleanLines (csv_finish d n).out
unfolding csv_finish
finish_clean d n c = step-clean d.stand.refused _ _ c (lines_join c (close-clean d.stand n))

-- ---- the first line, and the others
first-line : (s : Stand) (l : List ℕ) → s.physical ≡ 1
    → (((csv_line s l).out ≡ []) × ((csv_line s l).stand.refused ≡ true)) ⊎ ((csv_line s l).out ≡ header_out ++ crlf)
unfolding csv_line unread refusal
first-line s l h = go (end_of l)
  where
    header_or_not : (t : List ℕ) (b : Bool) → same header t ≡ b
        → (((heading s.physical t).out ≡ []) × ((heading s.physical t).refused ≡ true)) ⊎ ((heading s.physical t).out ≡ header_out ++ crlf)
    header_or_not t true e = inr (ap (λ (p : Say). p.out) (heading-good s.physical t e))
    header_or_not t false e =
        let w = heading_bad s.physical t e in inl (ap (λ (p : Say). p.out) w, ap (λ (p : Say). p.refused) w)

    go : (x : Read ℕ) → (((on_end s l x).out ≡ []) × ((on_end s l x).stand.refused ≡ true)) ⊎ ((on_end s l x).out ≡ header_out ++ crlf)
    go None = inl (refl, refl)
    go (Some n) = rw (text-header s (take n l) h) (header_or_not (take n l) (same header (take n l)) refl)

end-silent : (s : Stand) (n : ℕ) → s.physical ≡ 1 → (csv_end s n).out ≡ []
unfolding csv_end unread refusal
end-silent s n h = rw (eq-eqb s.physical 1 h) (go (eqb n 0))
  where
    go : (b : Bool) → (cond b (unread s) (unread s)).out ≡ []
    go true = refl
    go false = refl

no_lines : (s : Stand) (n : ℕ) → s.physical ≡ 1 → s.refused ≡ false → Output (csv_finish (still s) n).out
unfolding csv_finish
no_lines s n h e =
    subst (λ (b : Bool). Output (cond b (still s) (and_then (still s) (csv_end s n))).out) (sym e) (subst Output (sym (end-silent s n h)) nothing)

refused_finish : (s : Stand) (n : ℕ) → s.refused ≡ true → csv_finish (still s) n ≡ still s
unfolding csv_finish
refused_finish s n e = ap (λ (b : Bool). cond b (still s) (and_then (still s) (csv_end s n))) e

-- the first line, and then the others and the end
module _ (s : Stand) (l : List ℕ) (ls : List (List ℕ)) (n : ℕ) (h : s.physical ≡ 1) where
  abbrev d : Step
  d = csv_line s l

  abbrev rest : Step
  rest = csv_lines (csv_line s l).stand ls

  refused-first : (d.out ≡ []) × (d.stand.refused ≡ true) → Output (d.out ++ (csv_finish rest n).out)
  refused-first w =
      let none-behind : (csv_finish rest n).out ≡ [] =
      ap (λ (x : Step). (csv_finish x n).out) (refused-lines d.stand ls w.1) ∙ ap (λ (x : Step). x.out) (refused_finish d.stand n w.1) in
      subst (λ (o : List ℕ). Output (o ++ (csv_finish rest n).out)) (sym w.0) (subst Output (sym none-behind) nothing)

  good-first : d.out ≡ header_out ++ crlf → Output (d.out ++ (csv_finish rest n).out)
  good-first w =
      subst (λ (o : List ℕ). Output (o ++ (csv_finish rest n).out)) (sym w)
      (headed (finish_clean rest n (lines-clean d.stand ls (line-next s l (omega arith)))))

  first_output : s.refused ≡ false → Output (csv_finish (csv_lines s (l ∷ ls)) n).out
  unfolding csv_lines
  first_output e =
      subst (λ (b : Bool). Output (csv_finish (cond b (still s) (and_then d rest)) n).out) (sym e)
      (subst (λ (x : Step). Output x.out) (sym (finish_then d rest n)) (⊎_elim refused-first good-first (first-line s l h)))

rest_output : (s : Stand) (ls : List (List ℕ)) (n : ℕ) → s.physical ≡ 1 → s.refused ≡ false → Output (csv_finish (csv_lines s ls) n).out
unfolding csv_lines
rest_output s [] n h e = no_lines s n h e
rest_output s (l ∷ ls) n h e = first_output s l ls n h e

-- 7.2 to 7.4: whatever the input is
pub output_clean : (input : List ℕ) → Output (csv_spec input).out
unfolding csv_spec csv_rest begun
output_clean input = rest_output begun (lines_from [] input) (length (rest_from [] input)) refl refl
