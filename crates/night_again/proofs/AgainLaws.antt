-- LAWS. A line of tries reads back as what was written, where it can hold that; names, tolerances and figures it can. Assumes nothing.
use Rattle.std.specs.Prelude.{ℕ, suc, ◌+◌, ◌-◌, ◌≤◌, ◌<◌, ◌≡◌, refl, Bool, cond, ◌&&◌, not, ltb, Option, Some, None, Float}
use Rattle.std.proofs.Common.{sym, ◌∙◌, arith, length-append, get_or-append-add, eq-eqb, ne_eqb, le-ltb, eqb-true, ltb-true, ltb-false}
use Rattle.std.proofs.Math.Path.{ap}
use Rattle.std.proofs.Math.Bool.{true, false}
use Rattle.std.proofs.lemmas.Bool.{false≢true, eqb-false}
use mathlib.Core.List.{List, [], ◌∷◌, ◌++◌}
use Rattle.std.proofs.Math.Dec.{T, eqb}
use Rattle.std.proofs.Math.ListN.{length, get_or}
use Rattle.std.proofs.Math.Seq.{take_at}
use Rattle.std.specs.Float.Ieee.Fits as Fits
use Rattle.floats.specs.Lists.{upto}
use Rattle.floats.specs.Fill.{length-upto, at-upto, upto-below}
use Rattle.floats.specs.Truth.{and_i, or_t, or_f, all-at, all_intro, by_bit}
use Rattle.csv_decimal.specs.Decimal.{width}
use Rattle.csv_decimal.specs.Widths.{some-width}
use Rattle.csv_fields.specs.Read.{number}
use Rattle.csv_figures.specs.Write.{whole_text}
use Rattle.csv_figures.specs.Writers.{whole_length}
use Rattle.csv_numbers.proofs.Forms.{read_form}
use Rattle.csv_numbers.proofs.Lines.{whole_run, whole-num}
use Rattle.csv_line.specs.LineText.{comma, crlf, end_of, parted, joined}
use Rattle.csv_forms.specs.Clean.{clean_byte, clean, clean_all}
use Rattle.csv_forms.specs.CleanLaws.{clean-above, digits-clean, parted-joined, clean-upto}
use Rattle.csv_forms.specs.Forms.{present}
use Rattle.csv_forms.proofs.RowForms.{cell-clean}
use Rattle.csv_forms.proofs.RoundTrip.{figures-digits}
use Rattle.tally_words.specs.Words.{w_slots, job_words}
use Rattle.night_figures.specs.Figures.{most_figure, capped, since, figure_of}
use Rattle.night_stands.specs.Standing.{quote, byte_stands, may_stand}
use Rattle.night_tolerance.specs.Tolerance.{above_zero, is_tolerance}
use Rattle.night_columns.specs.Columns.{columns, c_file, c_tolerance, c_refusal, c_line, is_text, may_lack}
use Rattle.night_columns.specs.Read.{whole_of, empty_at, column_of, is_whole, value_of}
use Rattle.night_table.specs.Table.{field_text, fields, try_line}
use Rattle.night_table.specs.Back.{read_at, is_try, values_of}
use Rattle.night_again.specs.Again.{Writable, back_of, line_text, ReadsBack}

-- ---- a number reads back
whole_again : (v : ℕ) → v ≤ most_figure → whole_of (whole_text v) ≡ Some v
unfolding whole_of
whole_again v h =
    rw (
      whole_run v,
      ne_eqb (width v) 0 (λ (e : width v ≡ 0). omega (arith, some-width v)),
      eq-eqb (width v) (length (whole_text v)) (sym (whole_length v)),
      whole-num v (omega arith),
    )

number-again : (v k : ℕ) → v ≤ most_figure → is_text k ≡ false → column_of (whole_text v) k ≡ Some v
unfolding column_of
number-again v k h e =
    rw (e, ne_eqb (length (whole_text v)) 0 (λ (z : length (whole_text v) ≡ 0). omega (arith, some-width v, whole_length v))) (whole_again v h)

text-again : (s : List ℕ) (k : ℕ) → is_text k ≡ true → column_of s k ≡ Some (length s)
unfolding column_of
text-again s k e = rw e

-- ---- a line's end is found
end-found : (t : List ℕ) → end_of (t ++ crlf) ≡ Some (length t)
unfolding end_of
end-found t =
    let n = length-append t crlf in
    let m : length (t ++ crlf) - 2 ≡ length t = omega (arith, n) in
    let z : length t ≡ length t + 0 = omega arith in
    let first : get_or (t ++ crlf) (length t) 0 ≡ get_or crlf 0 0 = ap (λ (i : ℕ). get_or (t ++ crlf) i 0) z ∙ get_or-append-add t crlf 0 0 in
    rw (le-ltb (length (t ++ crlf)) 2 (omega (arith, n)), m, first, get_or-append-add t crlf 1 0)

-- ---- and so does each column
module _ (numbers file tolerance : List ℕ) (w : Writable numbers file tolerance) where
  -- an empty field stands for 0, and so does what was to be written there
  lacking : (k : ℕ) → may_lack k ≡ true → get_or numbers c_refusal 0 ≡ 0 → get_or numbers k 0 ≡ 0
  unfolding may_lack
  lacking k e z =
      by_bit (eqb k c_refusal)
      (λ (h : eqb k c_refusal ≡ true). ap (λ (i : ℕ). get_or numbers i 0) (eqb-true k c_refusal h) ∙ z)
      (λ (h : eqb k c_refusal ≡ false). ap (λ (i : ℕ). get_or numbers i 0) (eqb-true k c_line (sym (or_f (eqb k c_line) h) ∙ e)) ∙ w.unrefused z)

  lack_again : (k : ℕ) → is_text k ≡ false → may_lack k ≡ true
      → column_of (cond (eqb (get_or numbers c_refusal 0) 0) [] (whole_text (get_or numbers k 0))) k ≡ Some (get_or numbers k 0)
  unfolding column_of empty_at
  lack_again k t m =
      by_bit (eqb (get_or numbers c_refusal 0) 0)
      (λ (h : eqb (get_or numbers c_refusal 0) 0 ≡ true). rw (h, t, m) (ap Some (sym (lacking k m (eqb-true (get_or numbers c_refusal 0) 0 h)))))
      (λ (h : eqb (get_or numbers c_refusal 0) 0 ≡ false). rw h (number-again (get_or numbers k 0) k (w.few k) t))

  column_again : (k : ℕ) → column_of (field_text numbers file tolerance k) k ≡ Some (back_of numbers file tolerance k)
  unfolding field_text is_text
  column_again k =
      by_bit (eqb k c_file)
      (λ (f : eqb k c_file ≡ true). rw f (text-again file k (or_t (eqb k c_tolerance) f)))
      (λ (f : eqb k c_file ≡ false).
      by_bit (eqb k c_tolerance)
      (λ (g : eqb k c_tolerance ≡ true). rw (f, g) (text-again tolerance k (or_f (eqb k c_tolerance) f ∙ g)))
      (λ (g : eqb k c_tolerance ≡ false).
      let t : is_text k ≡ false = or_f (eqb k c_tolerance) f ∙ g in
      by_bit (may_lack k)
      (λ (m : may_lack k ≡ true). rw (f, g, m) (lack_again k t m))
      (λ (m : may_lack k ≡ false). rw (f, g, m) (number-again (get_or numbers k 0) k (w.few k) t))))

  -- ---- no field has a comma in it, so the line is parted into its fields
  whole-clean : (v : ℕ) → T (clean (whole_text v))
  whole-clean v = digits-clean (whole_text v) (figures-digits (width v) v)

  field_clean : (k : ℕ) → T (clean (field_text numbers file tolerance k))
  unfolding field_text
  field_clean k = go (eqb k c_file) (eqb k c_tolerance) (may_lack k) (eqb (get_or numbers c_refusal 0) 0)
    where
      go : (a b c d : Bool) → T (clean (cond a file
          (cond b tolerance (cond c (cond d [] (whole_text (get_or numbers k 0))) (whole_text (get_or numbers k 0))))))
      go true b c d = w.named
      go false true c d = w.given
      go false false true true = tt
      go false false true false = whole-clean (get_or numbers k 0)
      go false false false d = whole-clean (get_or numbers k 0)

  parted-again : parted (line_text numbers file tolerance) ≡ fields numbers file tolerance
  unfolding fields
  parted-again = some (upto (field_text numbers file tolerance) columns) (omega (arith, length-upto (field_text numbers file tolerance) columns))
      (clean-upto (field_text numbers file tolerance) columns (λ (i : ℕ) (l : i < columns). field_clean i))
    where
      some : (fs : List (List ℕ)) → 0 < length fs → T (clean_all fs) → parted (joined fs) ≡ fs
      some [] l c = absurd (omega arith)
      some (f ∷ fs) l c = parted-joined f fs (Fits.and_l (clean f) (clean_all fs) c) (Fits.and_r (clean f) (clean_all fs) c)

  read_again : (k : ℕ) → k < columns → read_at (parted (line_text numbers file tolerance)) k ≡ Some (back_of numbers file tolerance k)
  unfolding fields
  read_again k h =
      ap (λ (fs : List (List ℕ)). read_at fs k) parted-again
      ∙ ap (λ (f : List ℕ). column_of f k) (at-upto (field_text numbers file tolerance) columns k [] h)
      ∙ column_again k

  -- ---- the whole line
  pub reads_back : ReadsBack numbers file tolerance
  unfolding try_line is_try values_of fields
  reads_back =
      let t = line_text numbers file tolerance in
      record {
        end = end-found t;
        upto-end = take_at t crlf (length t) refl;
        parts = parted-again;
        good =
            and_i (eq-eqb (length (parted t)) columns (ap length parted-again ∙ length-upto (field_text numbers file tolerance) columns))
            (all_intro columns (λ (k : ℕ). is_whole (read_at (parted t) k)) (λ (k : ℕ) (h : k < columns). ap is_whole (read_again k h)));
        values =
            upto-below (λ (k : ℕ). value_of (read_at (parted t) k)) (back_of numbers file tolerance) columns
            (λ (k : ℕ) (h : k < columns). ap value_of (read_again k h));
      }

-- ---- what a night writes: its figures, names that may stand, and tolerances
pub figure-few : (before after : List ℕ) (k : ℕ) → figure_of before after k ≤ most_figure
unfolding figure_of capped
figure-few before after k = go (ltb k job_words) (since (get_or before (w_slots + k) 0) (get_or after (w_slots + k) 0))
  where
    cap : (n : ℕ) (b : Bool) → ltb n most_figure ≡ b → cond b n most_figure ≤ most_figure
    cap n true e = omega (arith, ltb-true n most_figure e)
    cap n false e = omega arith

    go : (b : Bool) (n : ℕ) → cond b (cond (ltb n most_figure) n most_figure) 0 ≤ most_figure
    go true n = cap n (ltb n most_figure) refl
    go false n = omega arith

byte_clean : (c : ℕ) → byte_stands c ≡ true → T (clean_byte c)
unfolding byte_stands
byte_clean c h = go (ltb c 32) (eqb c comma) (eqb c quote) refl refl refl h
  where
    go : (a b q : Bool) → ltb c 32 ≡ a → eqb c comma ≡ b → eqb c quote ≡ q → (not a && (not b && not q)) ≡ true → T (clean_byte c)
    go false false false e f g h = clean-above c (omega (arith, ltb-false c 32 e)) (eqb-false c quote g) (eqb-false c comma f)
    go false false true e f g h = absurd (false≢true h)
    go false true q e f g h = absurd (false≢true h)
    go true b q e f g h = absurd (false≢true h)

pub name_clean : (t : List ℕ) → may_stand t ≡ true → T (clean t)
unfolding may_stand
name_clean t h = go t (λ (i : ℕ) (l : i < length t). byte_clean (get_or t i 0) (all-at (length t) (λ (i : ℕ). byte_stands (get_or t i 0)) i h l))
  where
    go : (t : List ℕ) → ((i : ℕ) → i < length t → T (clean_byte (get_or t i 0))) → T (clean t)
    go [] h = tt
    go (c ∷ t) h = Fits.and_i (clean_byte c) (clean t) (h 0 (omega arith)) (go t (λ (i : ℕ) (l : i < length t). h (suc i) (omega arith)))

pub tolerance-clean : (t : List ℕ) → is_tolerance t ≡ true → T (clean t)
unfolding is_tolerance
tolerance-clean t h = go (number t) refl h
  where
    go : (x : Option Float) → number t ≡ x → above_zero x ≡ true → T (clean t)
    go (Some x) e g = cell-clean t _ (present (read_form t x e).form)
    go None e g = absurd (false≢true g)

pub night_writes : (numbers file tolerance : List ℕ) → ((k : ℕ) → get_or numbers k 0 ≤ most_figure) → may_stand file ≡ true → is_tolerance tolerance ≡ true
    → (get_or numbers c_refusal 0 ≡ 0 → get_or numbers c_line 0 ≡ 0)
    → ReadsBack numbers file tolerance
night_writes numbers file tolerance few f t u =
    reads_back numbers file tolerance (record { few = few; named = name_clean file f; given = tolerance-clean tolerance t; unrefused = u })
