-- LAWS. What the reader can give, written and read again, is the same; and what is written is clean text of the output's fields. Assumes nothing.
use Rattle.std.specs.Prelude.{ℕ, zero, suc, ◌+◌, ◌-◌, ◌/◌, ◌%◌, ◌^◌, ◌<◌, refl, Bool, ◌&&◌, T, ltb, Float, Some}
use Rattle.std.proofs.Math.Path.{◌≡◌, sym, ap}
use Rattle.std.proofs.Common.{◌∙◌, subst, arith, lit<, length-append}
use Rattle.std.proofs.Math.Bool.{true, false, cond}
use mathlib.Core.List.{List, [], ◌∷◌, ◌++◌, append-nil}
use Rattle.std.proofs.Math.Option.{Option, none, some}
use Rattle.std.proofs.Math.Dec.{eqb}
use Rattle.std.proofs.Math.ListN.{length, get_or}
use Rattle.std.specs.Float.{binary64}
use Rattle.std.specs.Float.Ieee.{div, neg, of_int, of_bits, lt, fits}
use Rattle.std.specs.Float.Ieee.Fits.{and_i, cond-fits, div-fits, neg-fits}
use Rattle.std.specs.Float.Ieee.Bits.{of_bits-to_bits}
use borrow.Author.Tests.{ne_eqb, lt-ltb, ltb-true}
use Rattle.floats.specs.Numbers.{num, bits}
use Rattle.floats.specs.Lists.{upto, is_some, all}
use Rattle.floats.specs.Fill.{length-upto, at-upto}
use Rattle.floats.specs.Truth.{and_left, and_right, and_i as both, all_intro}
use Rattle.layout.specs.Layout.{cells, r_cells, line_numbers}
use Rattle.row_cells.specs.Codes.{plane_ok}
use Rattle.row_cells.specs.Bits.{has}
use Rattle.row_cells.specs.Row.{cell, row_of, present_of, line_of, motion_of, plane_of, mark_of}
use Rattle.row_cells.proofs.RowLaws.{cell-there, row-cell}
use Rattle.csv_decimal.specs.Decimal.{millionths, quotient, width}
use Rattle.csv_fields.specs.Read.{is_digit, number}
use Rattle.csv_numbers.specs.Grammar.{all_digits}
use Rattle.csv_figures.specs.Write.{figures, whole_text, millionths_text, number_text, shown}
use Rattle.csv_numbers.proofs.Forms.{no_value, form_read, line_read_form}
use Rattle.csv_fields.specs.Readers.{nothing}
use Rattle.csv_numbers.proofs.Again.{figure-in, read_again}
use Rattle.csv_numbers.proofs.Lines.{line-again}
use Rattle.csv_words.specs.Words.{word_at, plane_text}
use Rattle.csv_line.specs.LineText.{comma, crlf, columns, column_count, code_at, parted, joined, tailed}
use Rattle.csv_line.specs.CodeLaws.{code_below, plane-low}
use Rattle.csv_write.specs.Texts.{joined_append}
use Rattle.csv_forms.specs.Clean.{clean, clean_all, CleanLine}
use Rattle.csv_forms.specs.CleanLaws.{clean_append, digits-clean, word-clean, clean-all_append, clean-upto, parted-joined}
use Rattle.csv_forms.specs.Forms.{CellForm, absent, present, FieldsForm}
use Rattle.csv_cells.specs.Cells.{given, cell_ok}
use Rattle.csv_read.specs.Reader.{cell_in, cells_in, read_row}
use Rattle.csv_forms.proofs.RowForms.{cell-form, accepted-has-form, form-is-accepted}
use Rattle.csv_write.specs.Writer.{cell_text, cell_shown, cell_texts, head_fields, row_fields, mark_text, out_fields, row_text, head_ok, writable}

-- ---- the cells of a row that was read, column by column
in_column : (cs : List (List ℕ)) (i : ℕ) → i < column_count → cell_in (code_at i) 0 columns cs ≡ given (get_or cs i [])
unfolding cell_in
in_column cs zero h = refl
in_column cs (suc zero) h = refl
in_column cs (suc (suc zero)) h = refl
in_column cs (suc (suc (suc zero))) h = refl
in_column cs (suc (suc (suc (suc zero)))) h = refl
in_column cs (suc (suc (suc (suc (suc zero))))) h = refl
in_column cs (suc (suc (suc (suc (suc (suc zero)))))) h = refl
in_column cs (suc (suc (suc (suc (suc (suc (suc zero))))))) h = refl
in_column cs (suc (suc (suc (suc (suc (suc (suc (suc zero)))))))) h = refl
in_column cs (suc (suc (suc (suc (suc (suc (suc (suc (suc zero))))))))) h = refl
in_column cs (suc (suc (suc (suc (suc (suc (suc (suc (suc (suc zero)))))))))) h = refl
in_column cs (suc (suc (suc (suc (suc (suc (suc (suc (suc (suc (suc k))))))))))) h = absurd (omega arith)

cells_same : (cs ds : List (List ℕ)) → ((i : ℕ) → i < column_count → given (get_or cs i []) ≡ given (get_or ds i [])) → cells_in cs ≡ cells_in ds
unfolding cells_in cell_in upto
cells_same cs ds h =
    rw (
      h 0 (lit< tt),
      h 1 (lit< tt),
      h 2 (lit< tt),
      h 3 (lit< tt),
      h 4 (lit< tt),
      h 5 (lit< tt),
      h 6 (lit< tt),
      h 7 (lit< tt),
      h 8 (lit< tt),
      h 9 (lit< tt),
      h 10
          (lit< tt),
    )

-- ---- a number that was read keeps its bits
quotient_fits : (s : Bool) (n k : ℕ) → T (fits binary64 (quotient s n k))
unfolding quotient
quotient_fits s n k =
    let q = div binary64 (of_int binary64 (lib.IntN.pos n)) (of_int binary64 (lib.IntN.pos (10 ^ k))) in
    let f = div-fits binary64 (of_int binary64 (lib.IntN.pos n)) (of_int binary64 (lib.IntN.pos (10 ^ k))) in
    cond-fits binary64 (s && ltb 0 n) (neg q) q (neg-fits binary64 q f) f

pub bits-again : (s : Bool) (n k : ℕ) → num (bits (quotient s n k)) ≡ quotient s n k
bits-again s n k = of_bits-to_bits binary64 (quotient s n k) (quotient_fits s n k)

-- ---- a cell, written and read again
record Again (r : List ℕ) (i : ℕ) (o : Option ℕ) : Type 0 where
  may : cell_shown r i ≡ true
  good : cell_ok (cell_text r i) ≡ true
  same : given (cell_text r i) ≡ o

module _ (r : List ℕ) (i : ℕ) where
  there : (o : Option ℕ) → cell r (code_at i) ≡ o → has (present_of r) (code_at i) ≡ is_some o
  there o e = sym (cell-there r (code_at i)) ∙ ap is_some e

  word-is : (w : ℕ) → cell r (code_at i) ≡ some w → get_or r (r_cells + code_at i) 0 ≡ w
  unfolding cell
  word-is w e =
      inner (get_or r (r_cells + code_at i) 0) w
      (sym (ap (λ (b : Bool). cond b (some (get_or r (r_cells + code_at i) 0)) none) (there (some w) e)) ∙ e)
    where
      inner : (a b : ℕ) → ◌≡◌ {A = Option ℕ} (some a) (some b) → a ≡ b
      inner a b e = cc

  cell-absent : cell r (code_at i) ≡ none → Again r i none
  unfolding cell_shown cell_text cell_ok given
  cell-absent e = let h = there none e in record { may = rw h; good = rw h; same = rw h }

  cell-present : (x : Float) → cell r (code_at i) ≡ some (bits x) → num (bits x) ≡ x
      → (shown x ≡ true) × (number (number_text x) ≡ Some x) → Again r i (some (bits x))
  unfolding cell_shown cell_text cell_ok given
  cell-present x c v a =
      let t = number_text x in
      let h : has (present_of r) (code_at i) ≡ true = there (some (bits x)) c in
      let e : num (get_or r (r_cells + code_at i) 0) ≡ x = ap num (word-is (bits x) c) ∙ v in
      let z : eqb (length t) 0 ≡ false = ne_eqb (length t) 0 (λ (q : length t ≡ 0). empty t x q a.1) in
      record { may = rw (h, e) a.0; good = rw (h, e, z, a.1); same = rw (h, e, z, a.1) }
    where
      empty : (t : List ℕ) (x : Float) → length t ≡ 0 → number t ≡ Some x → ⊥
      empty t x q v = no_value x (nothing t q ∙ v)

module _ (n a b : ℕ) (cs : List (List ℕ)) where
  cell-is : (i : ℕ) → i < column_count → cell (row_of n a b 0 0 (cells_in cs)) (code_at i) ≡ given (get_or cs i [])
  unfolding cells_in
  cell-is i h =
      row-cell n a b 0 0 (λ (k : ℕ). cell_in k 0 columns cs) cells (code_at i) (omega (arith, code_below i h)) ∙ in_column cs i h

  again : (i : ℕ) → i < column_count → CellForm (get_or cs i []) (given (get_or cs i [])) → Again (row_of n a b 0 0 (cells_in cs)) i (given (get_or cs i []))
  again i h c = go (get_or cs i []) (given (get_or cs i [])) c (cell-is i h)
    where
      go : (f : List ℕ) (o : Option ℕ) → CellForm f o → cell (row_of n a b 0 0 (cells_in cs)) (code_at i) ≡ o → Again (row_of n a b 0 0 (cells_in cs)) i o
      go f o absent e = cell-absent (row_of n a b 0 0 (cells_in cs)) i e
      go f o (present {t = t} {s = s} {n = m} {k = k} v) e =
          cell-present (row_of n a b 0 0 (cells_in cs)) i (quotient s m k) e (bits-again s m k) (read_again t (quotient s m k) (form_read t s m k v))

  pub written-again : n < line_numbers → a < 16 → plane_ok b ≡ true → ((i : ℕ) → i < column_count → CellForm (get_or cs i []) (given (get_or cs i [])))
      → (writable (row_of n a b 0 0 (cells_in cs)) ≡ true) × FieldsForm (row_fields (row_of n a b 0 0 (cells_in cs))) (row_of n a b 0 0 (cells_in cs))
  unfolding writable head_ok row_of row_fields cell_texts
  written-again l m p c =
      let r = row_of n a b 0 0 (cells_in cs) in
      let ds = upto (cell_text r) column_count in
      let k : (i : ℕ) → i < column_count → Again r i (given (get_or cs i [])) = λ (i : ℕ) (h : i < column_count). again i h (c i h) in
      let t : (i : ℕ) → i < column_count → get_or ds i [] ≡ cell_text r i = λ (i : ℕ) (h : i < column_count). at-upto (cell_text r) column_count i [] h in (
        both (both (lt-ltb n line_numbers l) (both (lt-ltb a 16 m) p)) (all_intro column_count (cell_shown r) (λ (i : ℕ) (h : i < column_count). (k i h).may)),
        record {
          line_field = whole_text n;
          motion_field = word_at a;
          plane_field = plane_text b;
          cell_fields = ds;
          line = n;
          motion = a;
          plane = b;
          parts = refl;
          count = length-upto (cell_text r) column_count;
          line-is = line_read_form (whole_text n) n (line-again n l);
          motion-is = (refl, m);
          plane-is = (refl, p);
          cells_are = λ (i : ℕ) (h : i < column_count). cell-form (get_or ds i []) (ap cell_ok (t i h) ∙ (k i h).good);
          row_is = ap (row_of n a b 0 0) (cells_same cs ds (λ (i : ℕ) (h : i < column_count). sym (ap given (t i h) ∙ (k i h).same)));
        },
      )

-- A row that the reader can give is written, and what is written, its mark apart, is read as the same row.
pub row-again : (t r : List ℕ) → read_row t ≡ some r → (writable r ≡ true) × (read_row (joined (row_fields r)) ≡ some r)
row-again t r e =
    let f = (accepted-has-form t r e).form in
    let w = written-again f.line f.motion f.plane f.cell_fields f.line-is.low f.motion-is.1 f.plane-is.1 f.cells_are in
    subst (λ (z : List ℕ). (writable z ≡ true) × (read_row (joined (row_fields z)) ≡ some z)) (sym f.row_is)
    (w.0, form-is-accepted _ _ (record { fields = _; text = refl; form = w.1 }))

-- the line is those fields, the mark behind a comma, and CRLF
pub row_line : (r : List ℕ) → row_text r ≡ (joined (row_fields r) ++ (comma ∷ mark_text r)) ++ crlf
unfolding row_text out_fields row_fields tailed
row_line r =
    ap (λ (l : List ℕ). l ++ crlf)
    (joined_append (whole_text (line_of r)) ((word_at (motion_of r) ∷ plane_text (plane_of r) ∷ []) ++ cell_texts r column_count) (mark_text r ∷ [])
    ∙ ap (λ (l : List ℕ). joined (head_fields r ++ cell_texts r column_count) ++ (comma ∷ l)) (append-nil (mark_text r)))

-- ---- what is written has no quote, no comma, CR or LF in a field, and as many fields as the header
pub figures-digits : (k v : ℕ) → T (all_digits (figures k v))
unfolding figures
figures-digits zero v = tt
figures-digits (suc k) v = and_i (is_digit (48 + v / 10 ^ k % 10)) (all_digits (figures k v)) (subst T (sym (figure-in v k)) tt) (figures-digits k v)

number-clean : (x : Float) → T (clean (number_text x))
unfolding number_text millionths_text
number-clean x = go (lt x (of_bits binary64 0) && ltb 0 (millionths x))
  where
    bare : T (clean (whole_text (millionths x / 1000000) ++ (46 ∷ figures 6 (millionths x))))
    bare =
        clean_append (whole_text (millionths x / 1000000)) (46 ∷ figures 6 (millionths x))
        (digits-clean (whole_text (millionths x / 1000000)) (figures-digits (width (millionths x / 1000000)) (millionths x / 1000000)))
        (and_i true (clean (figures 6 (millionths x))) tt (digits-clean (figures 6 (millionths x)) (figures-digits 6 (millionths x))))

    go : (b : Bool)
        → T (clean (cond b (45 ∷ (whole_text (millionths x / 1000000) ++ (46 ∷ figures 6 (millionths x))))
        (whole_text (millionths x / 1000000) ++ (46 ∷ figures 6 (millionths x)))))
    go true = and_i true (clean (whole_text (millionths x / 1000000) ++ (46 ∷ figures 6 (millionths x)))) tt bare
    go false = bare

cell-text-clean : (r : List ℕ) (i : ℕ) → T (clean (cell_text r i))
unfolding cell_text
cell-text-clean r i = go (has (present_of r) (code_at i))
  where
    go : (b : Bool) → T (clean (cond b (number_text (num (get_or r (r_cells + code_at i) 0))) []))
    go true = number-clean (num (get_or r (r_cells + code_at i) 0))
    go false = tt

mark-clean : (r : List ℕ) → T (clean (mark_text r))
unfolding mark_text
mark-clean r = go (eqb (mark_of r) 0)
  where
    go : (b : Bool) → T (clean (cond b [] (49 ∷ [])))
    go true = tt
    go false = tt

pub written-is-clean : (r : List ℕ) → writable r ≡ true → CleanLine r
unfolding writable head_ok out_fields row_fields cell_texts parted
written-is-clean r e =
    let h = and_left (head_ok r) (all column_count (cell_shown r)) e in
    let k = and_right (ltb (line_of r) line_numbers) (ltb (motion_of r) 16 && plane_ok (plane_of r)) h in
    let m = ltb-true (motion_of r) 16 (and_left (ltb (motion_of r) 16) (plane_ok (plane_of r)) k) in
    let p = plane-low (plane_of r) (and_right (ltb (motion_of r) 16) (plane_ok (plane_of r)) k) in
    let l : T (clean (whole_text (line_of r))) = digits-clean (whole_text (line_of r)) (figures-digits (width (line_of r)) (line_of r)) in
    let w : T (clean (word_at (motion_of r))) = word-clean (motion_of r) (omega arith) in
    let v : T (clean (plane_text (plane_of r))) = word-clean (plane_of r - 1) (omega arith) in
    let cs = upto (cell_text r) column_count in
    let c : T (clean_all (cs ++ (mark_text r ∷ []))) =
    clean-all_append cs (mark_text r ∷ []) (clean-upto (cell_text r) column_count (λ (i : ℕ) (h : i < column_count). cell-text-clean r i))
    (and_i (clean (mark_text r)) true (mark-clean r) tt) in
    let rest : T (clean_all (word_at (motion_of r) ∷ plane_text (plane_of r) ∷ (cs ++ (mark_text r ∷ [])))) =
    and_i (clean (word_at (motion_of r))) _ w (and_i (clean (plane_text (plane_of r))) _ v c) in
    record {
      no_quote_comma_cr_lf = and_i (clean (whole_text (line_of r))) _ l rest;
      fields = parted-joined (whole_text (line_of r)) (word_at (motion_of r) ∷ plane_text (plane_of r) ∷ (cs ++ (mark_text r ∷ []))) l rest;
      as_headed = fifteen (cell_text r) (mark_text r);
    }
  where
    fifteen : (g : ℕ → List ℕ) (m : List ℕ) → suc (suc (suc (length (upto g column_count ++ (m ∷ []))))) ≡ 15
    fifteen g m = omega (arith, length-append (upto g column_count) (m ∷ []), length-upto g column_count)
