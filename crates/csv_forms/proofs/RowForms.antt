-- LAWS. The reader accepts the lines that have the form of a row, and no others. Assumes nothing.
use Rattle.std.specs.Prelude.{ℕ, suc, ◌-◌, ◌<◌, ◌≡◌, refl, Bool, true, false, cond, List, [], ◌∷◌, T, eqb, length, get_or, Float, Option as Read, Some, None}
use Rattle.std.proofs.Common.{sym, ap, ◌∙◌, subst, arith, eq-eqb, ne_eqb, eqb-true}
use Rattle.std.proofs.lemmas.Bool.{false≢true}
use Rattle.std.proofs.Math.Option.{Option, none, some}
use Rattle.std.specs.Float.Ieee.Fits.{and_i}
use Rattle.floats.specs.Numbers.{bits}
use Rattle.row_cells.specs.Codes.{plane_ok}
use Rattle.floats.specs.Lists.{all}
use Rattle.floats.specs.Truth.{and_left, and_right, and_i as both, all-at, all_intro}
use Rattle.row_cells.specs.Row.{row_of}
use Rattle.csv_decimal.specs.Decimal.{quotient}
use Rattle.csv_fields.specs.Read.{number, line_number}
use Rattle.csv_numbers.specs.Grammar.{Unsigned, plain, point, bare, minus, Numbered}
use Rattle.csv_numbers.proofs.Forms.{no_value, form_read, read_form, line-form_read, line_read_form}
use Rattle.csv_fields.specs.Readers.{nothing}
use Rattle.csv_words.specs.Words.{word_at, plane_text, motion_of, plane_of}
use Rattle.csv_words.specs.Codes.{motion-again, motion-only, plane-again, plane-only}
use Rattle.csv_line.specs.LineText.{column_count, parted, joined}
use Rattle.csv_line.specs.CodeLaws.{plane-low}
use Rattle.csv_forms.specs.Clean.{clean, clean_all}
use Rattle.csv_forms.specs.CleanLaws.{clean_append, digits-clean, word-clean, parted-joined, joined-parted}
use Rattle.csv_forms.specs.Forms.{CellForm, absent, present, FieldsForm, RowForm}
use Rattle.csv_cells.specs.Cells.{word_in, given, is_number, cell_ok, cells_ok}
use Rattle.csv_read.specs.Reader.{cells_in, from_cells, coded, numbered, from_plane, from_motion, from_line, read_row}

-- ---- a cell
pub cell-form : (f : List ℕ) → cell_ok f ≡ true → CellForm f (given f)
unfolding cell_ok given
cell-form [] e = absent
cell-form (c ∷ f) e =
    let n : eqb (length (c ∷ f)) 0 ≡ false = ne_eqb (suc (length f)) 0 (λ (z : suc (length f) ≡ 0). omega arith) in
    subst (λ (b : Bool). CellForm (c ∷ f) (cond b none (word_in (number (c ∷ f))))) (sym n)
    (go (number (c ∷ f)) refl (ap (λ (b : Bool). cond b true (is_number (number (c ∷ f)))) (sym n) ∙ e))
  where
    go : (x : Read Float) → number (c ∷ f) ≡ x → is_number x ≡ true → CellForm (c ∷ f) (word_in x)
    go (Some x) h k = let r = read_form (c ∷ f) x h in subst (λ (y : Float). CellForm (c ∷ f) (some (bits y))) (sym r.value) (present r.form)
    go None h k = absurd (false≢true k)

full : (f : List ℕ) (x : Float) → number f ≡ Some x → length f ≡ 0 → ⊥
full f x e z = no_value x (nothing f z ∙ e)

pub form-cell : (f : List ℕ) (o : Option ℕ) → CellForm f o → (cell_ok f ≡ true) × (given f ≡ o)
unfolding cell_ok given
form-cell f o absent = (refl, refl)
form-cell f o (present {t = t} {s = s} {n = n} {k = k} w) =
    let e : number t ≡ Some (quotient s n k) = form_read t s n k w in
    let z : eqb (length t) 0 ≡ false = ne_eqb (length t) 0 (full t (quotient s n k) e) in
    (ap (λ (b : Bool). cond b true (is_number (number t))) z ∙ ap is_number e, ap (λ (b : Bool). cond b none (word_in (number t))) z ∙ ap word_in e)

unsigned-clean : (t : List ℕ) (n k : ℕ) → Unsigned t n k → T (clean t)
unsigned-clean t n k (plain w d l h) = digits-clean w d
unsigned-clean t n k (point w f d l h e m i) = clean_append w (46 ∷ f) (digits-clean w d) (and_i true (clean f) tt (digits-clean f e))

pub cell-clean : (f : List ℕ) (o : Option ℕ) → CellForm f o → T (clean f)
cell-clean f o absent = tt
cell-clean f o (present (bare {t = t} {n = n} {k = k} u)) = unsigned-clean t n k u
cell-clean f o (present (minus {t = t} {n = n} {k = k} u)) = and_i true (clean t) tt (unsigned-clean t n k u)

-- ---- the plane words
plane-ok : (p : List ℕ) (b : ℕ) → plane_of p ≡ Some b → (plane_text b ≡ p) × (plane_ok b ≡ true)
unfolding plane_ok
plane-ok p b h = plane-only p b h

plane_is_read : (b : ℕ) → plane_ok b ≡ true → plane_of (plane_text b) ≡ Some b
unfolding plane_ok
plane_is_read b h = plane-again b h

plane-clean : (b : ℕ) → plane_ok b ≡ true → T (clean (plane_text b))
plane-clean b h = let l = plane-low b h in word-clean (b - 1) (omega arith)

-- ---- what is accepted has the form
no_row : (row : List ℕ) → ◌≡◌ {A = Option (List ℕ)} none (some row) → ⊥
no_row row e = let z : ◌≡◌ {A = ℕ} 0 1 = cc in omega arith

same_row : (a b : List ℕ) → ◌≡◌ {A = Option (List ℕ)} (some a) (some b) → b ≡ a
same_row a b e = cc

of_cells : (l m p : List ℕ) (n a b : ℕ) (cs : List (List ℕ)) (row : List ℕ) → Numbered l n → (word_at a ≡ m) × (a < 16)
    → (plane_text b ≡ p) × (plane_ok b ≡ true)
    → from_cells n a b cs ≡ some row
    → FieldsForm (l ∷ m ∷ p ∷ cs) row
unfolding from_cells cells_ok
of_cells l m p n a b cs row x y z e = go (cells_ok cs) refl e
  where
    go : (t : Bool) → cells_ok cs ≡ t → cond t (some (row_of n a b 0 0 (cells_in cs))) none ≡ some row → FieldsForm (l ∷ m ∷ p ∷ cs) row
    go false h e = absurd (no_row row e)
    go true h e =
        let c = and_right (eqb (length cs) column_count) (all column_count (λ (i : ℕ). cell_ok (get_or cs i []))) h in
        record {
          line_field = l;
          motion_field = m;
          plane_field = p;
          cell_fields = cs;
          line = n;
          motion = a;
          plane = b;
          parts = refl;
          count = eqb-true (length cs) column_count (and_left (eqb (length cs) column_count) (all column_count (λ (i : ℕ). cell_ok (get_or cs i []))) h);
          line-is = x;
          motion-is = y;
          plane-is = z;
          cells_are = λ (i : ℕ) (k : i < column_count). cell-form (get_or cs i []) (all-at column_count (λ (i : ℕ). cell_ok (get_or cs i [])) i c k);
          row_is = same_row (row_of n a b 0 0 (cells_in cs)) row e;
        }

of_plane : (l m : List ℕ) (n a : ℕ) (fs : List (List ℕ)) (row : List ℕ) → Numbered l n → (word_at a ≡ m) × (a < 16) → from_plane n a fs ≡ some row
    → FieldsForm (l ∷ m ∷ fs) row
of_plane l m n a [] row x y e = absurd (no_row row e)
of_plane l m n a (p ∷ fs) row x y e = go (plane_of p) refl e
  where
    go : (f : Read ℕ) → plane_of p ≡ f → coded f (λ (c : ℕ). from_cells n a c fs) ≡ some row → FieldsForm (l ∷ m ∷ p ∷ fs) row
    go None h e = absurd (no_row row e)
    go (Some b) h e = of_cells l m p n a b fs row x y (plane-ok p b h) e

of_motion : (l : List ℕ) (n : ℕ) (fs : List (List ℕ)) (row : List ℕ) → Numbered l n → from_motion n fs ≡ some row → FieldsForm (l ∷ fs) row
of_motion l n [] row x e = absurd (no_row row e)
of_motion l n (m ∷ fs) row x e = go (motion_of m) refl e
  where
    go : (f : Read ℕ) → motion_of m ≡ f → coded f (λ (c : ℕ). from_plane n c fs) ≡ some row → FieldsForm (l ∷ m ∷ fs) row
    go None h e = absurd (no_row row e)
    go (Some a) h e = of_plane l m n a fs row x (motion-only m a h) e

of_line : (fs : List (List ℕ)) (row : List ℕ) → from_line fs ≡ some row → FieldsForm fs row
of_line [] row e = absurd (no_row row e)
of_line (l ∷ fs) row e = go (line_number l) refl e
  where
    go : (f : Read ℕ) → line_number l ≡ f → numbered f (λ (n : ℕ). from_motion n fs) ≡ some row → FieldsForm (l ∷ fs) row
    go None h e = absurd (no_row row e)
    go (Some n) h e = of_motion l n fs row (line_read_form l n h) e

-- The reader accepts nothing else: what it takes has the form of the layout, and is that row.
pub accepted-has-form : (t row : List ℕ) → read_row t ≡ some row → RowForm t row
unfolding read_row
accepted-has-form t row e = record { fields = parted t; text = sym (joined-parted t); form = of_line (parted t) row e }

-- ---- what has the form is accepted
clean_list : (cs : List (List ℕ)) → ((i : ℕ) → i < length cs → T (clean (get_or cs i []))) → T (clean_all cs)
clean_list [] h = tt
clean_list (c ∷ cs) h = and_i (clean c) (clean_all cs) (h 0 (omega arith)) (clean_list cs (λ (i : ℕ) (l : i < length cs). h (suc i) (omega arith)))

pub fields_read : (fs : List (List ℕ)) (row : List ℕ) → FieldsForm fs row → from_line fs ≡ some row
unfolding from_cells cells_ok
fields_read fs row f =
    let cs = f.cell_fields in
    let ok : cells_ok cs ≡ true =
    both (eq-eqb (length cs) column_count f.count)
    (all_intro column_count (λ (i : ℕ). cell_ok (get_or cs i []))
    (λ (i : ℕ) (k : i < column_count). (form-cell (get_or cs i []) (given (get_or cs i [])) (f.cells_are i k)).0)) in
    ap from_line f.parts
    ∙ ap (λ (x : Read ℕ). numbered x (λ (n : ℕ). from_motion n (f.motion_field ∷ f.plane_field ∷ cs))) (line-form_read f.line_field f.line f.line-is)
    ∙ ap (λ (x : Read ℕ). coded x (λ (c : ℕ). from_plane f.line c (f.plane_field ∷ cs)))
    (ap motion_of (sym f.motion-is.0) ∙ motion-again f.motion f.motion-is.1)
    ∙ ap (λ (x : Read ℕ). coded x (λ (c : ℕ). from_cells f.line f.motion c cs))
    (ap plane_of (sym f.plane-is.0) ∙ plane_is_read f.plane f.plane-is.1)
    ∙ ap (λ (b : Bool). cond b (some (row_of f.line f.motion f.plane 0 0 (cells_in cs))) none) ok
    ∙ ap some (sym f.row_is)

pub fields-clean : (fs : List (List ℕ)) (row : List ℕ) (f : FieldsForm fs row)
    → T (clean f.line_field) × T (clean_all (f.motion_field ∷ f.plane_field ∷ f.cell_fields))
fields-clean fs row f =
    let m : T (clean f.motion_field) = subst (λ (w : List ℕ). T (clean w)) f.motion-is.0 (word-clean f.motion (omega (arith, f.motion-is.1))) in
    let p : T (clean f.plane_field) = subst (λ (w : List ℕ). T (clean w)) f.plane-is.0 (plane-clean f.plane f.plane-is.1) in
    let c : T (clean_all f.cell_fields) =
    clean_list f.cell_fields
    (λ (i : ℕ) (l : i < length f.cell_fields). cell-clean (get_or f.cell_fields i []) (given (get_or f.cell_fields i []))
    (f.cells_are i (subst (λ (n : ℕ). i < n) f.count l))) in
    (digits-clean f.line_field f.line-is.digits, and_i (clean f.motion_field) _ m (and_i (clean f.plane_field) _ p c))

-- The reader accepts all of it: a text of the layout's form is read as its row.
pub form-is-accepted : (t row : List ℕ) → RowForm t row → read_row t ≡ some row
unfolding read_row
form-is-accepted t row r =
    let f = r.form in
    let k = fields-clean r.fields row f in
    let e : parted t ≡ r.fields =
    ap parted (r.text ∙ ap joined f.parts)
    ∙ parted-joined f.line_field (f.motion_field ∷ f.plane_field ∷ f.cell_fields) k.0 k.1
    ∙ sym f.parts in
    ap from_line e ∙ fields_read r.fields row f
