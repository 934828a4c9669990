-- LAWS. A line that is longer than any row is refused, whatever stands in it: a buffer that it fills is refused as the whole line is. Assumes nothing.
use Prim.Native.Nat.{ℕ, suc, ◌+◌, ◌-◌, ◌*◌, ◌≤◌, ◌<◌, zero-le}
use Rattle.std.specs.Prelude.{◌≡◌, Bool, true, false, cond, eqb, leb, length, take, drop, get_or, Option as Read, Some, None}
use Rattle.std.proofs.Math.Path.{refl}
use Rattle.std.proofs.Common.{sym, ap, ◌∙◌, arith, mul-suc, length-append, length-take-le, leb-true, leb-false}
use Rattle.std.proofs.lemmas.Bool.{false≢true}
use mathlib.Core.List.{List, [], ◌∷◌, ◌++◌, append-nil}
use Rattle.std.proofs.Math.Option.{Option, none, some}
use Rattle.csv_numbers.specs.Grammar.{Unsigned, plain, point, bare, minus}
use Rattle.csv_words.specs.Table.{short}
use Rattle.csv_words.specs.Words.{same}
use Rattle.csv_line.specs.LineText.{tailed, joined, end_of}
use Rattle.csv_header.specs.Header.{header}
use Rattle.floats.specs.Truth.{and_right}
use Rattle.csv_line.specs.CodeLaws.{plane-low}
use Rattle.csv_cells.specs.Cells.{given}
use Rattle.csv_read.specs.Reader.{read_row}
use Rattle.csv_forms.specs.Forms.{CellForm, absent, present, FieldsForm}
use Rattle.csv_forms.proofs.RowForms.{accepted-has-form}
use Rattle.csv_out.specs.Say.{refusal, heading}
use Rattle.text_cut.specs.Cut.{lf, cut, rest_from}
use Rattle.csv_spec.specs.Line.{Stand, Step, unread, on_text, on_end, counted, csv_line}
use Rattle.csv_spec.specs.LineLaws.{end-at, end-left}
use Rattle.csv_spec.specs.Csv.{and_then, csv_rest, begun, Whole, csv_spec}
use Rattle.csv_spec.proofs.CsvLaws.{rest-line, rest_end, rest-refused, then-still}
use Rattle.csv_laws.specs.Output.{lines_said, longest_row}
use Rattle.csv_laws.specs.Refusals.{whole, whole-lines}

-- ---- how long the text of a row is
unsigned-short : {t : List ℕ} {n k : ℕ} → Unsigned t n k → length t ≤ 16
unsigned-short (plain w d l h) = omega arith
unsigned-short (point w f d l h e m i) = omega (arith, length-append w (46 ∷ f))

cell-short : (f : List ℕ) (o : _) → CellForm f o → length f ≤ 17
cell-short f o absent = zero-le
cell-short f o (present (bare u)) = omega (arith, unsigned-short u)
cell-short f o (present (minus u)) = omega (arith, unsigned-short u)

cells-short : (fs : List (List ℕ)) → ((i : ℕ) → i < length fs → length (get_or fs i []) ≤ 17) → length (tailed fs) ≤ 18 * length fs
unfolding tailed
cells-short [] h = zero-le
cells-short (f ∷ fs) h =
    let r = cells-short fs (λ (i : ℕ) (l : i < length fs). h (suc i) (omega arith)) in
    omega (arith, r, h 0 (omega arith), length-append f (tailed fs), mul-suc 18 (length fs))

fields-short : (fs : List (List ℕ)) (row : List ℕ) → FieldsForm fs row → length (joined fs) ≤ longest_row
unfolding joined tailed
fields-short fs row f =
    let l = f.line_field in
    let m = f.motion_field in
    let p = f.plane_field in
    let cs = f.cell_fields in
    let low = plane-low f.plane f.plane-is.1 in
    let cells =
    cells-short cs
    (λ (i : ℕ) (h : i < length cs). cell-short (get_or cs i []) (given (get_or cs i [])) (f.cells_are i (omega (arith, h, f.count)))) in
    omega (
      arith,
      ap (λ (x : List (List ℕ)). length (joined x)) f.parts,
      length-append l (44 ∷ (m ++ (44 ∷ (p ++ tailed cs)))),
      length-append m (44 ∷ (p ++ tailed cs)),
      length-append p (tailed cs),
      f.line-is.few,
      ap length f.motion-is.0,
      short f.motion (omega (arith, f.motion-is.1)),
      ap length f.plane-is.0,
      short (f.plane - 1) (omega arith),
      cells,
      f.count,
    )

row-short : (t row : List ℕ) → read_row t ≡ some row → length t ≤ longest_row
row-short t row e = let f = accepted-has-form t row e in omega (arith, ap length f.text, fields-short f.fields row f.form)

long-no-row : (t : List ℕ) → longest_row < length t → read_row t ≡ none
long-no-row t h = go (read_row t) refl
  where
    go : (o : Option (List ℕ)) → read_row t ≡ o → read_row t ≡ none
    go none e = e
    go (some row) e = absurd (omega (arith, row-short t row e))

same_length : (a b : List ℕ) → same a b ≡ true → length a ≡ length b
same_length [] [] e = refl
same_length [] (c ∷ t) e = absurd (false≢true e)
same_length (a ∷ s) [] e = absurd (false≢true e)
same_length (a ∷ s) (c ∷ t) e = ap suc (same_length s t (and_right (eqb a c) (same s t) e))

long-no-header : (t : List ℕ) → longest_row < length t → same header t ≡ false
long-no-header t h = go (same header t) refl
  where
    go : (b : Bool) → same header t ≡ b → same header t ≡ false
    go true e = let n : length header ≡ 65 = refl in absurd (omega (arith, same_length header t e))
    go false e = e

-- ---- a long line is refused as text that cannot be read
long-text : (s : Stand) (t : List ℕ) → longest_row < length t → on_text s t ≡ unread s
unfolding on_text unread heading
long-text s t h = rw (long-no-header t h, long-no-row t h) (go (eqb s.physical 1))
  where
    go : (b : Bool) → cond b (unread s) (unread s) ≡ unread s
    go true = refl
    go false = refl

long-end : (s : Stand) (l : List ℕ) → longest_row + 2 < length l → on_end s l (end_of l) ≡ unread s
long-end s l h = go (end_of l) refl
  where
    go : (x : Read ℕ) → end_of l ≡ x → on_end s l x ≡ unread s
    go None e = refl
    go (Some n) e =
        let k : n ≡ length l - 2 = end-at l e in
        long-text s (take n l) (omega (arith, length-take-le n l (omega arith)))

long-line : (s : Stand) (l : List ℕ) → longest_row + 2 < length l → csv_line s l ≡ counted (unread s)
unfolding csv_line
long-line s l h = ap counted (long-end s l h)

-- ---- u has no LF, and is longer than a row and its end
cut-more : (u v : List ℕ) → length u < cut u → cut (u ++ v) ≡ length u + cut v
unfolding cut
cut-more [] v h = omega arith
cut-more (c ∷ u) v h = go (eqb c lf) h (cut-more u v)
  where
    go : (b : Bool) → suc (length u) < cond b 1 (suc (cut u)) → (length u < cut u → cut (u ++ v) ≡ length u + cut v)
        → cond b 1 (suc (cut (u ++ v))) ≡ suc (length u) + cut v
    go true h r = absurd (omega arith)
    go false h r = let e = r (omega arith) in omega arith

cut-some : (v : List ℕ) → 1 ≤ cut v
unfolding cut
cut-some [] = omega arith
cut-some (c ∷ v) = go (eqb c lf)
  where
    go : (b : Bool) → 1 ≤ cond b 1 (suc (cut v))
    go true = omega arith
    go false = omega arith

module _ (s : Stand) (u : List ℕ) (f : s.refused ≡ false) (h : length u < cut u) (k : longest_row + 2 ≤ length u) where
  -- what stands behind u is of no account
  long_rest : (later : List ℕ) → whole (csv_rest s (u ++ later)) ≡ whole (unread s)
  unfolding unread refusal
  long_rest later = go (leb (cut v) (length v)) refl
    where
      v : List ℕ
      v = u ++ later

      long : longest_row + 2 < cut (u ++ later)
      long = omega (arith, cut-more u later h, cut-some later)

      line : cut (u ++ later) ≤ length (u ++ later) → whole (csv_rest s (u ++ later)) ≡ whole (unread s)
      line w =
          let l = take (cut (u ++ later)) (u ++ later) in
          let d = long-line s l (omega (arith, long, length-take-le (cut (u ++ later)) (u ++ later) w)) in
          let rest = drop (cut (u ++ later)) (u ++ later) ++ [] in
          ap (λ (x : List ℕ). whole (csv_rest s x)) (sym (append-nil (u ++ later)))
          ∙ ap whole
          (rest-line (u ++ later) [] w s f
          ∙ ap (λ (x : Step). and_then x (csv_rest x.stand rest)) d
          ∙ ap (λ (x : Step). and_then (counted (unread s)) x) (rest-refused (counted (unread s)).stand rest refl)
          ∙ then-still (counted (unread s)))

      none-there : length (u ++ later) < cut (u ++ later) → whole (csv_rest s (u ++ later)) ≡ whole (unread s)
      none-there w =
          ap whole
          (rest_end s (u ++ later) f w
          ∙ end-left s (length (u ++ later)) (λ (z : length (u ++ later) ≡ 0). absurd (omega (arith, k, length-append u later))))

      go : (b : Bool) → leb (cut (u ++ later)) (length (u ++ later)) ≡ b → whole (csv_rest s (u ++ later)) ≡ whole (unread s)
      go true e = line (leb-true (cut (u ++ later)) (length (u ++ later)) e)
      go false e = none-there (leb-false (cut (u ++ later)) (length (u ++ later)) e)

-- 7.15: whole lines that were not refused, and then at least 226 bytes without an LF: whatever comes behind them, the run is refused there, and
-- says what it says where the input ends
pub long-refused : (a u later : List ℕ) → rest_from [] a ≡ [] → (lines_said a).stand.refused ≡ false → length u < cut u → longest_row + 2 ≤ length u
    → csv_spec (a ++ (u ++ later)) ≡ csv_spec (a ++ u)
unfolding csv_spec
long-refused a u later e f h k =
    let d = lines_said a in
    let s = d.stand in
    let behind : Whole → Whole = λ (w : Whole). record { out = d.out ++ w.out; err = d.err ++ w.err; refused = w.refused } in
    ap whole (whole-lines begun a (u ++ later) e)
    ∙ ap behind
    (long_rest s u f h k later ∙ sym (long_rest s u f h k []) ∙ ap (λ (x : List ℕ). whole (csv_rest s x)) (append-nil u))
    ∙ ap whole (sym (whole-lines begun a u e))
