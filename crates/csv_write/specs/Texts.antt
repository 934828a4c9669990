-- LAWS. The texts that are written: how they are put together, and how long they are. Assumes nothing.
use Rattle.std.specs.Prelude.{ℕ, zero, suc, ◌+◌, ◌-◌, ◌*◌, ◌/◌, ◌≤◌, ◌<◌, ◌≡◌, refl, Bool, true, false, cond, ◌&&◌, List, [], ◌∷◌, ◌++◌, ltb, eqb}
use Rattle.std.specs.Prelude.{length, get_or, Float}
use Rattle.std.proofs.Common.{zero-le, sym, ap, ◌∙◌, subst, append_assoc, append-nil, arith, mul-suc, length-append, ltb-true}
use Rattle.std.specs.Float.{binary64}
use Rattle.std.specs.Float.Ieee.{lt, of_bits}
use Rattle.floats.specs.Numbers.{num}
use Rattle.floats.specs.Lists.{upto, flatten, all}
use Rattle.floats.specs.Truth.{and_left, and_right, all-at}
use Rattle.floats.specs.Joins.{flatten_append}
use Rattle.layout.specs.Layout.{r_cells, line_numbers}
use Rattle.row_cells.specs.Codes.{plane_ok}
use Rattle.row_cells.specs.Bits.{has}
use Rattle.row_cells.specs.Row.{line_of, motion_of, plane_of, mark_of, present_of}
use Rattle.csv_decimal.specs.Decimal.{millionths}
use Rattle.csv_figures.specs.Write.{figures, whole_text, millionths_text, number_text, shown}
use Rattle.csv_figures.specs.Figures.{figures-length}
use Rattle.csv_decimal.specs.Widths.{width-ten, width-nine}
use Rattle.csv_figures.specs.Writers.{whole_length}
use Rattle.csv_words.specs.Words.{word_at, plane_text}
use Rattle.csv_words.specs.Table.{short}
use Rattle.csv_line.specs.LineText.{comma, crlf, column_count, code_at, tailed, joined}
use Rattle.csv_line.specs.CodeLaws.{plane-low}
use Rattle.csv_write.specs.Writer.{row_room, cell_text, cell_shown, cell_texts, head_fields, row_fields, mark_text, out_fields, row_text, head_ok, writable}

-- ---- together
pub flatten-more : (f : ℕ → List ℕ) (n : ℕ) → flatten (upto f (suc n)) ≡ flatten (upto f n) ++ f n
unfolding upto flatten
flatten-more f n = flatten_append (upto f n) (f n ∷ []) ∙ ap (λ (l : List ℕ). flatten (upto f n) ++ l) (append-nil (f n))

pub tailed_append : (fs gs : List (List ℕ)) → tailed (fs ++ gs) ≡ tailed fs ++ tailed gs
unfolding tailed
tailed_append [] gs = refl
tailed_append (f ∷ fs) gs =
    ap (λ (l : List ℕ). comma ∷ (f ++ l)) (tailed_append fs gs) ∙ ap (λ (l : List ℕ). comma ∷ l) (sym (append_assoc f (tailed fs) (tailed gs)))

pub tailed-upto : (g : ℕ → List ℕ) (n : ℕ) → tailed (upto g n) ≡ flatten (upto (λ (i : ℕ). comma ∷ g i) n)
unfolding tailed upto flatten
tailed-upto g zero = refl
tailed-upto g (suc n) =
    tailed_append (upto g n) (g n ∷ [])
    ∙ ap (λ (l : List ℕ). l ++ (comma ∷ (g n ++ []))) (tailed-upto g n)
    ∙ sym (flatten_append (upto (λ (i : ℕ). comma ∷ g i) n) ((comma ∷ g n) ∷ []))

pub joined_append : (f : List ℕ) (fs gs : List (List ℕ)) → joined ((f ∷ fs) ++ gs) ≡ joined (f ∷ fs) ++ tailed gs
unfolding joined
joined_append f fs gs = ap (λ (l : List ℕ). f ++ l) (tailed_append fs gs) ∙ sym (append_assoc f (tailed fs) (tailed gs))

pub row-text : (r : List ℕ) → row_text r ≡ joined (head_fields r) ++ (tailed (cell_texts r column_count) ++ (comma ∷ (mark_text r ++ crlf)))
unfolding row_text out_fields row_fields tailed
row-text r =
    let h : List (List ℕ) = word_at (motion_of r) ∷ plane_text (plane_of r) ∷ [] in
    let w : List ℕ = whole_text (line_of r) in
    let cs = cell_texts r column_count in
    let m = mark_text r in
    ap (λ (l : List ℕ). l ++ crlf)
    (joined_append w (h ++ cs) (m ∷ [])
    ∙ ap (λ (l : List ℕ). l ++ (comma ∷ (m ++ []))) (joined_append w h cs)
    ∙ ap (λ (l : List ℕ). (joined (w ∷ h) ++ tailed cs) ++ (comma ∷ l)) (append-nil m))
    ∙ append_assoc (joined (w ∷ h) ++ tailed cs) (comma ∷ m) crlf
    ∙ append_assoc (joined (w ∷ h)) (tailed cs) (comma ∷ (m ++ crlf))

-- ---- lengths
pub several_length : (f : ℕ → List ℕ) (w n : ℕ) → ((i : ℕ) → i < n → length (f i) ≤ w) → length (flatten (upto f n)) ≤ w * n
unfolding upto flatten
several_length f w zero h = zero-le
several_length f w (suc n) h =
    let r = several_length f w n (λ (i : ℕ) (l : i < n). h i (omega arith)) in
    let e : length (flatten (upto f (suc n))) ≡ length (flatten (upto f n)) + length (f n) =
    ap length (flatten-more f n) ∙ length-append (flatten (upto f n)) (f n) in
    omega (arith, h n (omega arith), mul-suc w n)

pub number-length : (x : Float) → shown x ≡ true → length (number_text x) ≤ 17
unfolding number_text millionths_text
number-length x e = go (lt x (of_bits binary64 0) && ltb 0 v)
  where
    v : ℕ
    v = millionths x

    small : millionths x / 1000000 < 1000000000
    small = omega (arith, ltb-true (millionths x) 1000000000000000 e)

    bare : length (whole_text (millionths x / 1000000) ++ (46 ∷ figures 6 (millionths x))) ≤ 16
    bare =
        omega (
          arith,
          length-append (whole_text (millionths x / 1000000)) (46 ∷ figures 6 (millionths x)),
          whole_length (millionths x / 1000000),
          width-nine
              (millionths x / 1000000) small,
          figures-length 6 (millionths x),
        )

    go : (b : Bool)
        → length (cond b (45 ∷ (whole_text (millionths x / 1000000) ++ (46 ∷ figures 6 (millionths x))))
        (whole_text (millionths x / 1000000) ++ (46 ∷ figures 6 (millionths x)))) ≤ 17
    go true = omega (arith, bare)
    go false = omega (arith, bare)

pub cell-length : (r : List ℕ) (i : ℕ) → cell_shown r i ≡ true → length (comma ∷ cell_text r i) ≤ 18
unfolding cell_shown cell_text
cell-length r i e = go (has (present_of r) (code_at i)) e
  where
    x : Float
    x = num (get_or r (r_cells + code_at i) 0)

    go : (b : Bool) → cond b (shown (num (get_or r (r_cells + code_at i) 0))) true ≡ true
        → suc (length (cond b (number_text (num (get_or r (r_cells + code_at i) 0))) [])) ≤ 18
    go true e = omega (arith, number-length (num (get_or r (r_cells + code_at i) 0)) e)
    go false e = omega arith

pub cells-length : (r : List ℕ) → all column_count (cell_shown r) ≡ true → length (tailed (cell_texts r column_count)) ≤ 198
unfolding cell_texts
cells-length r e =
    subst (λ (l : List ℕ). length l ≤ 198) (sym (tailed-upto (cell_text r) column_count))
    (several_length (λ (i : ℕ). comma ∷ cell_text r i) 18 column_count
    (λ (i : ℕ) (l : i < column_count). cell-length r i (all-at column_count (cell_shown r) i e l)))

pub head-length : (r : List ℕ) → motion_of r < 16 → plane_of r < 20 → length (joined (head_fields r)) ≤ 26
unfolding joined tailed
head-length r m p =
    let w : List ℕ = whole_text (line_of r) in
    let a : List ℕ = word_at (motion_of r) in
    let b : List ℕ = plane_text (plane_of r) in
    omega (
      arith,
      length-append w (comma ∷ (a ++ (comma ∷ (b ++ [])))),
      length-append a (comma ∷ (b ++ [])),
      length-append b [],
      whole_length (line_of r),
      width-ten
          (line_of r),
      short (motion_of r) (omega arith),
      short (plane_of r - 1) (omega arith),
    )

pub row-length : (r : List ℕ) → writable r ≡ true → length (row_text r) ≤ row_room
unfolding writable head_ok mark_text
row-length r e =
    let h = and_left (head_ok r) (all column_count (cell_shown r)) e in
    let k = and_right (ltb (line_of r) line_numbers) (ltb (motion_of r) 16 && plane_ok (plane_of r)) h in
    let m = ltb-true (motion_of r) 16 (and_left (ltb (motion_of r) 16) (plane_ok (plane_of r)) k) in
    let p = plane-low (plane_of r) (and_right (ltb (motion_of r) 16) (plane_ok (plane_of r)) k) in
    total r (head-length r m p) (cells-length r (and_right (head_ok r) (all column_count (cell_shown r)) e))
  where
    mark : (b : Bool) → length (cond b [] (49 ∷ []) ++ crlf) ≤ 3
    mark true = omega arith
    mark false = omega arith

    total : (r : List ℕ) → length (joined (head_fields r)) ≤ 26 → length (tailed (cell_texts r column_count)) ≤ 198 → length (row_text r) ≤ row_room
    total r a b =
        let j = joined (head_fields r) in
        let t = tailed (cell_texts r column_count) in
        let z : List ℕ = cond (eqb (mark_of r) 0) [] (49 ∷ []) ++ crlf in
        omega (arith, ap length (row-text r), length-append j (t ++ (comma ∷ z)), length-append t (comma ∷ z), mark (eqb (mark_of r) 0))
