-- LAWS. What the steps of the writer do. Assumes nothing.
use Prim.Native.Nat.{ℕ, zero, suc, ◌+◌, ◌-◌, ◌*◌, ◌/◌, ◌%◌, ◌^◌, ◌≤◌, ◌<◌}
use Rattle.std.specs.Prelude.{◌≡◌, ltb, eqb, length, take, drop, get_or, set, Float, Option, Some, None}
use Rattle.std.proofs.Math.Path.{refl, sym, ap, subst}
use Rattle.std.proofs.Common.{◌∙◌, add-one, add-zero, mul-suc, le_trans, lt-ltb, le-ltb, eq-eqb, ne_eqb, eqb-true}
use mathlib.Core.Bool.{Bool, true, false, cond, ◌&&◌, and-false}
use mathlib.Core.List.{List, [], ◌∷◌, ◌++◌, append-nil, append_assoc}
use native.Mathlib.Omega.{arith}
use Rattle.std.proofs.lemmas.List.Edits.{sets}
use Rattle.std.proofs.Math.Seq.{length-sets}
use Rattle.std.proofs.lemmas.List.{take-set-le}
use Rattle.floats.specs.Numbers.{num}
use Rattle.floats.specs.Lists.{upto, flatten, all}
use Rattle.floats.specs.Truth.{and_i, and_f, all-at, all-fails, all_more}
use Rattle.layout.specs.Layout.{c_offset, r_cells, line_numbers, row_words}
use Rattle.row_cells.specs.Codes.{plane_ok}
use Rattle.row_cells.specs.Bits.{has}
use Rattle.row_cells.specs.Row.{line_of, motion_of, plane_of, mark_of, present_of}
use Rattle.csv_figures.specs.Out.{Wrote, Put}
use Rattle.csv_figures.specs.OutLaws.{wrote_then, wrote-length}
use Rattle.csv_figures.specs.Write.{whole_text, number_text, shown}
use Rattle.csv_decimal.specs.Widths.{width-ten}
use Rattle.csv_figures.specs.Writers.{whole_length}
use Rattle.csv_words.specs.Words.{word_at, plane_text}
use Rattle.csv_words.specs.Table.{short}
use Rattle.csv_line.specs.LineText.{comma, crlf, column_count, code_at, tailed, joined}
use Rattle.csv_line.specs.CodeLaws.{plane-low}
use Rattle.csv_write.specs.declared.Passed.{Passed}
use Rattle.csv_write.specs.Passing.{i_column, f_column, commas, Skipped}
use Rattle.csv_write.specs.Trying.{tried-good, tried_bad}
use Rattle.csv_write.specs.Texts.{flatten-more, tailed-upto, row-text, cells-length, head-length}
use Rattle.csv_write.specs.Writer.{cell_text, cell_shown, cell_texts, head_fields, mark_text, row_text, head_ok, writable, row_at, Tried}

-- ---- a chain of tests whose later one fails
not_right : (a : Bool) {b : Bool} → b ≡ false → (a && b) ≡ false
not_right a p = ap (λ (x : Bool). a && x) p ∙ and-false a

-- ---- what is stored from n on leaves what stands before
pub sets_kept : (t o : List ℕ) (n m : ℕ) → m ≤ n → take m (sets o n t) ≡ take m o
sets_kept [] o n m h = refl
sets_kept (c ∷ t) o n m h = sets_kept t (set o n c) (suc n) m (omega arith) ∙ take-set-le m o n c h

pub wrote_kept : {o o' t : List ℕ} {n r : ℕ} → Wrote o n t o' r → (m : ℕ) → m ≤ n → take m o' ≡ take m o
wrote_kept {o} {o'} {t} {n} {r} w m h = ap (take m) w.text ∙ sets_kept t o n m h

pub tried : {o o' t : List ℕ} {n r : ℕ} {ok : Bool} → ok ≡ true → Wrote o n t o' r → Tried ok t o n o' (Some r)
tried {o} {o'} {t} {n} {r} {ok} e w =
    record { answer = rw e (ap Some w.next); text = λ _. w.text; kept = wrote_kept w; same = wrote-length w }

pub not-tried : {o t : List ℕ} {n : ℕ} {ok : Bool} → ok ≡ false → Tried ok t o n o None
not-tried {o} {t} {n} {ok} e =
    record { answer = rw e; text = λ (h : ok ≡ true). absurd (mathlib.Core.Bool.false≢true (sym e ∙ h)); kept = λ m h. refl; same = refl }

-- ---- a cell
number-tried : {o o₁ o₂ : List ℕ} {n a : ℕ} {r : Option ℕ} (x : Float) → Wrote o n (comma ∷ []) o₁ a → Put x o₁ a o₂ r
    → Tried (shown x) (comma ∷ number_text x) o n o₂ r
number-tried {o} {o₁} {o₂} {n} {a} {r} x w p =
    let t = number_text x in
    let e : a + length t ≡ n + suc (length t) = omega (arith, w.next) in
    record {
      answer = p.answer ∙ ap (λ (k : ℕ). cond (shown x) (Some k) None) e;
      text = λ (h : shown x ≡ true).
          p.text
          ∙ ap (λ (b : Bool). cond b (sets o₁ a t) o₁) h
          ∙ ap (λ (l : List ℕ). sets l a t) w.text
          ∙ ap (λ (k : ℕ). sets (set o n comma) k t) (w.next ∙ add-one n);
      kept = λ (m : ℕ) (h : m ≤ n). ap (take m) p.text ∙ keeps (shown x) m h;
      same = ap length p.text ∙ sized (shown x);
    }
  where
    keeps : (b : Bool) (m : ℕ) → m ≤ n → take m (cond b (sets o₁ a (number_text x)) o₁) ≡ take m o
    keeps true m h = sets_kept (number_text x) o₁ a m (omega (arith, w.next)) ∙ wrote_kept w m h
    keeps false m h = wrote_kept w m h

    sized : (b : Bool) → length (cond b (sets o₁ a (number_text x)) o₁) ≡ length o
    sized true = length-sets o₁ a (number_text x) ∙ wrote-length w
    sized false = wrote-length w

module _ (row : List ℕ) (i code : ℕ) (k : code ≡ code_at i) where
  pub cell-present : {o o₁ o₂ : List ℕ} {n a : ℕ} {r : Option ℕ} → true ≡ has (present_of row) code → Wrote o n (comma ∷ []) o₁ a → (y : Float)
      → y ≡ num (get_or row (r_cells + code) 0) → Put y o₁ a o₂ r
      → Tried (cell_shown row i) (comma ∷ cell_text row i) o n o₂ r
  unfolding cell_shown cell_text
  cell-present {o} {o₁} {o₂} {n} {a} {r} h w y q p =
      rw (← k, ← h) (number-tried (num (get_or row (r_cells + code) 0)) w (subst (λ (z : Float). Put z o₁ a o₂ r) q p))

  pub cell-absent : {o o₁ : List ℕ} {n a : ℕ} → false ≡ has (present_of row) code → Wrote o n (comma ∷ []) o₁ a
      → Tried (cell_shown row i) (comma ∷ cell_text row i) o n o₁ (Some a)
  unfolding cell_shown cell_text
  cell-absent h w = rw (← k, ← h) (tried refl w)

-- ---- a loop over pieces: the first i of them are stored, and each is at most w long
pub record Putting (ok : ℕ → Bool) (f : ℕ → List ℕ) (w : ℕ) (o : List ℕ) (n i : ℕ) (o' : List ℕ) (at : ℕ) : Type 0 where
  pub good : all i ok ≡ true
  pub wrote : Wrote o n (flatten (upto f i)) o' at
  pub room : at ≤ n + w * i
  pub ahead : n ≤ at
  pub same : length o' ≡ length o

module _ (ok : ℕ → Bool) (f : ℕ → List ℕ) (w : ℕ) where
  pub puts_none : (o : List ℕ) (n : ℕ) → Putting ok f w o n 0 o n
  unfolding all upto flatten
  puts_none o n = record { good = refl; wrote = record { next = omega arith; text = refl }; room = omega arith; ahead = omega arith; same = refl }

  pub puts_more : {o o' o'' : List ℕ} {n i at a : ℕ} → Putting ok f w o n i o' at → Tried (ok i) (f i) o' at o'' (Some a)
      → (ok i ≡ true → length (f i) ≤ w) → Putting ok f w o n (i + 1) o'' a
  puts_more {o} {o'} {o''} {n} {i} {at} {a} p t short =
      let k = tried-good t refl in
      let g : ok i ≡ true = k.0 in
      let v : Wrote o' at (f i) o'' a = record { next = k.1; text = t.text g } in
      record {
        good = all_more i ok p.good g;
        wrote = subst (λ (l : List ℕ). Wrote o n l o'' a) (sym (ap (λ (k : ℕ). flatten (upto f k)) (add-one i) ∙ flatten-more f i)) (wrote_then p.wrote v);
        room = omega (arith, p.room, short g, mul-suc w i, ap (λ (k : ℕ). w * k) (add-one i));
        ahead = omega (arith, p.ahead);
        same = t.same ∙ p.same;
      }

  pub puts_not : {o o' o'' : List ℕ} {n i at : ℕ} (k : ℕ) → Putting ok f w o n i o' at → i < k → Tried (ok i) (f i) o' at o'' None
      → Tried (all k ok) (flatten (upto f k)) o n o'' None
  puts_not {o} {o'} {o''} {n} {i} {at} k p h t =
      let g : all k ok ≡ false = all-fails k ok i h (tried_bad t refl) in
      record {
        answer = rw g;
        text = λ (e : all k ok ≡ true). absurd (mathlib.Core.Bool.false≢true (sym g ∙ e));
        kept = λ (m : ℕ) (l : m ≤ n). t.kept m (le_trans l p.ahead) ∙ wrote_kept p.wrote m l;
        same = t.same ∙ p.same;
      }

  -- the same, for an answer that was matched
  pub puts_on : {o o' o'' : List ℕ} {n i at : ℕ} {r : Option ℕ} (a : ℕ) → Putting ok f w o n i o' at → r ≡ Some a → Tried (ok i) (f i) o' at o'' r
      → (ok i ≡ true → length (f i) ≤ w) → Putting ok f w o n (i + 1) o'' a
  puts_on {o} {o'} {o''} {n} {i} {at} {r} a p e t = puts_more p (subst (λ (z : Option ℕ). Tried (ok i) (f i) o' at o'' z) e t)

  pub puts_off : {o o' o'' : List ℕ} {n i at : ℕ} {r : Option ℕ} (k : ℕ) → Putting ok f w o n i o' at → i < k → r ≡ None
      → Tried (ok i) (f i) o' at o'' r
      → Tried (all k ok) (flatten (upto f k)) o n o'' None
  puts_off {o} {o'} {o''} {n} {i} {at} {r} k p h e t = puts_not k p h (subst (λ (z : Option ℕ). Tried (ok i) (f i) o' at o'' z) e t)

  pub puts_all : {o o' : List ℕ} {n i at : ℕ} (k : ℕ) → Putting ok f w o n i o' at → i ≡ k → Tried (all k ok) (flatten (upto f k)) o n o' (Some at)
  puts_all {o} {o'} {n} {i} {at} k p e = subst (λ (j : ℕ). Tried (all j ok) (flatten (upto f j)) o n o' (Some at)) e (tried p.good p.wrote)

-- ---- columns that are passed together
commas-length : (d : ℕ) → length (commas d) ≡ d
unfolding commas
commas-length zero = refl
commas-length (suc d) = ap suc (commas-length d)

commas-more : (d : ℕ) → commas d ++ (comma ∷ []) ≡ commas (suc d)
unfolding commas
commas-more zero = refl
commas-more (suc d) = ap (λ (l : List ℕ). comma ∷ l) (commas-more d)

module _ (row : List ℕ) where
  texts : ℕ → List ℕ
  texts k = comma ∷ cell_text row k

  absent-text : (k : ℕ) → has (present_of row) (code_at k) ≡ false → texts k ≡ comma ∷ []
  unfolding cell_text texts
  absent-text k e = rw e

  absent-shown : (k : ℕ) → has (present_of row) (code_at k) ≡ false → cell_shown row k ≡ true
  unfolding cell_shown
  absent-shown k e = rw e

  passed-text : (i d : ℕ) → ((k : ℕ) → i ≤ k → k < i + d → has (present_of row) (code_at k) ≡ false)
      → flatten (upto texts (i + d)) ≡ flatten (upto texts i) ++ commas d
  unfolding commas
  passed-text i zero a = ap (λ (k : ℕ). flatten (upto texts k)) (add-zero i) ∙ sym (append-nil (flatten (upto texts i)))
  passed-text i (suc d) a =
      let next : i + suc d ≡ suc (i + d) = omega arith in
      ap (λ (k : ℕ). flatten (upto texts k)) next
      ∙ flatten-more texts (i + d)
      ∙ ap (λ (l : List ℕ). flatten (upto texts (i + d)) ++ l) (absent-text (i + d) (a (i + d) (omega arith) (omega arith)))
      ∙ ap (λ (l : List ℕ). l ++ (comma ∷ [])) (passed-text i d (λ (k : ℕ) (h : i ≤ k) (l : k < i + d). a k h (omega arith)))
      ∙ append_assoc (flatten (upto texts i)) (commas d) (comma ∷ [])
      ∙ ap (λ (l : List ℕ). flatten (upto texts i) ++ l) (commas-more d)

  passed-shown : (i d : ℕ) → all i (cell_shown row) ≡ true → ((k : ℕ) → i ≤ k → k < i + d → has (present_of row) (code_at k) ≡ false)
      → all (i + d) (cell_shown row) ≡ true
  passed-shown i zero g a = ap (λ (k : ℕ). all k (cell_shown row)) (add-zero i) ∙ g
  passed-shown i (suc d) g a =
      let next : i + suc d ≡ i + d + 1 = omega arith in
      ap (λ (k : ℕ). all k (cell_shown row)) next
      ∙ all_more (i + d) (cell_shown row) (passed-shown i d g (λ (k : ℕ) (h : i ≤ k) (l : k < i + d). a k h (omega arith)))
      (absent-shown (i + d) (a (i + d) (omega arith) (omega arith)))

  pub puts_past : {o o' o'' : List ℕ} {n i at : ℕ} {r : Passed} → Putting (cell_shown row) (λ (k : ℕ). comma ∷ cell_text row k) 18 o n i o' at
      → Skipped row o' at i o'' r → Putting (cell_shown row) (λ (k : ℕ). comma ∷ cell_text row k) 18 o n r.i o'' r.at
  unfolding texts
  puts_past {o} {o'} {o''} {n} {i} {at} {r} p s =
      let d = r.i - i in
      let e : i + d ≡ r.i = omega (arith, s.ahead) in
      let gone : (k : ℕ) → i ≤ k → k < i + d → has (present_of row) (code_at k) ≡ false =
      λ (k : ℕ) (h : i ≤ k) (l : k < i + d). s.absent k h (omega (arith, s.ahead)) in
      record {
        good = ap (λ (k : ℕ). all k (cell_shown row)) (sym e) ∙ passed-shown i d p.good gone;
        wrote =
            subst (λ (l : List ℕ). Wrote o n l o'' r.at) (sym (passed-text i d gone) ∙ ap (λ (k : ℕ). flatten (upto texts k)) e)
            (wrote_then p.wrote s.wrote);
        room = omega (arith, p.room, s.wrote.next, commas-length d, s.ahead);
        ahead = omega (arith, p.ahead, s.wrote.next);
        same = wrote-length s.wrote ∙ p.same;
      }

-- no column from I to SD is present
bit-off : (m j : ℕ) → m / 2 ^ c_offset % 128 ≡ 0 → j < 7 → has m (j + c_offset) ≡ false
unfolding has
bit-off m zero h l = ne_eqb (m / 2 ^ c_offset % 2) 1 (λ e. omega arith)
bit-off m (suc zero) h l = ne_eqb (m / 2 ^ (c_offset + 1) % 2) 1 (λ e. omega arith)
bit-off m (suc (suc zero)) h l = ne_eqb (m / 2 ^ (c_offset + 2) % 2) 1 (λ e. omega arith)
bit-off m (suc (suc (suc zero))) h l = ne_eqb (m / 2 ^ (c_offset + 3) % 2) 1 (λ e. omega arith)
bit-off m (suc (suc (suc (suc zero)))) h l = ne_eqb (m / 2 ^ (c_offset + 4) % 2) 1 (λ e. omega arith)
bit-off m (suc (suc (suc (suc (suc zero))))) h l = ne_eqb (m / 2 ^ (c_offset + 5) % 2) 1 (λ e. omega arith)
bit-off m (suc (suc (suc (suc (suc (suc zero)))))) h l = ne_eqb (m / 2 ^ (c_offset + 6) % 2) 1 (λ e. omega arith)
bit-off m (suc (suc (suc (suc (suc (suc (suc j))))))) h l = absurd (omega arith)

middle-codes : all 7 (λ (j : ℕ). eqb (code_at (j + i_column)) (j + c_offset)) ≡ true
unfolding all
middle-codes = refl

pub offsets_off : (m : ℕ) → m / 2 ^ c_offset % 128 ≡ 0 → (k : ℕ) → i_column ≤ k → k < f_column → has m (code_at k) ≡ false
offsets_off m h k a b = go (k - i_column) (back k a) (omega arith)
  where
    back : (k : ℕ) → i_column ≤ k → k - i_column + i_column ≡ k
    back k a = omega arith

    go : (j : ℕ) → j + i_column ≡ k → j < 7 → has m (code_at k) ≡ false
    go j e l =
        ap (λ (c : ℕ). has m (code_at c)) (sym e)
        ∙ ap (has m) (eqb-true (code_at (j + i_column)) (j + c_offset) (all-at 7 (λ (j : ℕ). eqb (code_at (j + i_column)) (j + c_offset)) j middle-codes l))
        ∙ bit-off m j h l

-- ---- `pass_offsets`
pub skips_none : (row o : List ℕ) (n i : ℕ) → i < column_count → Skipped row o n i o (record { at = n; i = i })
unfolding commas
skips_none row o n i h =
    let z : i - i ≡ 0 = omega arith in
    record {
      ahead = omega arith;
      below = h;
      absent = λ (k : ℕ) (a : i ≤ k) (b : k < i). absurd (omega arith);
      wrote = subst (λ (d : ℕ). Wrote o n (commas d) o n) (sym z) (record { next = omega arith; text = refl });
    }

pub skips_offsets : {row o o' : List ℕ} {n at i : ℕ} → i ≡ i_column → true ≡ eqb (present_of row / 2 ^ c_offset % 128) 0
    → Wrote o n (comma ∷ comma ∷ comma ∷ comma ∷ comma ∷ comma ∷ comma ∷ []) o' at
    → Skipped row o n i o' (record { at = at; i = f_column })
unfolding commas
skips_offsets {row} {o} {o'} {n} {at} {i} e h w =
    let z : f_column - i ≡ 7 = omega arith in
    let off : present_of row / 2 ^ c_offset % 128 ≡ 0 = eqb-true (present_of row / 2 ^ c_offset % 128) 0 (sym h) in
    record {
      ahead = omega arith;
      below = omega arith;
      absent = λ (k : ℕ) (a : i ≤ k) (b : k < f_column). offsets_off (present_of row) off k (omega arith) b;
      wrote = subst (λ (d : ℕ). Wrote o n (commas d) o' at) (sym z) w;
    }

-- ---- the whole line
pub cells-tried : {o o' : List ℕ} {n : ℕ} {r : Option ℕ} (row : List ℕ)
    → Tried (all column_count (cell_shown row)) (flatten (upto (λ (i : ℕ). comma ∷ cell_text row i) column_count)) o n o' r
    → Tried (all column_count (cell_shown row)) (tailed (cell_texts row column_count)) o n o' r
unfolding cell_texts
cells-tried {o} {o'} {n} {r} row t =
    subst (λ (l : List ℕ). Tried (all column_count (cell_shown row)) l o n o' r) (sym (tailed-upto (cell_text row) column_count)) t

pub in_five : {o o₁ o₂ o₃ o₄ o₅ : List ℕ} {n a b c d e : ℕ} (row : List ℕ) → Wrote o n (whole_text (line_of row)) o₁ a → Wrote o₁ a (comma ∷ []) o₂ b
    → Wrote o₂ b (word_at (motion_of row)) o₃ c → Wrote o₃ c (comma ∷ []) o₄ d
    → Wrote o₄ d (plane_text (plane_of row)) o₅ e → Wrote o n (joined (head_fields row)) o₅ e
unfolding joined tailed
in_five {o} {o₁} {o₂} {o₃} {o₄} {o₅} {n} {a} {b} {c} {d} {e} row u v w x y =
    subst (λ (l : List ℕ). Wrote o n (whole_text (line_of row) ++ (comma ∷ (word_at (motion_of row) ++ (comma ∷ l)))) o₅ e)
    (sym (append-nil (plane_text (plane_of row)))) (wrote_then u (wrote_then v (wrote_then w (wrote_then x y))))

-- the room that is left behind each piece
module _ {o o₁ : List ℕ} {n a : ℕ} (v : ℕ) (h : n + 26 ≤ length o) (u : Wrote o n (whole_text v) o₁ a) where
  pub room_1 : a < length o₁
  room_1 = omega (arith, u.next, whole_length v, width-ten v, wrote-length u)

  module _ {o₂ : List ℕ} {b : ℕ} (w : Wrote o₁ a (comma ∷ []) o₂ b) where
    pub room_2 : b + 7 ≤ length o₂
    room_2 = omega (arith, u.next, whole_length v, width-ten v, wrote-length u, w.next, wrote-length w)

    module _ {o₃ : List ℕ} {c : ℕ} (i : ℕ) (m : i < 16) (y : Wrote o₂ b (word_at i) o₃ c) where
      pub room_3 : c < length o₃
      room_3 = omega (arith, u.next, whole_length v, width-ten v, wrote-length u, w.next, wrote-length w, y.next, wrote-length y, short i (omega arith))

      pub room_4 : {o₄ : List ℕ} {d : ℕ} → Wrote o₃ c (comma ∷ []) o₄ d → d + 7 ≤ length o₄
      room_4 z =
          omega (
            arith,
            u.next,
            whole_length v,
            width-ten v,
            wrote-length u,
            w.next,
            wrote-length w,
            y.next,
            wrote-length y,
            short i (omega arith),
            z.next,
            wrote-length z,
          )

pub unmarked : {o o₁ o₂ : List ℕ} {n a r : ℕ} (row : List ℕ) → mark_of row ≡ 0 → Wrote o n (comma ∷ []) o₁ a → Wrote o₁ a crlf o₂ r
    → Wrote o n (comma ∷ (mark_text row ++ crlf)) o₂ r
unfolding mark_text
unmarked row e u v = rw (eq-eqb (mark_of row) 0 e) (wrote_then u v)

pub marked : {o o₁ o₂ o₃ : List ℕ} {n a b r : ℕ} (row : List ℕ) → (mark_of row ≡ 0 → ⊥) → Wrote o n (comma ∷ []) o₁ a → Wrote o₁ a (49 ∷ []) o₂ b
    → Wrote o₂ b crlf o₃ r
    → Wrote o n (comma ∷ (mark_text row ++ crlf)) o₃ r
unfolding mark_text
marked row e u v w = rw (ne_eqb (mark_of row) 0 e) (wrote_then u (wrote_then v w))

module _ (row o : List ℕ) (n : ℕ) where
  pub line-high : line_numbers ≤ line_of row → Tried (writable row) (row_text row) o n o None
  unfolding writable head_ok
  line-high h = not-tried (and_f _ (and_f _ (le-ltb (line_of row) line_numbers h)))

  pub motion-high : 16 ≤ motion_of row → Tried (writable row) (row_text row) o n o None
  unfolding writable head_ok
  motion-high h = not-tried (and_f _ (not_right (ltb (line_of row) line_numbers) (and_f _ (le-ltb (motion_of row) 16 h))))

  pub no-plane : plane_ok (plane_of row) ≡ false → Tried (writable row) (row_text row) o n o None
  unfolding writable head_ok
  no-plane h = not-tried (and_f _ (not_right (ltb (line_of row) line_numbers) (not_right (ltb (motion_of row) 16) h)))

  module _ (l : line_of row < line_numbers) (m : motion_of row < 16) (p : plane_ok (plane_of row) ≡ true) where
    head-fine : head_ok row ≡ true
    unfolding head_ok
    head-fine = and_i (lt-ltb (line_of row) line_numbers l) (and_i (lt-ltb (motion_of row) 16 m) p)

    pub behind-head : {o₁ : List ℕ} {a : ℕ} → Wrote o n (joined (head_fields row)) o₁ a → a ≤ n + 26
    behind-head w = omega (arith, w.next, head-length row m (plane-low (plane_of row) p))

    pub number-refused : {o₁ o₂ : List ℕ} {a : ℕ} {r : Option ℕ} → Wrote o n (joined (head_fields row)) o₁ a → r ≡ None
        → Tried (all column_count (cell_shown row)) (tailed (cell_texts row column_count)) o₁ a o₂ r
        → Tried (writable row) (row_text row) o n o₂ None
    unfolding writable
    number-refused {o₁} {o₂} {a} {r} w q t =
        let g : writable row ≡ false = not_right (head_ok row) (tried_bad t q) in
        record {
          answer = rw g;
          text = λ (e : writable row ≡ true). absurd (mathlib.Core.Bool.false≢true (sym g ∙ e));
          kept = λ (k : ℕ) (h : k ≤ n). t.kept k (omega (arith, w.next)) ∙ wrote_kept w k h;
          same = t.same ∙ wrote-length w;
        }

    cells-wrote : {o₁ o₂ : List ℕ} {a b : ℕ} {r : Option ℕ} → r ≡ Some b
        → Tried (all column_count (cell_shown row)) (tailed (cell_texts row column_count)) o₁ a o₂ r
        → (all column_count (cell_shown row) ≡ true) × Wrote o₁ a (tailed (cell_texts row column_count)) o₂ b
    cells-wrote q t = let g = tried-good t q in (g.0, record { next = g.1; text = t.text g.0 })

    pub behind-cells : {o₁ o₂ : List ℕ} {a b : ℕ} {r : Option ℕ} → Wrote o n (joined (head_fields row)) o₁ a → r ≡ Some b
        → Tried (all column_count (cell_shown row)) (tailed (cell_texts row column_count)) o₁ a o₂ r
        → (b ≤ n + 224) × (length o₂ ≡ length o)
    behind-cells w q t = let c = cells-wrote q t in (omega (arith, c.1.next, behind-head w, cells-length row c.0), t.same ∙ wrote-length w)

    pub row_written : {o₁ o₂ o₃ : List ℕ} {a b c : ℕ} {r : Option ℕ} → Wrote o n (joined (head_fields row)) o₁ a → r ≡ Some b
        → Tried (all column_count (cell_shown row)) (tailed (cell_texts row column_count)) o₁ a o₂ r
        → Wrote o₂ b (comma ∷ (mark_text row ++ crlf)) o₃ c → Tried (writable row) (row_text row) o n o₃ (Some c)
    unfolding writable
    row_written {o₁} {o₂} {o₃} {a} {b} {c} {r} w q t z =
        let k = cells-wrote q t in
        tried (and_i head-fine k.0) (subst (λ (x : List ℕ). Wrote o n x o₃ c) (sym (row-text row)) (wrote_then w (wrote_then k.1 z)))

-- ---- rows one after another
pub row-part : (rows : List ℕ) (i from to : ℕ) → from ≡ i * row_words → to ≡ from + row_words → take (to - from) (drop from rows) ≡ row_at rows i
row-part rows i from to e f = let k : to - from ≡ row_words = omega arith in ap (λ (z : ℕ). take z (drop from rows)) k ∙ ap
    (λ (z : ℕ). take row_words (drop z rows)) e

pub part-tried : {o o' : List ℕ} {n : ℕ} {r : Option ℕ} (rows : List ℕ) (i from to : ℕ) → from ≡ i * row_words → to ≡ from + row_words
    → Tried (writable (take (to - from) (drop from rows))) (row_text (take (to - from) (drop from rows))) o n o' r
    → Tried (writable (row_at rows i)) (row_text (row_at rows i)) o n o' r
part-tried {o} {o'} {n} {r} rows i from to e f t = subst (λ (z : List ℕ). Tried (writable z) (row_text z) o n o' r) (row-part rows i from to e f) t
