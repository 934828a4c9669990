-- LAWS. One pass over the marks, a told call, and the try word, as the code comes to them. Assumes nothing.
use Rattle.std.specs.Prelude.{ℕ, ◌+◌, ◌*◌, ◌/◌, ◌≤◌, ◌<◌, ◌≡◌, refl, Bool, true, false, cond, not, ◌||◌, List, leb, eqb, length, get_or, Option, Some, None}
use Rattle.std.proofs.Math.Path.{sym}
use Rattle.std.proofs.Common.{◌∙◌, ap, ⊎_elim, eq-or-lt_of_le, arith, get_or-drop}
use borrow.Author.Tests.{le-leb, lt-leb, eq-eqb, ne_eqb}
use Rattle.floats.specs.Lists.{all}
use Rattle.floats.specs.Truth.{and_t, and_f, cond-t, cond-f, all_more, all-fails, by_bit}
use Rattle.layout.specs.Layout.{row_words, r_mark}
use Rattle.row_cells.specs.Bits.{has}
use Rattle.tally_words.specs.Words.{most_warning, most_code, b_closed, b_first, b_final, b_failing, bit, count_if}
use Rattle.tally_words.specs.Counting.{count-step, count_small}
use Rattle.tally_call.specs.Calls.{k_close, mark_at, marks_in, rows_ok, told_ok, call_of, fails, closes, try_number, try_after}
use Rattle.tally_call.specs.Told.{marks_of, lent_marks, told_call}
use Rattle.tally_call.specs.declared.Call.{Call}

pub mark-word : (rows : List ℕ) (i : ℕ) → get_or rows (i * row_words + r_mark) 0 ≡ mark_at rows i
mark-word rows i = sym (get_or-drop (i * row_words) rows r_mark 0)

-- ---- one pass over the marks: those of the first i are marks, and r of them are set
pub record Marked (rows : List ℕ) (i r : ℕ) : Type 0 where
  pub good : all i (λ (k : ℕ). leb (mark_at rows k) 1) ≡ true
  pub is : r ≡ count_if (λ (k : ℕ). eqb (mark_at rows k) 1) i

pub marked-none : (rows : List ℕ) → Marked rows 0 0
unfolding all count_if
marked-none rows = record { good = refl; is = refl }

-- a mark counts as what it is
mark-bit : (m : ℕ) → m ≤ 1 → m ≡ bit (eqb m 1)
mark-bit m h = ⊎_elim
    (λ (e : m ≡ 1). e ∙ sym (cond-t 1 0 (eq-eqb m 1 e)))
    (λ (l : m < 1). let z : m ≡ 0 = omega arith in let n : (m ≡ 1 → ⊥) = λ e. absurd (omega arith) in z ∙ sym (cond-f 1 0 (ne_eqb m 1 n)))
    (eq-or-lt_of_le {n = m} {m = 1} h)

pub marked_more : {rows : List ℕ} {i r m : ℕ} → Marked rows i r → m ≡ mark_at rows i → m ≤ 1 → Marked rows (i + 1) (r + m)
marked_more {rows} {i} {r} {m} h e l = record {
  good = all_more i (λ (k : ℕ). leb (mark_at rows k) 1) h.good (le-leb (mark_at rows i) 1 (rw (← e) l));
  is = count-step (λ (k : ℕ). eqb (mark_at rows k) 1) i r m h.is (mark-bit m l ∙ ap (λ (x : ℕ). bit (eqb x 1)) e);
}

pub marked-small : {rows : List ℕ} {i r : ℕ} → Marked rows i r → r ≤ i
marked-small {rows} {i} {r} h = count_small (λ (k : ℕ). eqb (mark_at rows k) 1) i r h.is

pub marks-good : {rows : List ℕ} {i r n : ℕ} → Marked rows i r → i ≡ n → Some r ≡ marks_of rows n
unfolding marks_of marks_in
marks-good {rows} {i} {r} {n} h e = rw (← e) (ap Some h.is ∙ sym (cond-t _ _ h.good))

pub marks_bad : (rows : List ℕ) {i n m : ℕ} → i < n → m ≡ mark_at rows i → 1 < m → None ≡ marks_of rows n
unfolding marks_of
marks_bad rows {i} {n} {m} l e b =
    sym (cond-f _ _ (all-fails n (λ (k : ℕ). leb (mark_at rows k) 1) i l (lt-leb (mark_at rows i) 1 (rw (← e) b))))

-- ---- the rows that an accepted call says it wrote
pub lent-few : (rows : List ℕ) {count whole : ℕ} → whole ≡ length rows / row_words → whole < count → None ≡ lent_marks count rows
unfolding lent_marks rows_ok
lent-few rows {count} {whole} e l = sym (cond-f _ _ (and_f _ (lt-leb count _ (rw (← e) l))))

pub lent-some : (rows : List ℕ) {count whole : ℕ} {r : Option ℕ} → whole ≡ length rows / row_words → count ≤ whole → r ≡ marks_of rows count
    → r ≡ lent_marks count rows
unfolding lent_marks rows_ok marks_of
lent-some rows {count} {whole} {r} e l h = h ∙ rw (le-leb count (length rows / row_words) (rw (← e) l))

-- ---- the call that told numbers are
abbrev accepted_by : ℕ → ℕ → ℕ → ℕ → Option ℕ → Option Call
accepted_by kind code count warning None = None
accepted_by kind code count warning (Some m) = Some (record { kind = kind; code = code; count = count; warning = warning; marked = m })

module _ (kind code count warning : ℕ) (rows : List ℕ) where
  pub told-kind : k_close < kind → None ≡ told_call kind code count warning rows
  unfolding told_call told_ok
  told-kind a = sym (cond-f _ _ (and_f _ (lt-leb kind k_close a)))

  module _ (a : kind ≤ k_close) where
    pub told-code : most_code < code → None ≡ told_call kind code count warning rows
    unfolding told_call told_ok
    told-code b = sym (cond-f _ _ (and_t _ (le-leb kind k_close a) ∙ and_f _ (lt-leb code most_code b)))

    module _ (b : code ≤ most_code) where
      pub told-warning : most_warning < warning → None ≡ told_call kind code count warning rows
      unfolding told_call told_ok
      told-warning d = sym (cond-f _ _ (and_t _ (le-leb kind k_close a) ∙ and_t _ (le-leb code most_code b) ∙ and_f _ (lt-leb warning most_warning d)))

      module _ (d : warning ≤ most_warning) where
        numbers : told_ok kind code count warning rows ≡ (not (eqb code 0) || rows_ok count rows)
        unfolding told_ok
        numbers = and_t _ (le-leb kind k_close a) ∙ and_t _ (le-leb code most_code b) ∙ and_t _ (le-leb warning most_warning d)

        pub told-turned : (code ≡ 0 → ⊥)
            → Some (record { kind = kind; code = code; count = count; warning = warning; marked = 0 }) ≡ told_call kind code count warning rows
        unfolding told_call call_of
        told-turned n = rw (numbers, ne_eqb code 0 n)

        -- what an accepted call is, by its marks
        told-by : code ≡ 0 → accepted_by kind code count warning (lent_marks count rows) ≡ told_call kind code count warning rows
        unfolding told_call lent_marks call_of
        told-by z =
            by_bit (rows_ok count rows)
            (λ g. rw (g, numbers, eq-eqb code 0 z, g))
            (λ g. rw (g, numbers, eq-eqb code 0 z, g))

        pub told_bad : code ≡ 0 → None ≡ lent_marks count rows → None ≡ told_call kind code count warning rows
        told_bad z e = ap (accepted_by kind code count warning) e ∙ told-by z

        pub told_is : code ≡ 0 → (m : ℕ) → Some m ≡ lent_marks count rows
            → Some (record { kind = kind; code = code; count = count; warning = warning; marked = m }) ≡ told_call kind code count warning rows
        told_is z m e = ap (accepted_by kind code count warning) e ∙ told-by z

-- ---- the try word
module _ (w : ℕ) (c : Call) (b : Bool) (r : ℕ) (eb : b ≡ (has w b_failing || fails c)) where
  pub try-closed : (p : Bool) → p ≡ cond (has w b_closed) (has w b_first) (not b) → r ≡ try_number true p (not b) false → closes c ≡ true → r ≡ try_after w c
  unfolding try_after
  try-closed p ep er ec = rw (er, ep, eb, ec)

  pub try_open : (x y z : Bool) → x ≡ has w b_closed → y ≡ has w b_first → z ≡ has w b_final → r ≡ try_number x y z b → closes c ≡ false → r ≡ try_after w c
  unfolding try_after
  try_open x y z ex ey ez er ec = rw (er, ex, ey, ez, eb, ec)
