-- LAWS. The rows of an arc as the code makes them, axis by axis, are the definition's. Assumes nothing.
use Rattle.std.specs.Prelude.{◌≡◌, ℕ, ◌+◌, ◌-◌, ◌*◌, ◌^◌, ◌<◌, ◌≤◌, Bool, true, false, cond, ◌&&◌, ◌||◌, List, length, ◌==◌, refl, Float}
use Rattle.std.proofs.Common.{sym, ◌∙◌, arith}
use Rattle.std.proofs.Math.Path.{ap}
use Rattle.std.proofs.Math.Option.{Option, none, some}
use Rattle.std.proofs.Math.Logic.{⊎_elim}
use Rattle.std.specs.Float.Ieee.{nan}
use borrow.Author.Tests.{eqb-true, ne_eqb, eq-eqb}
use Rattle.floats.specs.Numbers.{◌⊕◌, ◌⊗◌, ◌⊘◌, bits, of_nat, at}
use Rattle.floats.specs.Lists.{upto, member, opt, flatten, spliced}
use Rattle.floats.specs.Fill.{at-upto, lt_or_le}
use Rattle.trig.specs.Trig.{sin_steps, cos_steps}
use Rattle.layout.specs.Layout.{axis_codes, row_words}
use Rattle.motion.specs.Motion.{g_one}
use Rattle.row_cells.specs.Codes.{plane_u, plane_v}
use Rattle.row_cells.specs.Bits.{has}
use Rattle.row_cells.specs.Row.{cell, shown, present_of, axes_of}
use Rattle.floats.specs.Truth.{by_bit}
use Rattle.row_cells.specs.Masks.{mask_lt, has-mask, has-past, member-small}
use Rattle.row_made.specs.MadeLaws.{made-same, length-made}
use Rattle.arc_numbers.specs.Arc.{Ends, Arc, angle_at, radius_at}
use Rattle.arc_sample.specs.Rowing.{Rowing, rowing_same, rowing_more}
use Rattle.arc_words.specs.Words.{drawn, drawn_mask, start_of, span_of, ramp_of, sample_word, end_word, last_word}
use Rattle.arc_made.specs.Drawn.{mid_row, mid_rows, last_row}
use Rattle.arc_answer.specs.Samples.{ramp, last_cell, mid_cell, arc_row}

-- ---- the code's words are the definition's cells
module _ (gs : ℕ) (small : gs < 2 ^ axis_codes) (r : List ℕ) (u v : ℕ) (on_u : u < axis_codes) (on_v : v < axis_codes) where
  -- a cell that is shown where it is drawn, and is none elsewhere
  shows : (word : ℕ → ℕ) (x y : Option ℕ) (w : ℕ → Option ℕ) → some (word u) ≡ x → ((v == u) ≡ false → some (word v) ≡ y)
      → ((k : ℕ) → k < axis_codes → (k == u) ≡ false → (k == v) ≡ false → has (present_of r) k ≡ true → some (word k) ≡ w k)
      → ((k : ℕ) → has (present_of r) k ≡ false → w k ≡ none)
      → (k : ℕ) → shown (drawn_mask gs r u v) (upto word axis_codes) k ≡ cond (k == u) x (cond (k == v) y (cond (member k (axes_of gs)) (w k) none))
  unfolding shown drawn
  shows word x y w ex ey ew en k =
      ⊎_elim
      (λ (l : k < axis_codes).
      let m : has (drawn_mask gs r u v) k ≡ (k == u || (k == v || (has gs k && has (present_of r) k))) =
      has-mask (drawn gs (present_of r) u v) axis_codes k l in
      rw (m, at-upto word axis_codes k 0 l, member-small gs k small)
      (by_bit (k == u)
      (λ a. rw a (ap (λ (i : ℕ). some (word i)) (eqb-true k u a) ∙ ex))
      (λ a. rw a (by_bit (k == v)
      (λ b. rw b (ap (λ (i : ℕ). some (word i)) (eqb-true k v b) ∙ ey (rw (eqb-true k v b) at a)))
      (λ b. rw b (by_bit (has gs k)
      (λ d. rw d (by_bit (has (present_of r) k)
      (λ p. rw p (ew k l a b p))
      (λ p. rw p (sym (en k p)))))
      (λ d. rw d)))))))
      (λ (g : axis_codes ≤ k).
      let past : has (drawn_mask gs r u v) k ≡ false = has-past (drawn_mask gs r u v) axis_codes k (mask_lt (drawn gs (present_of r) u v) axis_codes) g in
      let off : (i : ℕ) → i < axis_codes → (k == i) ≡ false = λ i h. ne_eqb k i (λ (e : k ≡ i). omega arith) in
      rw (past, member-small gs k small, has-past gs axis_codes k small g, off u on_u, off v on_v))
      (lt_or_le k axis_codes)

  module _ (plane : ℕ) (u_is : u ≡ plane_u plane) (v_is : v ≡ plane_v plane) where
    last-shown : (e : Ends) (k : ℕ) → shown (drawn_mask gs r u v) (upto (last_word e u v r) axis_codes) k ≡ last_cell (axes_of gs) plane e r k
    unfolding last_cell last_word end_word cell
    last-shown e k =
        rw (← u_is, ← v_is)
        (shows (last_word e u v r) (some (bits e.eu)) (some (bits e.ev)) (cell r)
        (rw (eq-eqb u u refl))
        (λ a. rw (a, eq-eqb v v refl))
        (λ j l a b p. rw (a, b, p))
        (λ j p. rw p)
        k)

    mid-shown : (pos : ℕ → Option ℕ) (c : Arc) (f : Float) (starts spans : List Float) → starts ≡ upto (start_of r pos) axis_codes
        → spans ≡ upto (span_of r starts) axis_codes
        → (k : ℕ) → shown (drawn_mask gs r u v) (upto (sample_word c u v starts spans f) axis_codes) k ≡ mid_cell (axes_of gs) plane pos r c f k
    unfolding mid_cell sample_word ramp_of start_of span_of ramp cell
    mid-shown pos c f starts spans es ep k =
        rw (← u_is, ← v_is)
        (shows (sample_word c u v starts spans f)
        (some (bits (c.cu ⊕ radius_at c f ⊗ cos_steps (angle_at c f)))) (some (bits (c.cv ⊕ radius_at c f ⊗ sin_steps (angle_at c f))))
        (λ (j : ℕ). opt (λ (end : ℕ). bits (ramp (pos j) end f)) (cell r j))
        (rw (eq-eqb u u refl))
        (λ a. rw (a, eq-eqb v v refl))
        (λ j l a b p.
        let s : at starts j ≡ start_of r pos j = ap (λ (xs : List Float). at xs j) es ∙ at-upto (start_of r pos) axis_codes j nan l in
        let w : at spans j ≡ span_of r starts j = ap (λ (xs : List Float). at xs j) ep ∙ at-upto (span_of r starts) axis_codes j nan l in
        rw (a, b, p, w, s))
        (λ j p. rw p)
        k)

    -- so its rows are the definition's
    pub last_row_lem : (pos : ℕ → Option ℕ) (e : Ends) (c : Arc) (n : ℕ) (first : Bool) → first ≡ (n == 1)
        → last_row (axes_of gs) r (drawn_mask gs r u v) (last_word e u v r) first ≡ arc_row (axes_of gs) plane pos r e c n n
    unfolding last_row arc_row
    last_row_lem pos e c n first ef =
        rw (ef, eq-eqb n n refl)
        (made-same (axes_of gs) (axes_of gs) r (n == 1) g_one false (shown (drawn_mask gs r u v) (upto (last_word e u v r) axis_codes))
        (last_cell (axes_of gs) plane e r) (λ k l. refl) (λ k l. last-shown e k))

    pub mid_row_lem : (pos : ℕ → Option ℕ) (e : Ends) (c : Arc) (starts spans : List Float) → starts ≡ upto (start_of r pos) axis_codes
        → spans ≡ upto (span_of r starts) axis_codes → (n j : ℕ) → j + 1 < n
        → mid_rows (axes_of gs) r (drawn_mask gs r u v) (sample_word c u v starts spans) n j ≡ arc_row (axes_of gs) plane pos r e c n (j + 1)
    unfolding mid_row arc_row
    mid_row_lem pos e c starts spans es ep n j l =
        let f = of_nat (j + 1) ⊘ of_nat n in
        rw (ne_eqb (j + 1) n (λ (q : j + 1 ≡ n). omega arith))
        (made-same (axes_of gs) (axes_of gs) r (j + 1 == 1) g_one true (shown (drawn_mask gs r u v) (upto (sample_word c u v starts spans f) axis_codes))
        (mid_cell (axes_of gs) plane pos r c f) (λ k l. refl) (λ k l. mid-shown pos c f starts spans es ep k))

pub mid-long : (gs r : List ℕ) (mask : ℕ) (word : Float → ℕ → ℕ) (n j : ℕ) → length (mid_rows gs r mask word n j) ≡ row_words
unfolding mid_row
mid-long gs r mask word n j = length-made gs r (j + 1 == 1) g_one true (shown mask (upto (word (of_nat (j + 1) ⊘ of_nat n)) axis_codes))

pub arc_long : (gs : List ℕ) (plane : ℕ) (pos : ℕ → Option ℕ) (r : List ℕ) (e : Ends) (c : Arc) (n k : ℕ) → length (arc_row gs plane pos r e c n k) ≡ row_words
unfolding arc_row
arc_long gs plane pos r e c n k =
    by_bit (k == n)
    (λ b. rw b (length-made gs r (k == 1) g_one false (last_cell gs plane e r)))
    (λ b. rw b (length-made gs r (k == 1) g_one true (mid_cell gs plane pos r c (of_nat k ⊘ of_nat n))))

-- n rows as the code writes them, the last one after the others
pub drawn-rows : (gs : ℕ) → gs < 2 ^ axis_codes → (r : List ℕ) (u v : ℕ) → u < axis_codes → v < axis_codes → (plane : ℕ) → u ≡ plane_u plane → v ≡ plane_v plane
    → (pos : ℕ → Option ℕ) (e : Ends) (c : Arc) {starts spans : List Float} → starts ≡ upto (start_of r pos) axis_codes
    → spans ≡ upto (span_of r starts) axis_codes
    → (n : ℕ) → 1 ≤ n → {mask : ℕ} → mask ≡ drawn_mask gs r u v → {first : Bool} → first ≡ (n == 1)
    → {from place : ℕ} {l xs ys : List ℕ} → from + n * row_words ≤ length l
    → Rowing (mid_rows (axes_of gs) r mask (sample_word c u v starts spans) n) from (n - 1) l xs place
    → ys ≡ spliced xs place (last_row (axes_of gs) r mask (last_word e u v r) first)
    → ys ≡ spliced l from (flatten (upto (λ (k : ℕ). arc_row (axes_of gs) plane pos r e c n (k + 1)) n))
drawn-rows gs small r u v on_u on_v plane u_is v_is pos e c {starts} {spans} es ep n least {mask} em {first} ef {from} {place} {l} {xs} {ys} room s q =
    let g : n - 1 + 1 ≡ n = omega arith in
    let w : Rowing (λ (k : ℕ). arc_row (axes_of gs) plane pos r e c n (k + 1)) from (n - 1) l xs place =
    rowing_same (λ j h. mid_row_lem gs small r u v on_u on_v plane u_is v_is pos e c starts spans es ep n j (omega arith)) (rw em at s) in
    let b : last_row (axes_of gs) r mask (last_word e u v r) first ≡ arc_row (axes_of gs) plane pos r e c n (n - 1 + 1) =
    rw (em, g) (last_row_lem gs small r u v on_u on_v plane u_is v_is pos e c n first ef) in
    let t : Rowing (λ (k : ℕ). arc_row (axes_of gs) plane pos r e c n (k + 1)) from (n - 1 + 1) l ys (place + row_words) =
    rowing_more (λ j. arc_long (axes_of gs) plane pos r e c n (j + 1)) w (rw g room) (q ∙ ap (spliced xs place) b) in
    rw g at t.is
