-- LAWS. LAWS. What the making of a row leans on: the mask of its cells, its cells, and its words before them. Assumes nothing.
use Rattle.std.specs.Prelude.{ℕ, ◌+◌, ◌<◌, ◌≤◌, ◌≡◌, refl, Bool, true, ◌&&◌, cond, List, [], ◌∷◌, ◌++◌, ltb, length, get_or}
use Rattle.std.proofs.Math.Path.{sym, ap}
use Rattle.std.proofs.Common.{◌∙◌, arith, lt_of_le_of_lt, lt_of_lt_of_le, pow_pos, pow_mono, ltb-true, ltb-false, le-leb}
use Rattle.std.proofs.Math.Bool.{false, not, and-true, and-false}
use Rattle.std.proofs.Math.Option
use Rattle.std.proofs.Math.Option.{Option}
use Rattle.std.specs.Int.Bits.{bit_and, bit_or}
use Rattle.std.proofs.lemmas.Nat.{and_le_r, or_lt}
use Rattle.std.proofs.lemmas.Bool.{lt-leb}
use Rattle.floats.specs.Lists.{upto, spliced}
use Rattle.floats.specs.Fill.{upto-below}
use Rattle.floats.specs.Truth.{by_bit, and_t, and_f, cond-t, cond-f}
use Rattle.layout.specs.Layout.{axis_codes, axis_masks, cells, last_code, list_codes, list_masks, row_words, r_cells}
use Rattle.row_cells.specs.Bits.{has, mask_sum}
use Rattle.row_cells.specs.Row.{axes_of, cell, raw_word, present_of, shown}
use Rattle.row_cells.specs.Masks.{has-past, below-bits, mask-of, member-small}
use Rattle.row_cells.specs.BitOps.{has_and, has_or, has-not}
use Rattle.row_cells.proofs.RowLaws.{cell_word}
use Rattle.row_lay.specs.declared.Head.{Head}
use Rattle.row_lay.specs.Over.{over_word, zeros}
use Rattle.row_lay.specs.Asks.{Lays, Laid, head_words}
use Rattle.row_lay.specs.LayLaws.{cells_part, part-word, row_lays, head-cells}
use Rattle.row_made.specs.declared.Made.{Made}
use Rattle.row_made.specs.Made.{rides, with_riders, made_has, made_cell, made_word, riders}
use Rattle.row_made.specs.MadeLaws.{made-words}
use Rattle.row_made.specs.Asks.{made_head, made_cells, made_by}

-- ---- the first row of a group: what rides along, and the point's own
module _ (gs r : List ℕ) (k : ℕ) where
  pub rider_has : (mask : ℕ) → rides gs k ≡ true → made_has gs r true mask k ≡ has (present_of r) k
  unfolding made_has
  rider_has mask d = rw d

  pub own-has : (mask : ℕ) → rides gs k ≡ false → made_has gs r true mask k ≡ has mask k
  unfolding made_has
  own-has mask d = rw d

  pub rider_word : (f : ℕ → Option ℕ) → rides gs k ≡ true → made_word gs r true f k ≡ cell_word r k
  unfolding made_cell with_riders
  rider_word f d = rw d

  pub own-word : (f : ℕ → Option ℕ) → rides gs k ≡ false → made_word gs r true f k ≡ Option.get_or (f k) 0
  unfolding made_cell with_riders
  own-word f d = rw d

-- ---- its mask, by `&` and `|`
module _ (gs mask : ℕ) (g : gs < axis_masks) (m : mask < axis_masks) where
  abbrev first_mask : ℕ → ℕ
  first_mask p = bit_or (bit_and p (riders gs)) (bit_and mask gs)

  list_axes : gs < list_masks
  list_axes = lt_of_lt_of_le g (pow_mono {i = axis_codes} {j = list_codes} (omega arith))

  first_small : (p : ℕ) → first_mask p < list_masks
  first_small p =
      let l : riders gs < list_masks = omega (arith, pow_pos list_codes) in
      or_lt list_codes (bit_and p (riders gs)) (bit_and mask gs) (lt_of_le_of_lt (and_le_r p (riders gs)) l) (lt_of_le_of_lt (and_le_r mask gs) list_axes)

  -- a code: the block's where it rides, the point's where it is a geometric axis
  first_code : (p k : ℕ) → k < list_codes → has (first_mask p) k ≡ cond (has gs k) (has mask k) (has p k)
  first_code p k h =
      has_or (bit_and p (riders gs)) (bit_and mask gs) k
      ∙ rw (has_and p (riders gs) k, has_and mask gs k, has-not gs list_codes k list_axes h)
      (by_bit (has gs k)
      (λ a. rw a (by_bit (has p k) (λ b. rw b (by_bit (has mask k) (λ c. rw c) (λ c. rw c))) (λ b. rw b (by_bit (has mask k) (λ c. rw c) (λ c. rw c)))))
      (λ a. rw a (by_bit (has p k) (λ b. rw b) (λ b. rw b (by_bit (has mask k) (λ c. rw c) (λ c. rw c))))))

  module _ (r : List ℕ) where
    made_code : (k : ℕ) → k ≤ last_code → made_has (axes_of gs) r true mask k ≡ cond (has gs k) (has mask k) (has (present_of r) k)
    unfolding rides
    made_code k h =
        let e : rides (axes_of gs) k ≡ not (has gs k) = and_t _ (le-leb k last_code h) ∙ ap not (member-small gs k g) in
        by_bit (has gs k)
        (λ a. own-has (axes_of gs) r k mask (e ∙ ap not a) ∙ sym (cond-t _ _ a))
        (λ a. rider_has (axes_of gs) r k mask (e ∙ ap not a) ∙ sym (cond-f _ _ a))

    made-past : (k : ℕ) → last_code < k → made_has (axes_of gs) r true mask k ≡ false
    unfolding rides
    made-past k h =
        own-has (axes_of gs) r k mask (and_f _ (lt-leb k last_code h))
        ∙ has-past mask axis_codes k m (omega arith)

    first-has : (k : ℕ) → has (first_mask (present_of r)) k ≡ made_has (axes_of gs) r true mask k
    first-has k =
        by_bit (ltb k list_codes)
        (λ b. let h : k < list_codes = ltb-true k list_codes b in first_code (present_of r) k h ∙ sym (made_code k (omega arith)))
        (λ b. let h : list_codes ≤ k = ltb-false k list_codes b in
        has-past (first_mask (present_of r)) list_codes k (first_small (present_of r)) h ∙ sym (made-past k (omega arith)))

    pub first-mask : first_mask (present_of r) ≡ mask_sum (made_has (axes_of gs) r true mask) cells
    first-mask =
        mask-of (first_mask (present_of r)) cells (made_has (axes_of gs) r true mask)
        (lt_of_lt_of_le (first_small (present_of r)) (pow_mono {i = list_codes} {j = cells} (omega arith))) (λ k h. first-has k)

    -- the rows after it: the point alone
    pub later-mask : mask ≡ mask_sum (made_has (axes_of gs) r false mask) cells
    unfolding made_has
    later-mask = mask-of mask cells _ (lt_of_lt_of_le m (pow_mono {i = axis_codes} {j = cells} (omega arith))) (λ k h. refl)

-- ---- its cells, by masks
pub point_lays : (l ws : List ℕ) (at mask : ℕ) → at + cells ≤ length l → mask < axis_masks → axis_codes ≤ length ws → Lays l at mask ws
point_lays l ws at mask h m w = record {
  room = h;
  small = lt_of_lt_of_le m (pow_mono {i = axis_codes} {j = cells} (omega arith));
  there = λ k b. omega (arith, below-bits mask axis_codes k m b);
}

pub later-cells : (gs r : List ℕ) (mask : ℕ) (ws : List ℕ) → upto (over_word mask ws zeros) cells ≡ upto (made_word gs r false (shown mask ws)) cells
unfolding made_cell shown
later-cells gs r mask ws = upto-below _ _ cells (λ k h. by_bit (has mask k) (λ b. rw b) (λ b. rw b))

module _ (gs mask : ℕ) (g : gs < axis_masks) (m : mask < axis_masks) (r : List ℕ) (long : length r ≡ row_words) where
  abbrev ride : ℕ
  ride = bit_and (present_of r) (riders gs)

  riders-small : riders gs < list_masks
  riders-small = omega (arith, pow_pos list_codes)

  pub first_lays : (l : List ℕ) (at w : ℕ) → w ≡ ride → at + cells ≤ length l → Lays l at w (cells_part r)
  first_lays l at w e h =
      let s : ride < list_masks = lt_of_le_of_lt (and_le_r (present_of r) (riders gs)) riders-small in
      rw e (row_lays r long l at ride h (lt_of_lt_of_le s (pow_mono {i = list_codes} {j = cells} (omega arith))))

  pub own_lays : (l ws : List ℕ) (at : ℕ) → at + cells ≤ length l → axis_codes ≤ length ws → Lays l at (bit_and mask gs) ws
  own_lays l ws at h w = point_lays l ws at (bit_and mask gs) h (lt_of_le_of_lt (and_le_r mask gs) g) w

  module _ (ws : List ℕ) (k : ℕ) where
    abbrev laid_word : ℕ
    laid_word = over_word (bit_and mask gs) ws (over_word ride (cells_part r) zeros) k

    shown-word : Option.get_or (shown mask ws k) 0 ≡ cond (has mask k) (get_or ws k 0) 0
    unfolding shown
    shown-word = by_bit (has mask k) (λ b. rw b) (λ b. rw b)

    cell-word : cell_word r k ≡ cond (has (present_of r) k) (raw_word r k) 0
    unfolding cell
    cell-word = by_bit (has (present_of r) k) (λ b. rw b) (λ b. rw b)

    own-cell : rides (axes_of gs) k ≡ false → has (riders gs) k ≡ false → (has mask k && has gs k) ≡ has mask k
        → laid_word ≡ made_word (axes_of gs) r true (shown mask ws) k
    own-cell e z y =
        rw (has_and mask gs k, has_and (present_of r) (riders gs) k, z, y, and-false (has (present_of r) k))
        (sym (own-word (axes_of gs) r k (shown mask ws) e ∙ shown-word))

    ride-cell : k < cells → rides (axes_of gs) k ≡ true → has gs k ≡ false → has (riders gs) k ≡ true
        → laid_word ≡ made_word (axes_of gs) r true (shown mask ws) k
    ride-cell h e a z =
        rw (has_and mask gs k, a, and-false (has mask k), has_and (present_of r) (riders gs) k, z, and-true (has (present_of r) k), part-word r long k h)
        (sym (rider_word (axes_of gs) r k (shown mask ws) e ∙ cell-word))

    code-cell : k < cells → k < list_codes → laid_word ≡ made_word (axes_of gs) r true (shown mask ws) k
    unfolding rides
    code-cell h l =
        let e : rides (axes_of gs) k ≡ not (has gs k) = and_t _ (le-leb k last_code (omega arith)) ∙ ap not (member-small gs k g) in
        let z : has (riders gs) k ≡ not (has gs k) = has-not gs list_codes k (list_axes gs mask g m) l in
        by_bit (has gs k)
        (λ a. own-cell (e ∙ ap not a) (z ∙ ap not a) (ap (λ (b : Bool). has mask k && b) a ∙ and-true (has mask k)))
        (λ a. ride-cell h (e ∙ ap not a) a (z ∙ ap not a))

    past-cell : list_codes ≤ k → laid_word ≡ made_word (axes_of gs) r true (shown mask ws) k
    unfolding rides
    past-cell l =
        let no : has mask k ≡ false = has-past mask axis_codes k m (omega arith) in
        own-cell (and_f _ (lt-leb k last_code (omega arith))) (has-past (riders gs) list_codes k riders-small l) (rw no)

    first_cell_lem : k < cells → laid_word ≡ made_word (axes_of gs) r true (shown mask ws) k
    first_cell_lem h =
        by_bit (ltb k list_codes)
        (λ b. code-cell h (ltb-true k list_codes b))
        (λ b. past-cell (ltb-false k list_codes b))

  pub first-written : (l n o ws : List ℕ) (at w : ℕ) → w ≡ ride → at + cells ≤ length l
      → n ≡ spliced l at (upto (over_word w (cells_part r) zeros) cells) → Laid n at (bit_and mask gs) ws o
      → o ≡ spliced l at (upto (made_word (axes_of gs) r true (shown mask ws)) cells)
  first-written l n o ws at w e h p s =
      s.is l (over_word w (cells_part r) zeros) h p
      ∙ ap (λ (v : ℕ). spliced l at (upto (over_word (bit_and mask gs) ws (over_word v (cells_part r) zeros)) cells)) e
      ∙ ap (spliced l at) (upto-below _ _ cells (λ k b. first_cell_lem ws k b))

-- ---- the words before the cells, then the cells
pub made-written : (l m n : List ℕ) (i : ℕ) (h : Head) (r : List ℕ) (made : Made) (ws : List ℕ) → i + r_cells ≤ length l
    → head_words h ≡ made_head r made → m ≡ spliced l i (head_words h) → n ≡ spliced m (i + r_cells) (made_cells r made ws)
    → n ≡ spliced l i (made_by r made ws)
made-written l m n i h r made ws room e p q =
    let words = made-words (axes_of made.axes) r made.first made.motion made.marked made.mask ws in
    head-cells l m n i h (made_cells r made ws) room p q (words ∙ sym (ap (λ (hs : List ℕ). hs ++ made_cells r made ws) e))

pub head-same : {a b b' c c' d d' e e' f f' : ℕ} → b ≡ b' → c ≡ c' → d ≡ d' → e ≡ e' → f ≡ f'
    → ◌≡◌ {A = List ℕ} (a ∷ b ∷ c ∷ d ∷ e ∷ f ∷ []) (a ∷ b' ∷ c' ∷ d' ∷ e' ∷ f' ∷ [])
head-same p q r s t = rw (p, q, r, s, t)
