-- LAWS. A state and a store stand for what Standing.antt says stands before an event, and each accepted call keeps it so. Assumes nothing.
use Prim.Native.Nat.{ℕ, ◌+◌, ◌*◌, ◌<◌, ◌≤◌}
use Rattle.std.specs.Prelude.{◌≡◌, refl, Bool, true, ◌&&◌, take, drop}
use Rattle.std.proofs.Math.Path.{sym, ap, ap₂, subst}
use Rattle.std.proofs.Common.{◌∙◌, arith, length-append}
use Rattle.std.proofs.Math.Bool.{false, not, cond}
use Rattle.std.proofs.lemmas.Bool.{false≢true}
use mathlib.Core.List.{List, [], ◌∷◌, ◌++◌, map, map-append}
use Rattle.std.proofs.Math.Option.{Option, none, some}
use Rattle.std.proofs.Math.Numerals.{add-one}
use Rattle.std.proofs.Math.ListN.{length, get_or}
use Rattle.std.proofs.Math.Dec.{eqb}
use borrow.Author.Tests.{eqb-true, eqb-false, eq-eqb}
use Rattle.floats.specs.Lists.{upto, member, spliced}
use Rattle.layout.specs.Layout.{w_axis_count, axis_codes, c_sd, row_words, w_axes, w_known, w_start, w_motion, w_plane, w_degree, w_held, state_words}
use Rattle.layout.specs.Layout.{list_codes}
use Rattle.layout.specs.Layout.{w_tolerance}
use Rattle.motion.specs.Motion.{is_spline}
use Rattle.row_cells.specs.Codes.{geometric_of}
use Rattle.row_cells.specs.Bits.{has}
use Rattle.row_cells.specs.Row.{cell, number, motion_of, plane_of, present_of, out_row}
use Rattle.floats.specs.Truth.{by_bit, cond-t, cond-f}
use Rattle.row_cells.specs.Masks.{has-none}
use Rattle.saved_state.specs.State.{plain_degree, tolerance, axis_count, geometric, codes_ok, placed, motion_now, plane_now, held, degree, point_word, position}
use Rattle.saved_state.specs.State.{curve_start, held_row, held_rows}
use Rattle.saved_state.specs.StateLaws.{geometric-small}
use Rattle.call_start.specs.Start.{fresh_word, fresh}
use Rattle.call_seed.specs.Seed.{seeded}
use Rattle.push_resolve.specs.Blocks.{or_now, motion_then, plane_then, emits, kept}
use Rattle.push_start.specs.OpenedLaws.{placed-keeps, forgotten-keeps, held-forgotten}
use Rattle.push_start.specs.Opened.{forgotten}
use Rattle.push_state.specs.Pushed.{degree_with, buffered, push_state, push_store}
use Rattle.demand_calls.specs.Laws.{no_elements, cond_both}
use Rattle.demand_state.specs.Accepted.{Pushed, few-axes, held-spline}
use Rattle.demand_state.specs.Lengths.{emptied, worded, laid, worded-length, placed-length, forgotten-length, push_state-length}
use Rattle.demand_state.specs.StateWords.{same-axes, placed-here, placed-there, push-low, push-motion}
use Rattle.demand_state.specs.StateWords.{push-plane, push-place, push_else, worded-else, emptied-low, buffered-held, first-degree, first-start}
use Rattle.demand_state.specs.StateWords.{later-degree, later-start}
use Rattle.demand_state.specs.StoreRows.{held_after}
use Rattle.demand_standing.specs.Standing.{Standing, at_first, moved_by_block, moved_by_seed, motion_with, goes_on, with_block, with_seed, with_close}
use Rattle.demand_standing.specs.Standing.{degree_from}
use Rattle.demand_state.specs.Fresh.{fresh_at, fresh_list}

pub record Stands (tol : ℕ) (gs : List ℕ) (s : Standing) (st store : List ℕ) : Type 0 where
  pub tolerance : get_or st w_tolerance 0 ≡ tol
  pub axes : geometric st ≡ gs
  pub motion : motion_now st ≡ s.motion
  pub plane : plane_now st ≡ s.plane
  pub place : (k : ℕ) → k < axis_codes → position st k ≡ s.place k
  pub held : held st ≡ length s.curve
  pub rows : held_rows st store ≡ map out_row s.curve
  pub start : 0 < length s.curve → (k : ℕ) → k < axis_codes → curve_start st k ≡ s.start k
  pub degree : 0 < length s.curve → degree st ≡ degree_from plain_degree s.curve
  pub past : (k : ℕ) → axis_codes ≤ k → (s.place k ≡ none) × (s.start k ≡ none)

no-axis : {tol : ℕ} {gs : List ℕ} {s : Standing} {st store : List ℕ} → Stands tol gs s st store → (k : ℕ) → axis_codes ≤ k → member k gs ≡ false
unfolding geometric
no-axis {gs = gs} {st = st} t k l =
    by_bit (member k gs)
    (λ b. let g : k < axis_codes = geometric-small st k (ap (member k) t.axes ∙ b) in absurd (omega arith))
    (λ b. b)

degree_snoc : (d : ℕ) (rs : List (List ℕ)) (r : List ℕ) → degree_from d (rs ++ (r ∷ [])) ≡ degree_with (degree_from d rs) (number r c_sd)
unfolding degree_from
degree_snoc d [] r = refl
degree_snoc d (q ∷ rs) r = degree_snoc (degree_with d (number q c_sd)) rs r

pub some-length : (n : ℕ) → (n ≡ 0 → ⊥) → 0 < n
some-length n d = omega (arith, d)

no_rows : (st store : List ℕ) → held st ≡ 0 → held_rows st store ≡ []
unfolding held_rows upto
no_rows st store e = ap (upto (held_row store)) e

-- ---- a push
module _ {tol : ℕ} {gs : List ℕ} {s : Standing} {st store : List ℕ} (r : List ℕ) (t : Stands tol gs s st store) (p : Pushed st store r) where
  words : length st ≡ state_words
  words = p.saved.words

  pub motion-is : motion_then st r ≡ motion_with s r
  unfolding motion_with
  motion-is = ap (or_now (motion_of r)) t.motion

  new-place : (k : ℕ) → k < axis_codes → position (push_state st r) k ≡ moved_by_block gs s.place r k
  unfolding moved_by_block cell
  new-place k h =
      push-place st r words (few-axes st p.saved.state) k h
      ∙ rw (t.axes, t.place k h)
      (by_bit (has (present_of r) k)
      (λ a. rw a (by_bit (member k gs) (λ b. rw b) (λ b. rw b)))
      (λ a. rw a (by_bit (member k gs) (λ b. rw b) (λ b. rw b))))

  -- the motion goes on: nothing is emitted, and the open spline goes on
  pub record Same : Type 0 where
    pub test : eqb (motion_then st r) (motion_now st) ≡ true
    pub none : emits st r ≡ false
    pub kept : kept st r ≡ length s.curve
    pub on : goes_on s r ≡ s.curve
    pub state : emptied st r ≡ st

  -- it changes: what was held is emitted, and no spline goes on
  pub record Changed : Type 0 where
    pub test : eqb (motion_then st r) (motion_now st) ≡ false
    pub emits : emits st r ≡ not (eqb (length s.curve) 0)
    pub kept : kept st r ≡ 0
    pub on : goes_on s r ≡ []
    pub held : held (emptied st r) ≡ 0

  pub same : eqb (motion_then st r) (motion_now st) ≡ true → Same
  unfolding emits kept goes_on emptied
  same e =
      let none : emits st r ≡ false = ap (λ (b : Bool). not (eqb (held st) 0) && not b) e ∙ by_bit (eqb (held st) 0) (λ b. rw b) (λ b. rw b) in
      record {
        test = e;
        none = none;
        kept = cond-f 0 (held st) none ∙ t.held;
        on = cond-t s.curve [] (sym (ap₂ eqb motion-is t.motion) ∙ e);
        state = cond-f _ st none;
      }

  pub changed : eqb (motion_then st r) (motion_now st) ≡ false → Changed
  unfolding emits kept goes_on emptied
  changed e =
      let does : emits st r ≡ not (eqb (held st) 0) = ap (λ (b : Bool). not (eqb (held st) 0) && not b) e ∙ by_bit (eqb (held st) 0) (λ b. rw b) (λ b. rw b) in
      record {
        test = e;
        emits = does ∙ ap (λ (n : ℕ). not (eqb n 0)) t.held;
        kept = by_bit (eqb (held st) 0) (λ b. cond-f 0 (held st) (does ∙ ap not b) ∙ eqb-true _ 0 b) (λ b. cond-t 0 (held st) (does ∙ ap not b));
        on = cond-f s.curve [] (sym (ap₂ eqb motion-is t.motion) ∙ e);
        held = by_bit (eqb (held st) 0)
            (λ b. ap held (cond-f (forgotten st) st (does ∙ ap not b)) ∙ eqb-true _ 0 b)
            (λ b. ap held (cond-t (forgotten st) st (does ∙ ap not b)) ∙ held-forgotten st words);
      }

  going : {A : Type 0} → (Same → A) → (Changed → A) → A
  going f g = by_bit (eqb (motion_then st r) (motion_now st)) (λ e. f (same e)) (λ e. g (changed e))

  held_kept : held (emptied st r) ≡ kept st r
  held_kept = going (λ e. ap held e.state ∙ t.held ∙ sym e.kept) (λ e. e.held ∙ sym e.kept)

  on-length : length (goes_on s r) ≡ kept st r
  on-length = going (λ e. ap length e.on ∙ sym e.kept) (λ e. ap length e.on ∙ sym e.kept)

  on-rows : upto (held_row store) (kept st r) ≡ map out_row (goes_on s r)
  unfolding held_rows upto
  on-rows = going
      (λ e. ap (upto (held_row store)) (e.kept ∙ sym t.held) ∙ t.rows ∙ ap (map out_row) (sym e.on))
      (λ e. ap (upto (held_row store)) e.kept ∙ ap (map out_row) (sym e.on))

  worded-held : held (worded st r) ≡ kept st r
  worded-held = worded-else st r words w_held (λ e. omega arith) (λ e. omega arith) ∙ held_kept

  -- where the block is no spline's, none is open
  pub none_kept : is_spline (motion_then st r) ≡ false → kept st r ≡ 0
  none_kept f = going
      (λ e. by_bit (eqb (held st) 0)
      (λ b. e.kept ∙ sym t.held ∙ eqb-true _ 0 b)
      (λ b. let y : is_spline (motion_now st) ≡ true = held-spline st p.saved.state (eqb-false _ 0 b) in
      absurd (false≢true (sym f ∙ ap is_spline (eqb-true _ _ e.test) ∙ y))))
      (λ e. e.kept)

  module _ (f : is_spline (motion_then st r) ≡ false) where
    closed-held : held (push_state st r) ≡ 0
    unfolding laid
    closed-held =
        push_else st r words w_held (λ a b. omega arith) (λ e. omega arith)
        ∙ ap held (cond-f _ (worded st r) f) ∙ worded-held ∙ none_kept f

    closed-curve : (with_block gs s r).curve ≡ []
    unfolding with_block
    closed-curve = cond-f _ [] (ap is_spline (sym motion-is) ∙ f)

  module _ (y : is_spline (motion_then st r) ≡ true) where
    open_curve : (with_block gs s r).curve ≡ goes_on s r ++ (r ∷ [])
    unfolding with_block
    open_curve = cond-t _ [] (ap is_spline (sym motion-is) ∙ y)

    laid-is : laid st r ≡ buffered (worded st r) r
    unfolding laid
    laid-is = cond-t _ (worded st r) y

    open_held : held (push_state st r) ≡ kept st r + 1
    open_held =
        push_else st r words w_held (λ a b. omega arith) (λ e. omega arith)
        ∙ ap held laid-is ∙ buffered-held (worded st r) r (worded-length st r words) ∙ ap (λ (n : ℕ). n + 1) worded-held

    open_rows : held_rows (push_state st r) (push_store st store r) ≡ map out_row (goes_on s r ++ (r ∷ []))
    unfolding held_rows push_store
    open_rows =
        let room : kept st r * row_words + row_words ≤ length store = p.room y in
        ap (λ (l : List ℕ). upto (held_row l) (held (push_state st r))) (cond-t _ store y)
        ∙ ap (upto (held_row (spliced store (kept st r * row_words) (out_row r)))) (open_held ∙ add-one (kept st r))
        ∙ held_after store r (kept st r) (omega arith)
        ∙ ap (λ (l : List (List ℕ)). l ++ (out_row r ∷ [])) on-rows
        ∙ sym (map-append out_row (goes_on s r) (r ∷ []))

    open_degree : degree (push_state st r) ≡ degree_from plain_degree (goes_on s r ++ (r ∷ []))
    unfolding degree_from
    open_degree =
        push_else st r words w_degree (λ a b. omega arith) (λ e. omega arith)
        ∙ ap degree laid-is
        ∙ by_bit (eqb (kept st r) 0)
        (λ b. first-degree (worded st r) r (worded-length st r words) (worded-held ∙ eqb-true _ 0 b)
        ∙ ap (λ (l : List (List ℕ)). degree_from plain_degree (l ++ (r ∷ []))) (sym (no_elements (goes_on s r) (on-length ∙ eqb-true _ 0 b))))
        (λ b. later-degree (worded st r) r (worded-length st r words) (λ z. eqb-false _ 0 b (sym worded-held ∙ z))
        ∙ going
        (λ e. ap (λ (d : ℕ). degree_with d (number r c_sd))
        (worded-else st r words w_degree (λ z. omega arith) (λ z. omega arith) ∙ ap degree e.state
        ∙ t.degree (some-length (length s.curve) (λ z. eqb-false _ 0 b (e.kept ∙ z))) ∙ ap (degree_from plain_degree) (sym e.on))
        ∙ sym (degree_snoc plain_degree (goes_on s r) r))
        (λ e. absurd (eqb-false _ 0 b e.kept)))

    worded-place : (k : ℕ) → k < axis_codes → position (worded st r) k ≡ position st k
    unfolding point_word
    worded-place k h =
        ap₂ (λ (a b : ℕ). cond (has a k) (some b) none)
        (worded-else st r words w_known (λ e. omega arith) (λ e. omega arith) ∙ emptied-low st r words w_known (omega arith))
        (worded-else st r words (w_known + 1 + k) (λ e. omega arith) (λ e. omega arith) ∙ emptied-low st r words (w_known + 1 + k) (omega arith))

    worded-start : (k : ℕ) → Same → curve_start (worded st r) k ≡ curve_start st k
    unfolding point_word
    worded-start k e =
        ap₂ (λ (a b : ℕ). cond (has a k) (some b) none)
        (worded-else st r words w_start (λ e. omega arith) (λ e. omega arith) ∙ ap (λ (l : List ℕ). get_or l w_start 0) e.state)
        (worded-else st r words (w_start + 1 + k) (λ e. omega arith) (λ e. omega arith) ∙ ap (λ (l : List ℕ). get_or l (w_start + 1 + k) 0) e.state)

    laid-start : (k : ℕ) → k < axis_codes → curve_start (buffered (worded st r) r) k ≡ cond (eqb (length (goes_on s r)) 0) s.place s.start k
    laid-start k h =
        by_bit (eqb (kept st r) 0)
        (λ b. first-start (worded st r) r (worded-length st r words) (worded-held ∙ eqb-true _ 0 b) k h
        ∙ worded-place k h ∙ t.place k h
        ∙ sym (ap (λ (f : ℕ → Option ℕ). f k) (cond-t s.place s.start (ap (λ (n : ℕ). eqb n 0) on-length ∙ b))))
        (λ b. later-start (worded st r) r (worded-length st r words) (λ z. eqb-false _ 0 b (sym worded-held ∙ z)) k h
        ∙ going
        (λ e. worded-start k e ∙ t.start (some-length (length s.curve) (λ z. eqb-false _ 0 b (e.kept ∙ z))) k h)
        (λ e. absurd (eqb-false _ 0 b e.kept))
        ∙ sym (ap (λ (f : ℕ → Option ℕ). f k) (cond-f s.place s.start (ap (λ (n : ℕ). eqb n 0) on-length ∙ b))))

    open_start : (k : ℕ) → k < axis_codes → curve_start (push_state st r) k ≡ (with_block gs s r).start k
    unfolding with_block point_word
    open_start k h =
        ap₂ (λ (a b : ℕ). cond (has a k) (some b) none)
        (push_else st r words w_start (λ a b. omega arith) (λ e. omega arith))
        (push_else st r words (w_start + 1 + k) (λ a b. omega arith) (λ e. omega arith))
        ∙ ap (λ (l : List ℕ). curve_start l k) laid-is
        ∙ laid-start k h

  plane-is : plane_then st r ≡ (with_block gs s r).plane
  unfolding with_block
  plane-is = ap (or_now (plane_of r)) t.plane

  motion-now : motion_then st r ≡ (with_block gs s r).motion
  unfolding with_block
  motion-now = motion-is

  place-now : (k : ℕ) → k < axis_codes → position (push_state st r) k ≡ (with_block gs s r).place k
  unfolding with_block
  place-now = new-place

  past-now : (k : ℕ) → axis_codes ≤ k → ((with_block gs s r).place k ≡ none) × ((with_block gs s r).start k ≡ none)
  unfolding with_block moved_by_block
  past-now k l =
      let a : member k gs ≡ false = no-axis t k l in (
        cond-f _ (s.place k) (ap (λ (b : Bool). b && has (present_of r) k) a) ∙ (t.past k l).0,
        cond_both (λ (f : ℕ → Option ℕ). f k ≡ none) (eqb (length (goes_on s r)) 0) (t.past k l).0 (t.past k l).1,
      )

  -- an accepted push keeps it so
  pub push-stands : Stands tol gs (with_block gs s r) (push_state st r) (push_store st store r)
  push-stands =
      by_bit (is_spline (motion_then st r))
      (λ y. let c : (with_block gs s r).curve ≡ goes_on s r ++ (r ∷ []) = open_curve y in
      record {
        tolerance = push-low st r words w_tolerance (omega arith) ∙ t.tolerance;
        axes = same-axes st (push_state st r) words (push_state-length st r words) (few-axes st p.saved.state) (push-low st r words) ∙ t.axes;
        motion = push-motion st r words ∙ motion-now;
        plane = push-plane st r words ∙ plane-is;
        place = place-now;
        held = open_held y ∙ ap (λ (n : ℕ). n + 1) (sym on-length) ∙ sym (length-append (goes_on s r) (r ∷ [])) ∙ ap length (sym c);
        rows = open_rows y ∙ ap (map out_row) (sym c);
        start = λ z. open_start y;
        degree = λ z. open_degree y ∙ ap (degree_from plain_degree) (sym c);
        past = past-now;
      })
      (λ f. let c : (with_block gs s r).curve ≡ [] = closed-curve f in
      let e : length (with_block gs s r).curve ≡ 0 = ap length c in
      record {
        tolerance = push-low st r words w_tolerance (omega arith) ∙ t.tolerance;
        axes = same-axes st (push_state st r) words (push_state-length st r words) (few-axes st p.saved.state) (push-low st r words) ∙ t.axes;
        motion = push-motion st r words ∙ motion-now;
        plane = push-plane st r words ∙ plane-is;
        place = place-now;
        held = closed-held f ∙ sym e;
        rows = no_rows (push_state st r) (push_store st store r) (closed-held f) ∙ ap (map out_row) (sym c);
        start = λ z. absurd (omega arith);
        degree = λ z. absurd (omega arith);
        past = past-now;
      })

-- ---- a seed
module _ {tol : ℕ} {gs : List ℕ} {s : Standing} {st store : List ℕ} (c x : ℕ) (t : Stands tol gs s st store) (n : length st ≡ state_words)
    (few : axis_count st ≤ list_codes) where
  module _ (on : member c gs ≡ true) where
    low-code : c < axis_codes
    unfolding geometric
    low-code = geometric-small st c (ap (member c) t.axes ∙ on)

    else-word : (j : ℕ) → (w_known ≤ j → j < w_known + (axis_codes + 1) → ⊥) → get_or (placed st c x) j 0 ≡ get_or st j 0
    else-word j out = let h : c < axis_codes = low-code in placed-keeps st c x j (λ e. out (omega arith) (omega arith)) (λ e. out (omega arith) (omega arith))

    seed-place : (k : ℕ) → k < axis_codes → position (placed st c x) k ≡ moved_by_seed gs s.place c x k
    unfolding moved_by_seed
    seed-place k h =
        by_bit (eqb c k)
        (λ b. let e : c ≡ k = eqb-true c k b in
        subst (λ (j : ℕ). position (placed st c x) j ≡ cond (member j gs && eqb c j) (some x) (s.place j)) e
        (placed-here st n c x low-code ∙ sym (cond-t (some x) (s.place c) (ap (λ (z : Bool). z && eqb c c) on ∙ eq-eqb c c refl))))
        (λ b. placed-there st n c x low-code k (λ e. eqb-false c k b (sym e)) ∙ t.place k h
        ∙ sym (cond-f (some x) (s.place k) (ap (λ (z : Bool). member k gs && z) b ∙ by_bit (member k gs) (λ d. rw d) (λ d. rw d))))

    seed-start : (k : ℕ) → k < axis_codes → curve_start (placed st c x) k ≡ curve_start st k
    unfolding point_word
    seed-start k h =
        ap₂ (λ (a b : ℕ). cond (has a k) (some b) none)
        (else-word w_start (λ a b. omega arith))
        (else-word (w_start + 1 + k) (λ a b. omega arith))

    seed-past : (k : ℕ) → axis_codes ≤ k → moved_by_seed gs s.place c x k ≡ none
    unfolding moved_by_seed
    seed-past k l = cond-f _ (s.place k) (ap (λ (b : Bool). b && eqb c k) (no-axis t k l)) ∙ (t.past k l).0

    seed-rows : held_rows (placed st c x) store ≡ map out_row s.curve
    unfolding held_rows
    seed-rows = ap (upto (held_row store)) (else-word w_held (λ a b. omega arith)) ∙ t.rows

    placed-stands : Stands tol gs (with_seed gs s c x) (placed st c x) store
    unfolding with_seed
    placed-stands = record {
      tolerance = else-word w_tolerance (λ a b. omega arith) ∙ t.tolerance;
      axes = same-axes st (placed st c x) n (placed-length st c x ∙ n) few (λ j h. else-word j (λ a b. omega arith)) ∙ t.axes;
      motion = else-word w_motion (λ a b. omega arith) ∙ t.motion;
      plane = else-word w_plane (λ a b. omega arith) ∙ t.plane;
      place = seed-place;
      held = else-word w_held (λ a b. omega arith) ∙ t.held;
      rows = seed-rows;
      start = λ z k h. seed-start k h ∙ t.start z k h;
      degree = λ z. else-word w_degree (λ a b. omega arith) ∙ t.degree z;
      past = λ k l. (seed-past k l, (t.past k l).1);
    }

  -- 2.21: a seed of a code that is no geometric axis changes nothing
  unlisted : member c gs ≡ false → (k : ℕ) → moved_by_seed gs s.place c x k ≡ s.place k
  unfolding moved_by_seed
  unlisted f k =
      by_bit (eqb c k)
      (λ b. cond-f (some x) (s.place k) (ap (λ (z : Bool). z && eqb c k) (subst (λ (j : ℕ). member j gs ≡ false) (eqb-true c k b) f)))
      (λ b. cond-f (some x) (s.place k) (ap (λ (z : Bool). member k gs && z) b ∙ by_bit (member k gs) (λ d. rw d) (λ d. rw d)))

  kept-stands : member c gs ≡ false → Stands tol gs (with_seed gs s c x) st store
  unfolding with_seed
  kept-stands f = record {
    tolerance = t.tolerance;
    axes = t.axes;
    motion = t.motion;
    plane = t.plane;
    place = λ k h. t.place k h ∙ sym (unlisted f k);
    held = t.held;
    rows = t.rows;
    start = t.start;
    degree = t.degree;
    past = λ k l. (unlisted f k ∙ (t.past k l).0, (t.past k l).1);
  }

  pub seed-stands : Stands tol gs (with_seed gs s c x) (seeded st c x) store
  unfolding seeded
  seed-stands =
      by_bit (member c (geometric st))
      (λ b. rw b (placed-stands (ap (member c) (sym t.axes) ∙ b)))
      (λ b. rw b (kept-stands (ap (member c) (sym t.axes) ∙ b)))

-- ---- a close
module _ {tol : ℕ} {gs : List ℕ} {s : Standing} {st store : List ℕ} (t : Stands tol gs s st store) (n : length st ≡ state_words)
    (few : axis_count st ≤ list_codes) where
  forgotten-place : (k : ℕ) → k < axis_codes → position (forgotten st) k ≡ position st k
  unfolding point_word
  forgotten-place k h =
      ap₂ (λ (a b : ℕ). cond (has a k) (some b) none) (forgotten-keeps st w_known n (omega arith)) (forgotten-keeps st (w_known + 1 + k) n (omega arith))

  pub emptied-stands : Stands tol gs (with_close s) (forgotten st) store
  unfolding with_close
  emptied-stands = record {
    tolerance = forgotten-keeps st w_tolerance n (omega arith) ∙ t.tolerance;
    axes = same-axes st (forgotten st) n (forgotten-length st n) few (λ j h. forgotten-keeps st j n (omega arith)) ∙ t.axes;
    motion = forgotten-keeps st w_motion n (omega arith) ∙ t.motion;
    plane = forgotten-keeps st w_plane n (omega arith) ∙ t.plane;
    place = λ k h. forgotten-place k h ∙ t.place k h;
    held = held-forgotten st n;
    rows = no_rows (forgotten st) store (held-forgotten st n);
    start = λ z. absurd (omega arith);
    degree = λ z. absurd (omega arith);
    past = t.past;
  }

  pub none-stands : held st ≡ 0 → Stands tol gs (with_close s) st store
  unfolding with_close
  none-stands e = record {
    tolerance = t.tolerance;
    axes = t.axes;
    motion = t.motion;
    plane = t.plane;
    place = t.place;
    held = e;
    rows = no_rows st store e;
    start = λ z. absurd (omega arith);
    degree = λ z. absurd (omega arith);
    past = t.past;
  }

-- ---- a start
module _ (tol : ℕ) (axes : List ℕ) (ok : codes_ok axes ≡ true) where
  fresh-axes : geometric (fresh tol axes) ≡ geometric_of axes
  unfolding geometric fresh_word
  fresh-axes =
      ap (λ (k : ℕ). geometric_of (take k (drop w_axes (fresh tol axes)))) (fresh_at tol axes ok w_axis_count (omega arith))
      ∙ ap geometric_of (fresh_list tol axes ok)

  nothing : (w : ℕ) → get_or (fresh tol axes) w 0 ≡ 0 → (k : ℕ) → point_word (fresh tol axes) w k ≡ none
  unfolding point_word
  nothing w e k = cond-f _ none (ap (λ (n : ℕ). has n k) e ∙ has-none k)

  pub fresh-stands : (store : List ℕ) → Stands tol (geometric_of axes) at_first (fresh tol axes) store
  unfolding at_first fresh_word
  fresh-stands store = record {
    tolerance = fresh_at tol axes ok w_tolerance (omega arith);
    axes = fresh-axes;
    motion = fresh_at tol axes ok w_motion (omega arith);
    plane = fresh_at tol axes ok w_plane (omega arith);
    place = λ k h. nothing w_known (fresh_at tol axes ok w_known (omega arith)) k;
    held = fresh_at tol axes ok w_held (omega arith);
    rows = no_rows (fresh tol axes) store (fresh_at tol axes ok w_held (omega arith));
    start = λ z. absurd (omega arith);
    degree = λ z. absurd (omega arith);
    past = λ k l. (refl, refl);
  }
