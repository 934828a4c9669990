-- LAWS. The group of a held block is as demand 3 asks: unchanged, its point, or its samples. Assumes nothing.
use Prim.Native.Nat.{ℕ, suc, ◌+◌, ◌-◌, ◌*◌, ◌≤◌, ◌<◌}
use Rattle.std.specs.Prelude.{◌≡◌, Bool, ◌&&◌, ◌||◌, eqb, pos, Float}
use Rattle.std.proofs.Math.Path.{refl, sym, ap, subst}
use Rattle.std.proofs.Common.{◌∙◌, add-one, length-append, eqb-true, eq-eqb, ne_eqb}
use Rattle.std.proofs.Math.Bool.{true, false, cond, not}
use Rattle.std.proofs.lemmas.Bool.{false≢true, eqb-false, not-false}
use mathlib.Core.List.{List, [], ◌∷◌, ◌++◌, map, map-append}
use Rattle.std.proofs.Math.Option.{none, some}
use Rattle.std.proofs.Math.Logic.{⊎_elim}
use native.Mathlib.Omega.{arith}
use Rattle.std.proofs.Math.ListN.{length, get_or, take, length-map}
use Rattle.std.proofs.Math.Seq.{get_or_at, take_at}
use Rattle.std.proofs.Math.Dec.{T}
use Rattle.std.specs.Float.Ieee.{nan, binary64, fits, eq, up, down}
use Rattle.std.specs.Float.{inf, fin}
use Rattle.std.specs.Float.Ieee.Fits.{down_pos, div-fits}
use Rattle.floats.specs.Numbers.{num, bits, at, f1, of_nat}
use Rattle.floats.specs.Lists.{upto, keep, member}
use Rattle.floats.specs.Fill.{at-upto}
use Rattle.floats.specs.FloatLaws.{one, one-is, tidy, fits_unique}
use Rattle.layout.specs.Layout.{axis_codes, most_held}
use Rattle.motion.specs.Motion.{g_one, is_cubic}
use Rattle.row_cells.specs.Row.{cell, has_point, mark_of, out_row}
use Rattle.row_made.specs.Made.{made_row}
use Rattle.row_numbers.specs.RowNumbers.{within}
use Rattle.floats.specs.Truth.{by_bit, and_left, and_right, cond-t, cond-f}
use Rattle.floats.specs.Joins.{keep_append, keep-here}
use Rattle.curve_metric.specs.Metric.{point_of}
use Rattle.curve_metric.specs.Ends.{EndsWith, ends_last}
use Rattle.fit_knots.specs.Fit.{fit_runs}
use Rattle.bspline_tables.specs.Basis.{basis_runs, basis_of, spans_of, eval_basis}
use Rattle.bspline_tables.specs.BasisLaws.{runs_length}
use Rattle.bspline_tables.specs.LastRun.{last-run}
use Rattle.bspline_tables.specs.EndPoint.{end-point}
use Rattle.curve_drawing.specs.Runs.{curve_runs}
use Rattle.spline_answer.specs.Words.{Spline, is_bspline, point_rows, channels, start_point, points_from, metric_of, weight_of, runs_of, place_of, sample_cell}
use Rattle.spline_answer.specs.Words.{own_cell, is_marked, point_group, held_group}
use Rattle.demand_calls.specs.Every.{Every}
use Rattle.demand_calls.specs.Laws.{some_same, none-some, every_head, every_tail, every_keep}
use Rattle.demand_groups.specs.Group.{Bare, Group}
use Rattle.demand_groups.specs.InRange.{in_range, tidy_eq, num-bits, shown-bits}
use Rattle.demand_groups.proofs.Shapes.{one_shaped, upto_shaped, made-line, made-mark, made-formed, made-shows, made-bare, made-carries, out_shaped}
use Rattle.demand_groups.proofs.Shapes.{programmed, same_number}
use Rattle.demand_state.specs.Accepted.{Fine}
use Rattle.demands.specs.SplinePoints.{channels-listed, Word, word-modest, word_fits, Words, start-words, all_words, all-weights}
use Rattle.demands.specs.SplineRuns.{fit_length, fit-ends, points-length, PointOf, point-of, place-of, Placed, point-number}

-- a weight that equals 1 is 1
one_only : (y : Float) → T (fits binary64 y) → eq y one ≡ true → y ≡ one
unfolding eq fits
one_only nan f e = absurd (false≢true e)
one_only (inf s) f e = absurd (false≢true e)
one_only (fin true m d) f e =
    let a : m * up d * 1 ≡ 1 * 1 * down d = eqb-true _ _ (and_left (eqb (m * up d * 1) (1 * 1 * down d)) (eqb (m * up d * 1) 0) e) in
    let b : m * up d * 1 ≡ 0 = eqb-true _ _ (and_right (eqb (m * up d * 1) (1 * 1 * down d)) (eqb (m * up d * 1) 0) e) in
    let c : 0 < down d = down_pos d in
    absurd (omega arith)
one_only (fin false m d) f e = fits_unique binary64 false m d 1 (pos 0) f tt (eqb-true _ _ (and_left (eqb (m * up d * 1) (1 * 1 * down d)) true e))

weight_one : (y : Float) → T (fits binary64 y) → eq y f1 ≡ true → y ≡ one
weight_one y f e = one_only y f (ap (eq y) (sym one-is) ∙ e)

-- the mark of a row
unmarked : (b : Bool) → ◌≡◌ {A = ℕ} (cond b 1 0) 0 → b ≡ false
unmarked true e = let z : ◌≡◌ {A = ℕ} 1 0 = e in absurd (omega arith)
unmarked false e = refl

kept-most : {A : Type 0} (p : A → Bool) (xs : List A) → length (keep p xs) ≤ length xs
unfolding keep
kept-most p [] = omega arith
kept-most p (x ∷ xs) = by-test (p x) (kept-most p xs)
  where
    by-test : (b : Bool) → length (keep p xs) ≤ length xs → length (cond b (x ∷ keep p xs) (keep p xs)) ≤ suc (length xs)
    by-test true h = omega arith
    by-test false h = omega arith

every_mid : {A : Type 0} {Q : A → Type 0} (us : List A) (x : A) (vs : List A) → Every Q (us ++ (x ∷ vs)) → Q x
every_mid [] x vs e = every_head e
every_mid (u ∷ us) x vs e = every_mid us x vs (every_tail e)

-- ---- block r of a spline, after the blocks B and before the blocks M
module _ (sp : Spline) (B : List (List ℕ)) (r : List ℕ) (M : List (List ℕ)) (is : sp.blocks ≡ B ++ (r ∷ M)) where
  P : List ℕ → Bool
  P q = has_point sp.axes q

  X : List (List ℕ)
  X = keep P B

  Y : List (List ℕ)
  Y = keep P M

  held_at : (runs : List (List (List Float))) → held_group sp runs (length B)
      ≡ cond (has_point sp.axes r) (point_group sp (channels sp) (length runs) (length X) (get_or runs (length X) []) r) (out_row r ∷ [])
  unfolding held_group X P
  held_at runs =
      let a : get_or sp.blocks (length B) [] ≡ r = ap (λ (l : List (List ℕ)). get_or l (length B) []) is ∙ get_or_at B r M [] (length B) refl in
      let b : take (length B) sp.blocks ≡ B = ap (take (length B)) is ∙ take_at B (r ∷ M) (length B) refl in
      rw (a, b)

  module _ (y : has_point sp.axes r ≡ true) where
    point-rows : point_rows sp ≡ X ++ (r ∷ Y)
    unfolding point_rows X Y P
    point-rows =
        ap (keep (has_point sp.axes)) is
        ∙ keep_append (has_point sp.axes) B (r ∷ M)
        ∙ ap (λ (l : List (List ℕ)). keep (has_point sp.axes) B ++ l) (keep-here (has_point sp.axes) r M y)

    rows-length : length (point_rows sp) ≡ length X + suc (length Y)
    rows-length = ap length point-rows ∙ length-append X (r ∷ Y)

  -- the curve's points and weights
  pts : List (List Float)
  pts = start_point sp (channels sp) ∷ points_from (channels sp) (start_point sp (channels sp)) (point_rows sp)

  ws : List Float
  ws = f1 ∷ map weight_of (point_rows sp)

  bas : List (List (List Float))
  bas = basis_runs sp.power (metric_of (channels sp)) sp.tol pts ws

  fit : List (List (List Float))
  fit = fit_runs (is_cubic sp.motion) (metric_of (channels sp)) sp.tol pts

  runs_is : runs_of sp ≡ cond (is_bspline sp) bas fit
  unfolding runs_of curve_runs bas fit pts ws
  runs_is = refl

  pts-length : length pts ≡ suc (length (point_rows sp))
  unfolding pts
  pts-length = ap suc (points-length (channels sp) (start_point sp (channels sp)) (point_rows sp))

  runs_size : length (runs_of sp) ≡ length (point_rows sp)
  unfolding bas fit
  runs_size =
      ap length runs_is
      ∙ by_bit (is_bspline sp)
      (λ b.
      ap length (cond-t bas fit b)
      ∙ runs_length sp.power (metric_of (channels sp)) sp.tol pts ws
      ∙ ap (λ (n : ℕ). n - 1) pts-length
      ∙ less_one (length (point_rows sp)))
      (λ b.
      ap length (cond-f bas fit b)
      ∙ fit_length (is_cubic sp.motion) (metric_of (channels sp)) sp.tol pts
      ∙ ap (λ (n : ℕ). n - 1) pts-length
      ∙ less_one (length (point_rows sp)))
    where
      less_one : (n : ℕ) → suc n - 1 ≡ n
      less_one n = omega arith

  -- ---- the end of its run
  module _ (fs : Every Fine sp.blocks) (start : (k x : ℕ) → sp.start k ≡ some x → within x ≡ true)
      (small : (k : ℕ) → member k sp.axes ≡ true → k < axis_codes) (few : length sp.blocks ≤ most_held) where
    fine : Fine r
    fine = every_mid B r M (subst (Every Fine) is fs)

    low : (k : ℕ) → member k (channels sp) ≡ true → k < axis_codes
    unfolding channels
    low k m = small k (channels-listed sp.axes sp.blocks k m)

    rows-most : length (point_rows sp) ≤ length sp.blocks
    unfolding point_rows
    rows-most = kept-most (has_point sp.axes) sp.blocks

    run : List (List Float)
    run = get_or (runs_of sp) (length X) []

    end : List Float
    end = get_or run (length run - 1) []

    module _ (y : has_point sp.axes r ≡ true) where
      run-within : length X < length pts - 1
      run-within = omega (arith, pts-length, rows-length y)

      own-point : (k v : ℕ) → member k (channels sp) ≡ true → cell r k ≡ some v → at (point_of pts (length X + 1)) (place_of k (channels sp)) ≡ num v
      unfolding pts
      own-point k v m e =
          let q : PointOf (channels sp) (start_point sp (channels sp)) X r Y = point-of (channels sp) (start_point sp (channels sp)) X r Y in
          ap (λ (i : ℕ). at (point_of pts i) (place_of k (channels sp))) (add-one (length X))
          ∙ ap (λ (l : List (List ℕ)). at (get_or (points_from (channels sp) (start_point sp (channels sp)) l) (length X) []) (place_of k (channels sp)))
          (point-rows y)
          ∙ ap (λ (p : List Float). at p (place_of k (channels sp))) q.is
          ∙ point-number (channels sp) q.from r k v m e

      -- a fit's: the programmed point
      fit-end : is_bspline sp ≡ false → (length run ≡ 0 → ⊥) → end ≡ point_of pts (length X + 1)
      unfolding end run fit
      fit-end b has =
          let e : run ≡ get_or fit (length X) [] = ap (λ (l : List (List (List Float))). get_or l (length X) []) (runs_is ∙ cond-f bas fit b) in
          ⊎_elim
          (λ (z : get_or fit (length X) [] ≡ []). absurd (has (ap length (e ∙ z))))
          (λ (z : EndsWith (get_or fit (length X) []) (point_of pts (length X + 1))). ap (λ (l : List (List Float)). get_or l (length l - 1) []) e
          ∙ ends_last z [])
          (fit-ends (is_cubic sp.motion) (metric_of (channels sp)) sp.tol pts (length X) run-within)

      -- a B-spline's last: the curve's end
      basis-end : is_bspline sp ≡ true → length Y ≡ 0 → end ≡ eval_basis (basis_of sp.power pts ws) (of_nat (spans_of (basis_of sp.power pts ws)))
      unfolding end run bas
      basis-end b z =
          let n : length pts ≡ suc (length X + suc (length Y)) = pts-length ∙ ap suc (rows-length y) in
          let i : length pts - 2 ≡ length X = omega arith in
          let l : length (point_rows sp) ≤ length sp.blocks = rows-most in
          let e : run ≡ get_or bas (length X) [] = ap (λ (l : List (List (List Float))). get_or l (length X) []) (runs_is ∙ cond-t bas fit b) in
          let w : EndsWith (get_or bas (length pts - 2) []) (eval_basis (basis_of sp.power pts ws) (of_nat (spans_of (basis_of sp.power pts ws)))) =
          last-run sp.power (metric_of (channels sp)) sp.tol pts ws (omega arith) (omega (arith, pts-length)) in
          ap (λ (l : List (List Float)). get_or l (length l - 1) []) (e ∙ ap (λ (k : ℕ). get_or bas k []) (sym i)) ∙ ends_last w []

      -- the numbers of its points and weights
      row_fine : Every Fine (point_rows sp)
      unfolding point_rows
      row_fine = every_keep (has_point sp.axes) fs

      point-words : (i : ℕ) → i < length pts → Words (length (channels sp)) (point_of pts i)
      unfolding pts start_point
      point-words i h =
          all_words (channels sp) low (start_point sp (channels sp)) (point_rows sp) (start-words (channels sp) low sp.start start sp.blocks fs) row_fine i
          (subst (λ (n : ℕ). i < n) pts-length h)

      weight_words : (i : ℕ) → i < length pts → Word (at ws i)
      unfolding ws
      weight_words i h = all-weights (point_rows sp) row_fine i (subst (λ (n : ℕ). i < n) pts-length h)

      own_weight : length Y ≡ 0 → at ws (length pts - 1) ≡ weight_of r
      unfolding ws
      own_weight z =
          let n : length pts - 1 ≡ suc (length X) = omega (arith, pts-length, rows-length y) in
          ap (λ (i : ℕ). at ws i) n
          ∙ ap (λ (l : List (List ℕ)). at (map weight_of l) (length X)) (point-rows y)
          ∙ ap (λ (l : List Float). at l (length X)) (map-append weight_of X (r ∷ Y))
          ∙ get_or_at (map weight_of X) (weight_of r) (map weight_of Y) nan (length X) (length-map X weight_of)

      start-length : length (point_of pts 0) ≡ length (channels sp)
      unfolding pts start_point
      start-length = length-map (channels sp) _

      -- 8.9: on the last point of a B-spline this asks for weight 1
      basis-number : is_bspline sp ≡ true → length Y ≡ 0 → eq (weight_of r) f1 ≡ true → (k v : ℕ) → member k (channels sp) ≡ true → cell r k ≡ some v
          → tidy (at end (place_of k (channels sp))) ≡ tidy (num v)
      basis-number b z one k v m e =
          let c : ℕ = place_of k (channels sp) in
          let q : Placed k (channels sp) = place-of k (channels sp) m in
          let n : length pts ≡ suc (length X + suc (length Y)) = pts-length ∙ ap suc (rows-length y) in
          let last : length pts - 1 ≡ length X + 1 = omega arith in
          ap (λ (p : List Float). tidy (at p c)) (basis-end b z)
          ∙ end-point sp.power pts ws c (omega arith) (omega (arith, pts-length, rows-most)) (omega (arith, q.low, start-length))
          (λ i h. word-modest (point-words i h c q.low))
          (λ i h. (word-modest (weight_words i h), word_fits (weight_words i h)))
          (word_fits (point-words (length pts - 1) (omega arith) c q.low))
          (own_weight z
          ∙ weight_one (weight_of r) (subst (λ (x : Float). T (fits binary64 x)) (own_weight z) (word_fits (weight_words (length pts - 1) (omega arith)))) one)
          ∙ ap tidy (ap (λ (i : ℕ). at (point_of pts i) c) last ∙ own-point k v m e)

      basis-fits : is_bspline sp ≡ true → length Y ≡ 0 → (k : ℕ) → member k (channels sp) ≡ true → T (fits binary64 (at end (place_of k (channels sp))))
      unfolding eval_basis basis_of
      basis-fits b z k m =
          let q : Placed k (channels sp) = place-of k (channels sp) m in
          subst (λ (x : Float). T (fits binary64 x))
          (sym
          (ap (λ (p : List Float). at p (place_of k (channels sp))) (basis-end b z)
          ∙ at-upto _ (length (point_of pts 0)) (place_of k (channels sp)) nan (omega (arith, q.low, start-length))))
          (div-fits binary64 _ _)

      -- ---- the group
      module _ {last : Bool} (is_last : is_bspline sp ≡ true → length Y ≡ 0 → last ≡ true) where
        end-number : (is_bspline sp && not (eqb (length X + 1) (length (runs_of sp)))) ≡ false → (length run ≡ 0 → ⊥)
            → (last ≡ true → eq (weight_of r) f1 ≡ true) → (k v : ℕ) → member k (channels sp) ≡ true → member k sp.axes ≡ true → cell r k ≡ some v
            → eq (num (bits (at end (place_of k (channels sp))))) (num v) ≡ true
        end-number f has a k v m g e =
            let low-code : k < axis_codes = small k g in
            let passes : within v ≡ true = programmed sp.axes r fine k v (omega arith) e in
            by_bit (is_bspline sp)
            (λ b.
            let t : eqb (length X + 1) (length (runs_of sp)) ≡ true = not-false _
            (sym (ap (λ (z : Bool). z && not (eqb (length X + 1) (length (runs_of sp)))) b) ∙ f) in
            let n : length X + 1 ≡ length (runs_of sp) = eqb-true (length X + 1) (length (runs_of sp)) t in
            let z : length Y ≡ 0 = omega (arith, runs_size, rows-length y) in
            ap (λ (x : Float). eq x (num v)) (num-bits (at end (place_of k (channels sp))) (basis-fits b z k m))
            ∙ tidy_eq (at end (place_of k (channels sp))) (num v) (basis-number b z (a (is_last b z)) k v m e) (in_range v passes))
            (λ b. ap (λ (x : Float). eq (num (bits x)) (num v)) (ap (λ (p : List Float). at p (place_of k (channels sp))) (fit-end b has) ∙ own-point k v m e)
            ∙ shown-bits v passes)

        end-shows : (is_bspline sp && not (eqb (length X + 1) (length (runs_of sp)))) ≡ false → (length run ≡ 0 → ⊥)
            → (last ≡ true → eq (weight_of r) f1 ≡ true) → (k v w : ℕ) → member k sp.axes ≡ true → cell r k ≡ some v
            → sample_cell (channels sp) end k ≡ some w → eq (num w) (num v) ≡ true
        unfolding sample_cell
        end-shows f has a k v w g e c =
            by_bit (member k (channels sp))
            (λ m. let q : some (bits (at end (place_of k (channels sp)))) ≡ some w = sym (cond-t _ none m) ∙ c in
            let z : bits (at end (place_of k (channels sp))) ≡ w = some_same q in
            ap (λ (x : ℕ). eq (num x) (num v)) (sym z) ∙ end-number f has a k v m g e)
            (λ m. absurd (none-some (sym (cond-f _ none m) ∙ c)))

        word0 : ℕ
        word0 = cond (eqb (length X) 0) g_one 0

        row : ℕ → List ℕ
        row i = made_row sp.axes r (eqb i 0) word0 (is_marked sp (length (runs_of sp)) (length X) (length run) i) (sample_cell (channels sp) (get_or run i []))

        off : (p : List Float) (k : ℕ) → member k sp.axes ≡ false → sample_cell (channels sp) p k ≡ none
        unfolding sample_cell channels
        off p k m = cond-f _ none (by_bit (member k (channels sp)) (λ b. absurd (false≢true (sym m ∙ channels-listed sp.axes sp.blocks k b))) (λ b. b))

        row-bare : (i : ℕ) → 0 < i → Bare sp.axes (row i)
        unfolding row
        row-bare i p =
            subst
            (λ (b : Bool).
            Bare sp.axes
            (made_row sp.axes r b word0 (is_marked sp (length (runs_of sp)) (length X) (length run) i) (sample_cell (channels sp) (get_or run i []))))
            (sym (ne_eqb i 0 (λ z. omega arith))) (made-bare sp.axes r word0 _ _ (off (get_or run i [])))

        row-marked : (i : ℕ) → i + 1 < length run → mark_of (row i) ≡ 1
        unfolding row is_marked
        row-marked i h =
            made-mark sp.axes r _ _ _ _
            ∙ ap (λ (b : Bool). cond (not b || (is_bspline sp && not (eqb (length X + 1) (length (runs_of sp))))) 1 0)
            (ne_eqb (i + 1) (length run) (λ z. omega arith))

        row-end : 0 < length run → mark_of (row (length run - 1)) ≡ 0 → (is_bspline sp && not (eqb (length X + 1) (length (runs_of sp)))) ≡ false
        unfolding row is_marked
        row-end p u =
            let i : length run - 1 + 1 ≡ length run = omega arith in
            unmarked _
            (sym
            (made-mark sp.axes r _ _ _ _
            ∙ ap (λ (b : Bool). cond (not b || (is_bspline sp && not (eqb (length X + 1) (length (runs_of sp))))) 1 0)
            (eq-eqb (length run - 1 + 1) (length run) i))
            ∙ u)

        made_shaped : (length run ≡ 0 → ⊥) → Group sp.axes r last (upto row (length run))
        unfolding row end
        made_shaped has =
            let p : 0 < length run = omega (arith, has) in
            upto_shaped row (length run) p (λ i h. made-formed sp.axes r _ _ _ _) (λ i h. made-line sp.axes r _ _ _ _)
            (made-carries sp.axes r word0 _ _) (λ i q h. row-bare i q) row-marked
            (λ u a. made-shows sp.axes r fine _ word0 _ _ (off end) (end-shows (row-end p u) has a))

        bare_shaped : Group sp.axes r last (made_row sp.axes r true word0 false (own_cell sp r) ∷ [])
        unfolding own_cell
        bare_shaped =
            one_shaped _ (made-formed sp.axes r _ _ _ _) (made-line sp.axes r _ _ _ _) (made-carries sp.axes r word0 false (own_cell sp r))
            (λ a. made-shows sp.axes r fine true word0 false (own_cell sp r)
            (λ k m. cond-f (cell r k) none (ap (λ (b : Bool). b && not (is_bspline sp)) m))
            (λ k v w g e c. let h : k < axis_codes = small k g in
            by_bit (member k sp.axes && not (is_bspline sp))
            (λ b. same_number sp.axes r fine k v w (omega arith) e (sym (cond-t (cell r k) none b) ∙ c))
            (λ b. absurd (none-some (sym (cond-f (cell r k) none b) ∙ c)))))

        point_shaped : Group sp.axes r last (point_group sp (channels sp) (length (runs_of sp)) (length X) run r)
        unfolding point_group row word0
        point_shaped =
            by_bit (eqb (length run) 0)
            (λ b. subst (Group sp.axes r last) (sym (cond-t _ _ b)) bare_shaped)
            (λ b. subst (Group sp.axes r last) (sym (cond-f _ _ b)) (made_shaped (eqb-false _ 0 b)))

    -- a held block of a spline
    pub held_shaped : {last : Bool}
        → (is_bspline sp ≡ true → has_point sp.axes r ≡ true → length (keep (has_point sp.axes) M) ≡ 0 → last ≡ true)
        → Group sp.axes r last (held_group sp (runs_of sp) (length B))
    unfolding run Y P
    held_shaped {last} is_last =
        subst (Group sp.axes r last) (sym (held_at (runs_of sp)))
        (by_bit (has_point sp.axes r)
        (λ y. subst (Group sp.axes r last) (sym (cond-t _ _ y)) (point_shaped y (λ b z. is_last b y z)))
        (λ y. subst (Group sp.axes r last) (sym (cond-f _ _ y)) (out_shaped sp.axes r fine)))
