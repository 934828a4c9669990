-- LAWS. The emission as the code has it is the held spline's, of few rows, each of its full width; room for them. Assumes nothing.
use Rattle.std.specs.Prelude.{ℕ, zero, suc, ◌+◌, ◌*◌, ◌/◌, ◌^◌, ◌<◌, ◌≤◌, ◌≡◌, refl, Bool, true, false, cond, ◌&&◌, not, List, [], ◌∷◌, ◌++◌, get_or}
use Rattle.std.specs.Prelude.{take, drop, leb, eqb, Float}
use Rattle.std.proofs.Common.{sym, ◌∙◌, ap, ap₂, subst, append-nil, arith, length-append, length-take, length-drop, get_or-take, get_or-drop, eq-eqb, le-leb}
use Rattle.std.proofs.Math.Path.{fun_ext}
use Rattle.std.proofs.lemmas.Bool.{false≢true, lt-leb, not-true}
use Rattle.std.proofs.Math.Option.{Option, none, some}
use Rattle.std.proofs.Math.ListN.{length}
use Rattle.floats.specs.Lists.{upto, flatten, keep, spliced, all}
use Rattle.floats.specs.Fill.{length-upto}
use Rattle.layout.specs.Layout.{axis_codes, axis_masks, row_words, w_start, state_words, most_held, last_code, list_codes}
use Rattle.row_cells.specs.Bits.{has}
use Rattle.row_cells.specs.Row.{shown, has_point}
use Rattle.row_cells.proofs.RowLaws.{length-out}
use Rattle.row_made.specs.MadeLaws.{length-made}
use Rattle.floats.specs.Truth.{by_bit, cond-t, cond-f, all-at, and_right}
use Rattle.floats.specs.Joins.{flatten_append}
use Rattle.spline_channels.specs.Channels.{Spline, channels, point_rows, block_at}
use Rattle.spline_points.specs.Points.{start_point, points_from}
use Rattle.spline_metric.specs.Metric.{metric_of}
use Rattle.spline_channels.specs.Gathers.{Once}
use Rattle.spline_channels.specs.Flat.{Sized, sized_append, sized-cons, length-flatten}
use Rattle.spline_points.specs.Curve.{points-length}
use Rattle.spline_channels.specs.Keeps.{keep-most}
use Rattle.spline_places.specs.Groups.{point_group, held_group}
use Rattle.spline_answer.specs.Runs.{runs_of}
use Rattle.spline_answer.specs.Emission.{spline_groups}
use Rattle.row_room.specs.Room.{put_within}
use Rattle.spline_curve.specs.Asks.{Holds}
use Rattle.saved_state.specs.State.{axis_count, motion_now, degree, held, tolerance, geometric, point_word, curve_start, held_rows, code_ok, codes_ok}
use Rattle.saved_state.specs.State.{axes_ok, state_ok, saved_check}
use Rattle.saved_state.specs.StateLaws.{Good, good, good-few, point-small}
use Rattle.spline_answer.specs.Held.{held_spline, emission}
use Rattle.saved_state.specs.Checked.{saved-ok, saved-store}
use Rattle.spline_curve.specs.Widths.{runs_few}
use Rattle.spline_sample.specs.SampleLaws.{bit_below}
use Rattle.spline_plan.specs.Plans.{most_emitted}
use Rattle.spline_put.specs.Emitted.{codes_of, start_of, spline_in, Put}

abbrev spline_with : List ℕ → (ℕ → Option ℕ) → List (List ℕ) → Spline
spline_with st start blocks = record { motion = motion_now st; power = degree st; tol = tolerance st; axes = geometric st; start = start; blocks = blocks }

abbrev most : ℕ
most = 2 ^ 48 + 1

-- ---- as a state and a store have them: a part of the state, a word an axis, beside its mask, and the held rows
shown-part : (m a : ℕ) (l : List ℕ) → m < axis_masks → shown m (take axis_codes (drop a l)) ≡ (λ (k : ℕ). cond (has m k) (some (get_or l (a + k) 0)) none)
unfolding shown
shown-part m a l h = fun_ext (λ k. one k (has m k) refl)
  where
    one : (k : ℕ) (b : Bool) → has m k ≡ b → cond b (some (get_or (take axis_codes (drop a l)) k 0)) none ≡ cond b (some (get_or l (a + k) 0)) none
    one k false e = refl
    one k true e = ap some (get_or-take axis_codes (drop a l) k 0 (bit_below m k h e) ∙ get_or-drop a l k 0)

blocks_are : (store : List ℕ) (held : ℕ) → upto (block_at store) held ≡ upto (λ (i : ℕ). take row_words (drop (i * row_words) store)) held
unfolding block_at
blocks_are store held = refl

start_is : (st : List ℕ) → get_or st w_start 0 < 2 ^ axis_codes → shown (get_or st w_start 0) (start_of st) ≡ curve_start st
unfolding point_word
start_is st h = shown-part (get_or st w_start 0) (w_start + 1) st h

pub spline-is : (st store : List ℕ) → state_ok st ≡ true → spline_in st store ≡ held_spline st store
unfolding held_spline geometric held_rows
spline-is st store ok =
    ap₂ (λ (s : ℕ → Option ℕ) (b : List (List ℕ)). spline_with st s b)
    (start_is st (point-small st w_start (good st ok).start))
    (blocks_are store (held st))

pub emission-is : (st store : List ℕ) → state_ok st ≡ true → flatten (spline_groups (spline_in st store)) ≡ emission st store
unfolding emission
emission-is st store ok = ap (λ (s : Spline). flatten (spline_groups s)) (spline-is st store ok)

-- ---- what the code asks
once-codes : (axes : List ℕ) → codes_ok axes ≡ true → Once axes
unfolding codes_ok code_ok
once-codes axes p =
    record {
      once = λ i j l m e.
          let c : (leb (get_or axes j 0) last_code && all j (λ (n : ℕ). not (eqb (get_or axes n 0) (get_or axes j 0)))) ≡ true =
          all-at (length axes) (code_ok axes) j (and_right (leb (length axes) list_codes) (all (length axes) (code_ok axes)) p) m in
          let d : not (eqb (get_or axes i 0) (get_or axes j 0)) ≡ true =
          all-at j (λ (n : ℕ). not (eqb (get_or axes n 0) (get_or axes j 0))) i
          (and_right (leb (get_or axes j 0) last_code) (all j (λ (n : ℕ). not (eqb (get_or axes n 0) (get_or axes j 0)))) c) l in
          false≢true (sym (not-true (eqb (get_or axes i 0) (get_or axes j 0)) d) ∙ eq-eqb (get_or axes i 0) (get_or axes j 0) e);
    }

start-long : (st : List ℕ) → length st ≡ state_words → axis_codes ≤ length (start_of st)
start-long st h = simp (length-take, length-drop) (omega arith)

pub holds : (st store : List ℕ) → saved_check st store ≡ 0 → Holds (codes_of st) (start_of st) store (held st)
unfolding axes_ok
holds st store p =
    let g : Good st = good st (saved-ok st store p) in
    record {
      once = once-codes (codes_of st) (and_right (leb (axis_count st) list_codes) (codes_ok (codes_of st)) g.axes);
      start = start-long st g.long;
      lent = saved-store st store p;
      many = good-few st g;
    }

-- ---- every row of the emission has its width
sized-none : Sized {A = ℕ} row_words []
unfolding Sized
sized-none = tt

sized-upto : (f : ℕ → List ℕ) → ((i : ℕ) → length (f i) ≡ row_words) → (n : ℕ) → Sized row_words (upto f n)
unfolding upto
sized-upto f e zero = sized-none
sized-upto f e (suc n) = sized_append row_words (upto f n) (f n ∷ []) (sized-upto f e n) (sized-cons row_words (f n) [] (e n) sized-none)

sized-groups : (g : ℕ → List (List ℕ)) → ((i : ℕ) → Sized row_words (g i)) → (n : ℕ) → Sized row_words (flatten (upto g n))
unfolding upto flatten
sized-groups g e zero = sized-none
sized-groups g e (suc n) =
    subst (Sized row_words) (sym (flatten_append (upto g n) (g n ∷ []) ∙ ap (λ (l : List (List ℕ)). flatten (upto g n) ++ l) (append-nil (g n))))
    (sized_append row_words (flatten (upto g n)) (g n) (sized-groups g e n) (e n))

sized-one : (r : List ℕ) → length r ≡ row_words → Sized row_words (r ∷ [])
sized-one r e = sized-cons row_words r [] e sized-none

sized_group : (s : Spline) (runs : List (List (List Float))) (i : ℕ) → Sized row_words (held_group s runs i)
unfolding held_group point_group
sized_group s runs i =
    by_bit (has_point s.axes (get_or s.blocks i []))
    (λ b. rw b (by_bit (eqb (length (get_or runs (length (keep (has_point s.axes) (take i s.blocks))) [])) 0)
    (λ z. rw z (sized-one _ (length-made _ _ _ _ _ _)))
    (λ z. rw z (sized-upto _ (λ k. length-made _ _ _ _ _ _) _))))
    (λ b. rw b (sized-one _ (length-out _)))

pub emission-words : (st store : List ℕ) → length (flatten (emission st store)) ≡ length (emission st store) * row_words
unfolding emission spline_groups
emission-words st store =
    length-flatten row_words (flatten (spline_groups (held_spline st store)))
    (sized-groups (held_group (held_spline st store) (runs_of (held_spline st store))) (sized_group (held_spline st store) (runs_of (held_spline st store)))
    (length (held_spline st store).blocks))

few_group : (s : Spline) (runs : List (List (List Float))) → ((j : ℕ) → length (get_or runs j []) ≤ 2 ^ 48) → (i : ℕ) → length (held_group s runs i) ≤ most
unfolding held_group point_group
few_group s runs few i =
    let run : List (List Float) = get_or runs (length (keep (has_point s.axes) (take i s.blocks))) [] in
    let h : length run ≤ 2 ^ 48 = few (length (keep (has_point s.axes) (take i s.blocks))) in
    by_bit (has_point s.axes (get_or s.blocks i []))
    (λ b. rw b (by_bit (eqb (length run) 0)
    (λ z. rw z (omega arith))
    (λ z. rw (z, length-upto) (omega arith))))
    (λ b. rw b (omega arith))

few-groups : (g : ℕ → List (List ℕ)) → ((i : ℕ) → length (g i) ≤ most) → (n : ℕ) → length (flatten (upto g n)) ≤ n * most
unfolding upto flatten
few-groups g e zero = omega arith
few-groups g e (suc n) =
    rw (flatten_append (upto g n) (g n ∷ []), append-nil (g n), length-append (flatten (upto g n)) (g n))
    (omega (arith, few-groups g e n, e n))

few_runs : (s : Spline) → length s.blocks ≤ most_held → (j : ℕ) → length (get_or (runs_of s) j []) ≤ 2 ^ 48
unfolding runs_of point_rows
few_runs s h j =
    let cs : List ℕ = channels s in
    let rs : List (List ℕ) = keep (has_point s.axes) s.blocks in
    let p : List Float = start_point s cs in
    runs_few s.motion s.power (metric_of cs) s.tol (p ∷ points_from cs p rs) _ j
    (omega (arith, points-length cs p rs, keep-most (has_point s.axes) s.blocks))

pub emission-few : (st store : List ℕ) → held st ≤ most_held → length (emission st store) ≤ most_emitted
unfolding emission spline_groups held_spline held_rows
emission-few st store h =
    let s : Spline = held_spline st store in
    let n : length (held_rows st store) ≡ held st = length-upto _ (held st) in
    omega (arith, few-groups (held_group s (runs_of s)) (few_group s (runs_of s) (few_runs s (omega arith))) (length (held_rows st store)), n)

-- rows that are put where they and `own` more, k together, have room
module _ (own : ℕ) (out : List (List ℕ)) (l : List ℕ) (n : ℕ) (l1 : List ℕ) (p : Put own out l n l1) (e : length l1 ≡ length l) (k : ℕ) (ek : k ≡ n + own) where
  pub room-left : k ≤ length l1 / row_words → k ≤ length l / row_words
  room-left h = rw e at h

  pub room-short : length l1 / row_words < k → length l / row_words < k
  room-short h = rw e at h

  pub put_refused : length l1 / row_words < k → l1 ≡ l
  unfolding put_within
  put_refused h =
      let s : length l / row_words < length out + own = (let q : length l / row_words < k = room-short h in omega (arith, p.count)) in
      p.rows ∙ cond-f _ _ (lt-leb (length out + own) (length l / row_words) s)

  pub put_written : k ≤ length l1 / row_words → l1 ≡ spliced l 0 (flatten out)
  unfolding put_within
  put_written h =
      let s : length out + own ≤ length l / row_words = (let q : k ≤ length l / row_words = room-left h in omega (arith, p.count)) in
      p.rows ∙ cond-t _ _ (le-leb (length out + own) (length l / row_words) s)
