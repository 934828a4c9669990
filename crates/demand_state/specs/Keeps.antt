-- LAWS. What an accepted call leaves is not refused by 9 or 8: the state and the store after a seed, a push, a close. Assumes nothing.
use Prim.Native.Nat.{ℕ, zero, suc, ◌+◌, ◌*◌, ◌^◌, ◌<◌, ◌≤◌, min, max}
use Rattle.std.specs.Prelude.{◌≡◌, Bool, false, ◌&&◌, ◌||◌, cond, set}
use Rattle.std.proofs.Math.Path.{refl, ap, ap₂, subst}
use Rattle.std.proofs.Common.{sym, ◌∙◌, get_or-set_same}
use Rattle.std.proofs.Math.Bool.{true, not, or-true}
use Rattle.std.proofs.lemmas.Bool.{false≢true}
use mathlib.Core.List.{List}
use Rattle.std.proofs.Math.Option
use Rattle.std.proofs.Math.Option.{Option, none, some}
use native.Mathlib.Omega.{arith}
use Rattle.std.proofs.Math.ListN.{length, get_or}
use Rattle.std.proofs.Math.Seq.{get_or-set_other}
use Rattle.std.proofs.Math.Dec.{leb, ltb, eqb}
use borrow.Author.Tests.{eqb-true, lt-ltb, le-leb, eq-eqb, eqb-false}
use Rattle.floats.specs.Lists.{member, spliced, all}
use Rattle.floats.specs.Fill.{length-upto, at-upto}
use Rattle.floats.specs.Splice.{length-spliced, in_spliced, past-spliced}
use Rattle.whole.specs.Whole.{trunc_count}
use Rattle.layout.specs.Layout.{w_tolerance, w_axis_count, axis_codes, row_words, r_cells, w_motion, w_plane, w_known, w_warned, w_start, w_degree}
use Rattle.layout.specs.Layout.{w_held, state_words}
use Rattle.layout.specs.Layout.{most_held, most_degree}
use Rattle.layout.specs.Layout.{c_sd, list_codes}
use Rattle.motion.specs.Motion.{is_spline, last_motion}
use Rattle.row_cells.specs.Codes.{plane_xy, plane_yz, plane_ok}
use Rattle.row_cells.specs.Bits.{has, with_bit}
use Rattle.row_numbers.specs.RowNumbers.{within}
use Rattle.row_check.specs.Check.{row_check}
use Rattle.row_cells.specs.Row.{number, motion_of, plane_of, present_of, out_row}
use Rattle.row_check.specs.CheckLaws.{check-motion, check-plane, check-shape, check-within, out-check}
use Rattle.row_cells.proofs.RowLaws.{out-motion, length-out}
use Rattle.floats.specs.Truth.{or_t, or_f, and_i, and_left, and_right, cond-t, cond-f, all-at, all_more, all_intro, by_bit}
use Rattle.row_cells.specs.Masks.{has-none, with-other, with-lt}
use Rattle.saved_state.specs.State.{plain_degree, axis_count, motion_now, plane_now, degree, held, geometric, tol_ok, codes_ok, axes_ok, point_at_ok}
use Rattle.saved_state.specs.State.{point_ok, held_ok}
use Rattle.saved_state.specs.State.{state_ok, store_ok, held_row_ok, saved_check, point_word, position, placed}
use Rattle.saved_state.specs.StateLaws.{Good, good, good-ok, good-few, axes-few, point-small, geometric-small}
use Rattle.call_seed.specs.Seed.{seeded}
use Rattle.push_resolve.specs.Blocks.{or_now, motion_then, plane_then, emits, kept, news}
use Rattle.push_check.specs.Refusal.{is_full}
use Rattle.push_start.specs.Opened.{forgotten, opened}
use Rattle.push_state.specs.Pushed.{degree_with, buffered, push_state, push_store, track_to}
use Rattle.push_start.specs.OpenedLaws.{SameAxes, same_trans, same_set, same-placed, same-forgotten, same-opened, same_codes, same-geometric}
use Rattle.push_state.specs.PushLaws.{same-to}
use Rattle.push_start.specs.OpenedLaws.{placed-keeps, forgotten-keeps, held-forgotten, start_words}
use Rattle.push_start.specs.OpenedLaws.{length-start_words, no_words, none-at}
use Rattle.push_check.proofs.DueLaws.{full-room}
use Rattle.saved_state.specs.Checked.{saved-ok, saved_rows}
use Rattle.demand_state.specs.Lengths.{emptied, laid, push_state-steps, told, worded}
use Rattle.demand_state.specs.StateWords.{buffered-held, buffered-low, opened-degree, opened_in, opened-low, placed-mask, placed-value, push_else}
use Rattle.demand_state.specs.StateWords.{push-motion, worded-else, worded-motion, worded-plane}
use Rattle.demand_state.specs.StoreRows.{held_new, held_old}

-- ---- points
module _ (st st' : List ℕ) (s : SameAxes st st') (few : axis_count st ≤ list_codes) (long : length st ≡ state_words) where
  axes-same : axes_ok st' ≡ axes_ok st
  unfolding axes_ok
  axes-same = ap₂ (λ (n : ℕ) (l : List ℕ). leb n list_codes && codes_ok l) (s.low w_axis_count (omega arith)) (same_codes st st' s few long)

  -- a point whose mask and present numbers are another's
  point-from : (w w' : ℕ) → get_or st' w' 0 ≡ get_or st w 0
      → ((k : ℕ) → k < axis_codes → has (get_or st w 0) k ≡ true → get_or st' (w' + 1 + k) 0 ≡ get_or st (w + 1 + k) 0)
      → point_ok st w ≡ true → point_ok st' w' ≡ true
  unfolding point_ok point_at_ok
  point-from w w' e same p =
      and_i (ap (λ (n : ℕ). ltb n (2 ^ axis_codes)) e ∙ and_left (ltb (get_or st w 0) (2 ^ axis_codes)) (all axis_codes (point_at_ok st w)) p)
      (all_intro axis_codes (point_at_ok st' w') (λ k l.
      by_bit (has (get_or st w 0) k)
      (λ b.
      ap₂ (λ (a : Bool) (z : Bool). not a || z)
      (ap (λ (n : ℕ). has n k) e)
      (ap₂ (λ (gs : List ℕ) (x : ℕ). member k gs && within x) (same-geometric st st' s few long) (same k l b))
      ∙ all-at axis_codes (point_at_ok st w) k (and_right (ltb (get_or st w 0) (2 ^ axis_codes)) (all axis_codes (point_at_ok st w)) p) l)
      (λ b. or_t _ (ap not (ap (λ (n : ℕ). has n k) e ∙ b)))))

-- no axis is in a point whose mask is 0
pub no-point : (st : List ℕ) (w : ℕ) → get_or st w 0 ≡ 0 → point_ok st w ≡ true
unfolding point_ok point_at_ok
no-point st w e =
    and_i (ap (λ (n : ℕ). ltb n (2 ^ axis_codes)) e)
    (all_intro axis_codes (point_at_ok st w) (λ k l. or_t _ (ap not (ap (λ (n : ℕ). has n k) e ∙ has-none k))))

-- ---- a state with another's axes, and the rest as it must be
record Rest (st : List ℕ) : Type 0 where
  pub motion : (leb 1 (motion_now st) && leb (motion_now st) last_motion) ≡ true
  pub plane : (leb plane_xy (plane_now st) && leb (plane_now st) plane_yz) ≡ true
  pub known : point_ok st w_known ≡ true
  pub start : point_ok st w_start ≡ true
  pub power : (leb 1 (degree st) && leb (degree st) most_degree) ≡ true
  pub count : held_ok st ≡ true

good-from : (st st' : List ℕ) → Good st → SameAxes st st' → Rest st' → Good st'
good-from st st' g s r =
    record {
      long = s.long ∙ g.long;
      tolerance = ap tol_ok (s.low w_tolerance (omega arith)) ∙ g.tolerance;
      axes = axes-same st st' s (axes-few st g.axes) g.long ∙ g.axes;
      motion = r.motion;
      plane = r.plane;
      known = r.known;
      start = r.start;
      power = r.power;
      count = r.count;
    }

-- a field by its word
word-motion : (st st' : List ℕ) → motion_now st' ≡ motion_now st → Good st → (leb 1 (motion_now st') && leb (motion_now st') last_motion) ≡ true
word-motion st st' e g = ap (λ (n : ℕ). leb 1 n && leb n last_motion) e ∙ g.motion

word-plane : (st st' : List ℕ) → plane_now st' ≡ plane_now st → Good st → (leb plane_xy (plane_now st') && leb (plane_now st') plane_yz) ≡ true
word-plane st st' e g = ap (λ (n : ℕ). leb plane_xy n && leb n plane_yz) e ∙ g.plane

word-power : (st st' : List ℕ) → degree st' ≡ degree st → Good st → (leb 1 (degree st') && leb (degree st') most_degree) ≡ true
word-power st st' e g = ap (λ (n : ℕ). leb 1 n && leb n most_degree) e ∙ g.power

word_count : (st st' : List ℕ) → held st' ≡ held st → motion_now st' ≡ motion_now st → Good st → held_ok st' ≡ true
unfolding held_ok
word_count st st' e m g = ap₂ (λ (n k : ℕ). leb n most_held && (eqb n 0 || is_spline k)) e m ∙ g.count

pub none-held : (st : List ℕ) → held st ≡ 0 → held_ok st ≡ true
unfolding held_ok
none-held st e = ap (λ (n : ℕ). leb n most_held && (eqb n 0 || is_spline (motion_now st))) e

-- the point at w stays where its words do
point-stays : (st st' : List ℕ) → Good st → SameAxes st st' → (w : ℕ) → ((j : ℕ) → j < axis_codes + 1 → get_or st' (w + j) 0 ≡ get_or st (w + j) 0)
    → point_ok st w ≡ true → point_ok st' w ≡ true
point-stays st st' g s w same p =
    let at0 : w + 0 ≡ w = omega arith in
    point-from st st' s (axes-few st g.axes) g.long w w
    (ap (λ (n : ℕ). get_or st' n 0) (sym at0) ∙ same 0 (omega arith) ∙ ap (λ (n : ℕ). get_or st n 0) at0)
    (λ k l b. let e : w + 1 + k ≡ w + (k + 1) = omega arith in
    ap (λ (n : ℕ). get_or st' n 0) e ∙ same (k + 1) (omega arith) ∙ ap (λ (n : ℕ). get_or st n 0) (sym e))
    p

-- ---- a position
module _ (st : List ℕ) (k x : ℕ) (g : Good st) (on : member k (geometric st) ≡ true) (fit : within x ≡ true) where
  small : k < axis_codes
  small = geometric-small st k on

  same-gs : geometric (placed st k x) ≡ geometric st
  same-gs = same-geometric st (placed st k x) (same-placed st k x) (axes-few st g.axes) g.long

  placed_at : (j : ℕ) → j < axis_codes → point_at_ok (placed st k x) w_known j ≡ true
  unfolding point_at_ok point_ok
  placed_at j l =
      by_bit (eqb j k)
      (λ b. let e : j ≡ k = eqb-true j k b in
      subst (λ (i : ℕ). point_at_ok (placed st k x) w_known i ≡ true) (sym e)
      (ap (λ (z : Bool). not (has (get_or (placed st k x) w_known 0) k) || z)
      (and_i (ap (member k) same-gs ∙ on) (ap (λ (n : ℕ). within n) (placed-value st g.long k x small) ∙ fit))
      ∙ or-true (not (has (get_or (placed st k x) w_known 0) k))))
      (λ b. let d : j ≡ k → ⊥ = eqb-false j k b in
      ap₂ (λ (a z : Bool). not a || z)
      (ap (λ (n : ℕ). has n j) (placed-mask st g.long k x small) ∙ with-other (get_or st w_known 0) k j d)
      (ap₂ (λ (gs : List ℕ) (y : ℕ). member j gs && within y) same-gs (placed-keeps st k x (w_known + 1 + j) (λ e. omega arith) (λ e. d (omega arith))))
      ∙ all-at axis_codes (point_at_ok st w_known) j (and_right (ltb (get_or st w_known 0) (2 ^ axis_codes)) (all axis_codes (point_at_ok st w_known)) g.known)
      l)

  placed-point : point_ok (placed st k x) w_known ≡ true
  unfolding point_ok
  placed-point =
      and_i
      (lt-ltb _ _ (subst (λ (n : ℕ). n < 2 ^ axis_codes) (sym (placed-mask st g.long k x small))
      (with-lt (get_or st w_known 0) k axis_codes (point-small st w_known g.known) small)))
      (all_intro axis_codes (point_at_ok (placed st k x) w_known) placed_at)

  good_placed : Good (placed st k x)
  good_placed =
      let w : (j : ℕ) → (j ≡ w_known → ⊥) → (j ≡ w_known + 1 + k → ⊥) → get_or (placed st k x) j 0 ≡ get_or st j 0 = placed-keeps st k x in
      good-from st (placed st k x) g (same-placed st k x)
      (record {
        motion = word-motion st (placed st k x) (w w_motion (λ e. omega arith) (λ e. omega arith)) g;
        plane = word-plane st (placed st k x) (w w_plane (λ e. omega arith) (λ e. omega arith)) g;
        known = placed-point;
        start = point-stays st (placed st k x) g (same-placed st k x) w_start (λ j l. w (w_start + j) (λ e. omega arith) (λ e. omega (arith, small))) g.start;
        power = word-power st (placed st k x) (w w_degree (λ e. omega arith) (λ e. omega (arith, small))) g;
        count = word_count st (placed st k x) (w w_held (λ e. omega arith) (λ e. omega (arith, small))) (w w_motion (λ e. omega arith) (λ e. omega arith)) g;
      })

-- a seed keeps a state from refusal
pub seeded-ok : (st : List ℕ) (code x : ℕ) → state_ok st ≡ true → within x ≡ true → state_ok (seeded st code x) ≡ true
unfolding seeded
seeded-ok st code x ok fit =
    by_bit (member code (geometric st))
    (λ b. rw b (good-ok (placed st code x) (good_placed st code x (good st ok) b fit)))
    (λ b. rw b ok)

-- ---- an emission
forgotten-mask : (st : List ℕ) → length st ≡ state_words → get_or (forgotten st) w_start 0 ≡ 0
unfolding forgotten
forgotten-mask st h =
    let n : length no_words ≡ axis_codes + 1 = length-upto none-at (axis_codes + 1) in
    let at0 : w_start + 0 ≡ w_start = omega arith in
    get_or-set_other (spliced st w_start no_words) w_held w_start 0 0 (λ e. omega arith)
    ∙ ap (λ (i : ℕ). get_or (spliced st w_start no_words) i 0) (sym at0)
    ∙ in_spliced st w_start no_words 0 (omega arith) (omega (arith, n))
    ∙ at-upto none-at (axis_codes + 1) 0 0 (omega arith)

forgotten-degree : (st : List ℕ) → length st ≡ state_words → degree (forgotten st) ≡ degree st
unfolding forgotten
forgotten-degree st h =
    let n : length no_words ≡ axis_codes + 1 = length-upto none-at (axis_codes + 1) in
    get_or-set_other (spliced st w_start no_words) w_held w_degree 0 0 (λ e. omega arith)
    ∙ past-spliced st w_start no_words w_degree (omega arith) (omega (arith, n))

good-forgotten : (st : List ℕ) → Good st → Good (forgotten st)
good-forgotten st g =
    let w : (j : ℕ) → j < w_start → get_or (forgotten st) j 0 ≡ get_or st j 0 = λ j l. forgotten-keeps st j g.long l in
    good-from st (forgotten st) g (same-forgotten st g.long)
    (record {
      motion = word-motion st (forgotten st) (w w_motion (omega arith)) g;
      plane = word-plane st (forgotten st) (w w_plane (omega arith)) g;
      known = point-stays st (forgotten st) g (same-forgotten st g.long) w_known (λ j l. w (w_known + j) (omega arith)) g.known;
      start = no-point (forgotten st) w_start (forgotten-mask st g.long);
      power = word-power st (forgotten st) (forgotten-degree st g.long) g;
      count = none-held (forgotten st) (held-forgotten st g.long);
    })

pub nothing-saved : (st store : List ℕ) → state_ok st ≡ true → held st ≡ 0 → saved_check st store ≡ 0
unfolding saved_check store_ok all
nothing-saved st store ok e = rw (ok, e, le-leb (0 * row_words) (length store) (omega arith))

-- what an emission leaves
pub forgotten-saved : (st store : List ℕ) → state_ok st ≡ true → saved_check (forgotten st) store ≡ 0
forgotten-saved st store ok =
    nothing-saved (forgotten st) store (good-ok (forgotten st) (good-forgotten st (good st ok))) (held-forgotten st (good st ok).long)

-- ---- tracking
good-to : (n : ℕ) (st r : List ℕ) → Good st → row_check r ≡ 0 → n ≤ axis_codes → Good (track_to n st r)
unfolding track_to
good-to zero st r g p h = g
good-to (suc n) st r g p h =
    let gs : geometric (track_to n st r) ≡ geometric st = same-geometric st (track_to n st r) (same-to n st r) (axes-few st g.axes) g.long in
    by_bit (has (present_of r) n)
    (λ a. by_bit (member n (geometric st))
    (λ b.
    rw (a, b)
    (good_placed (track_to n st r) n (get_or r (r_cells + n) 0) (good-to n st r g p (omega arith)) (ap (member n) gs ∙ b) (check-within r p n (omega arith) a)))
    (λ b. rw (a, b) (good-to n st r g p (omega arith))))
    (λ a. rw a (good-to n st r g p (omega arith)))

-- ---- one word set, away from the points
record Four (st : List ℕ) : Type 0 where
  pub motion : (leb 1 (motion_now st) && leb (motion_now st) last_motion) ≡ true
  pub plane : (leb plane_xy (plane_now st) && leb (plane_now st) plane_yz) ≡ true
  pub power : (leb 1 (degree st) && leb (degree st) most_degree) ≡ true
  pub count : held_ok st ≡ true

good-set : (st : List ℕ) (i v : ℕ) → Good st → w_motion ≤ i → ((j : ℕ) → j < axis_codes + 1 → w_known + j ≡ i → ⊥)
    → ((j : ℕ) → j < axis_codes + 1 → w_start + j ≡ i → ⊥)
    → Four (set st i v) → Good (set st i v)
good-set st i v g h a b f =
    good-from st (set st i v) g (same_set st i v h)
    (record {
      motion = f.motion;
      plane = f.plane;
      known = point-stays st (set st i v) g (same_set st i v h) w_known (λ j l. get_or-set_other st i (w_known + j) v 0 (a j l)) g.known;
      start = point-stays st (set st i v) g (same_set st i v h) w_start (λ j l. get_or-set_other st i (w_start + j) v 0 (b j l)) g.start;
      power = f.power;
      count = f.count;
    })

-- ---- a block that is buffered
module _ (st : List ℕ) (g : Good st) where
  opened-held : held (opened st) ≡ held st
  unfolding opened
  opened-held =
      get_or-set_other (spliced st w_start (start_words st)) w_degree w_held plain_degree 0 (λ e. omega arith)
      ∙ past-spliced st w_start (start_words st) w_held (omega (arith, g.long)) (omega (arith, length-start_words st))

  start-number : (k : ℕ) → k < axis_codes → has (get_or st w_known 0) k ≡ true → get_or (start_words st) (k + 1) 0 ≡ get_or st (w_known + 1 + k) 0
  unfolding point_word
  start-number k l b =
      let e : k + 1 ≡ suc k = omega arith in
      ap (λ (n : ℕ). get_or (start_words st) n 0) e
      ∙ at-upto (λ (j : ℕ). Option.get_or (position st j) 0) axis_codes k 0 l
      ∙ ap (λ (o : Option ℕ). Option.get_or o 0) (cond-t (some (get_or st (w_known + 1 + k) 0)) none b)

  good-opened : Good (opened st)
  good-opened =
      let s : SameAxes st (opened st) = same-opened st g.long in
      let at0 : w_start + 0 ≡ w_start = omega arith in
      good-from st (opened st) g s
      (record {
        motion = word-motion st (opened st) (opened-low st g.long w_motion (omega arith)) g;
        plane = word-plane st (opened st) (opened-low st g.long w_plane (omega arith)) g;
        known = point-stays st (opened st) g s w_known (λ j l. opened-low st g.long (w_known + j) (omega arith)) g.known;
        start =
            point-from st (opened st) s (axes-few st g.axes) g.long w_known w_start
            (ap (λ (n : ℕ). get_or (opened st) n 0) (sym at0) ∙ opened_in st g.long 0 (omega arith))
            (λ k l b. let e : w_start + 1 + k ≡ w_start + (k + 1) = omega arith in
            ap (λ (n : ℕ). get_or (opened st) n 0) e ∙ opened_in st g.long (k + 1) (omega arith) ∙ start-number k l b)
            g.known;
        power = ap (λ (n : ℕ). leb 1 n && leb n most_degree) (opened-degree st g.long);
        count = word_count st (opened st) opened-held (opened-low st g.long w_motion (omega arith)) g;
      })

-- SD keeps the degree in its range
degree_range : (d : ℕ) (o : Option _) → (leb 1 d && leb d most_degree) ≡ true → (leb 1 (degree_with d o) && leb (degree_with d o) most_degree) ≡ true
unfolding degree_with
degree_range d none p = p
degree_range d (some x) p =
    and_i (le-leb 1 (max 1 (min most_degree (trunc_count x))) (omega arith)) (le-leb (max 1 (min most_degree (trunc_count x))) most_degree (omega arith))

module _ (st r : List ℕ) (g : Good st) (curve : is_spline (motion_now st) ≡ true) (room : held st < most_held) where
  -- the state whose degree and count are set
  abbrev begun : List ℕ
  begun = cond (eqb (held st) 0) (opened st) st

  good-begun : Good begun
  good-begun = by_bit (eqb (held st) 0) (λ b. rw b (good-opened st g)) (λ b. rw b g)

  abbrev powered : List ℕ
  powered = set begun w_degree (degree_with (degree begun) (number r c_sd))

  good-powered : Good powered
  good-powered =
      let v : ℕ = degree_with (degree begun) (number r c_sd) in
      let w : (j : ℕ) → (j ≡ w_degree → ⊥) → get_or powered j 0 ≡ get_or begun j 0 = λ j d. get_or-set_other begun w_degree j v 0 d in
      good-set begun w_degree v good-begun (omega arith) (λ j l e. omega arith) (λ j l e. omega arith)
      (record {
        motion = word-motion begun powered (w w_motion (λ e. omega arith)) good-begun;
        plane = word-plane begun powered (w w_plane (λ e. omega arith)) good-begun;
        power =
            ap (λ (n : ℕ). leb 1 n && leb n most_degree) (get_or-set_same begun w_degree v 0 (omega (arith, good-begun.long)))
            ∙ degree_range (degree begun) (number r c_sd) good-begun.power;
        count = word_count begun powered (w w_held (λ e. omega arith)) (w w_motion (λ e. omega arith)) good-begun;
      })

  buffered-is : buffered st r ≡ set powered w_held (held st + 1)
  unfolding buffered
  buffered-is = refl

  good-buffered : Good (buffered st r)
  unfolding held_ok
  good-buffered =
      let w : (j : ℕ) → (j ≡ w_held → ⊥) → get_or (set powered w_held (held st + 1)) j 0 ≡ get_or powered j 0 =
      λ j d. get_or-set_other powered w_held j (held st + 1) 0 d in
      let m : motion_now (set powered w_held (held st + 1)) ≡ motion_now st =
      ap motion_now (sym buffered-is) ∙ buffered-low st r g.long w_motion (omega arith) in
      let c : held (set powered w_held (held st + 1)) ≡ held st + 1 = ap held (sym buffered-is) ∙ buffered-held st r g.long in
      subst Good (sym buffered-is)
      (good-set powered w_held (held st + 1) good-powered (omega arith) (λ j l e. omega arith) (λ j l e. omega arith)
      (record {
        motion = word-motion powered (set powered w_held (held st + 1)) (w w_motion (λ e. omega arith)) good-powered;
        plane = word-plane powered (set powered w_held (held st + 1)) (w w_plane (λ e. omega arith)) good-powered;
        power = word-power powered (set powered w_held (held st + 1)) (w w_degree (λ e. omega arith)) good-powered;
        count =
            and_i (ap (λ (n : ℕ). leb n most_held) c ∙ le-leb (held st + 1) most_held (omega arith))
            (ap (λ (b : Bool). eqb (held (set powered w_held (held st + 1))) 0 || b) (ap is_spline m ∙ curve)
            ∙ or-true (eqb (held (set powered w_held (held st + 1))) 0));
      }))

-- ---- a whole block
kept-motion : (st r : List ℕ) → (kept st r ≡ 0 → ⊥) → motion_then st r ≡ motion_now st
unfolding kept emits
kept-motion st r d =
    by_bit (eqb (held st) 0)
    (λ a. absurd (d (rw a (eqb-true (held st) 0 a))))
    (λ a. by_bit (eqb (motion_then st r) (motion_now st))
    (λ b. eqb-true (motion_then st r) (motion_now st) b)
    (λ b. absurd (d (rw (a, b)))))

-- blocks that stay held are a spline's
kept-curve : (st r : List ℕ) → Good st → (kept st r ≡ 0 → ⊥) → is_spline (motion_then st r) ≡ true
unfolding held_ok kept
kept-curve st r g d =
    ap is_spline (kept-motion st r d)
    ∙ by_bit (eqb (held st) 0)
    (λ a. absurd (d (by_bit (emits st r) (λ e. rw e) (λ e. rw e (eqb-true (held st) 0 a)))))
    (λ a. let p : (leb (held st) most_held && (eqb (held st) 0 || is_spline (motion_now st))) ≡ true = g.count in
    sym (or_f (is_spline (motion_now st)) a) ∙ and_right (leb (held st) most_held) (eqb (held st) 0 || is_spline (motion_now st)) p)

or_now-motion : (v now : ℕ) → v ≤ last_motion → (leb 1 now && leb now last_motion) ≡ true → (leb 1 (or_now v now) && leb (or_now v now) last_motion) ≡ true
unfolding or_now
or_now-motion v now h p =
    by_bit (eqb v 0)
    (λ b. rw b p)
    (λ b. let d : v ≡ 0 → ⊥ = eqb-false v 0 b in rw b (and_i (le-leb 1 v (omega (arith, d))) (le-leb v last_motion h)))

or_now-plane : (v now : ℕ) → plane_ok v ≡ true → (leb plane_xy now && leb now plane_yz) ≡ true
    → (leb plane_xy (or_now v now) && leb (or_now v now) plane_yz) ≡ true
unfolding or_now plane_ok
or_now-plane v now h p = by_bit (eqb v 0) (λ b. rw b p) (λ b. rw b (sym (or_f (leb plane_xy v && leb v plane_yz) b) ∙ h))

module _ (st r : List ℕ) (ok : state_ok st ≡ true) (pass : row_check r ≡ 0) where
  abbrev g₀ : Good st
  g₀ = good st ok

  n₀ : length st ≡ state_words
  n₀ = g₀.long

  good-emptied : Good (emptied st r)
  unfolding emptied
  good-emptied = by_bit (emits st r) (λ b. rw b (good-forgotten st g₀)) (λ b. rw b g₀)

  emptied-held : held (emptied st r) ≡ kept st r
  unfolding emptied kept
  emptied-held = by_bit (emits st r) (λ b. rw b (held-forgotten st n₀)) (λ b. rw b)

  worded-held : held (worded st r) ≡ kept st r
  worded-held = worded-else st r n₀ w_held (λ e. omega arith) (λ e. omega arith) ∙ emptied-held

  same-worded : SameAxes (emptied st r) (worded st r)
  unfolding worded
  same-worded =
      same_trans (same_set (emptied st r) w_motion (motion_then st r) (omega arith))
      (same_set (set (emptied st r) w_motion (motion_then st r)) w_plane (plane_then st r) (omega arith))

  worded-count : held_ok (worded st r) ≡ true
  unfolding held_ok
  worded-count =
      by_bit (eqb (kept st r) 0)
      (λ b. none-held (worded st r) (worded-held ∙ eqb-true (kept st r) 0 b))
      (λ b.
      and_i
      (ap (λ (n : ℕ). leb n most_held) (worded-else st r n₀ w_held (λ e. omega arith) (λ e. omega arith))
      ∙ le-leb (held (emptied st r)) most_held (good-few (emptied st r) good-emptied))
      (ap (λ (m : ℕ). eqb (held (worded st r)) 0 || is_spline m) (worded-motion st r n₀)
      ∙ ap (λ (c : Bool). eqb (held (worded st r)) 0 || c) (kept-curve st r g₀ (eqb-false (kept st r) 0 b))
      ∙ or-true (eqb (held (worded st r)) 0)))

  good-worded : Good (worded st r)
  good-worded =
      let w : (j : ℕ) → (j ≡ w_motion → ⊥) → (j ≡ w_plane → ⊥) → get_or (worded st r) j 0 ≡ get_or (emptied st r) j 0 = worded-else st r n₀ in
      good-from (emptied st r) (worded st r) good-emptied same-worded
      (record {
        motion = ap (λ (n : ℕ). leb 1 n && leb n last_motion) (worded-motion st r n₀)
            ∙ or_now-motion (motion_of r) (motion_now st) (check-motion r pass) g₀.motion;
        plane = ap (λ (n : ℕ). leb plane_xy n && leb n plane_yz) (worded-plane st r n₀)
            ∙ or_now-plane (plane_of r) (plane_now st) (check-plane r pass) g₀.plane;
        known = point-stays (emptied st r) (worded st r) good-emptied same-worded w_known (λ j l. w (w_known + j) (λ e. omega arith) (λ e. omega arith))
            good-emptied.known;
        start = point-stays (emptied st r) (worded st r) good-emptied same-worded w_start (λ j l. w (w_start + j) (λ e. omega arith) (λ e. omega arith))
            good-emptied.start;
        power = word-power (emptied st r) (worded st r) (w w_degree (λ e. omega arith) (λ e. omega arith)) good-emptied;
        count = worded-count;
      })

  -- a block that would be buffered has a place
  module _ (room : is_spline (motion_then st r) ≡ true → kept st r < most_held) where
    good-laid : Good (laid st r)
    unfolding laid
    good-laid =
        by_bit (is_spline (motion_then st r))
        (λ b. rw b (good-buffered (worded st r) r good-worded (ap is_spline (worded-motion st r n₀) ∙ b)
        (subst (λ (n : ℕ). n < most_held) (sym worded-held) (room b))))
        (λ b. rw b good-worded)

    laid-held : held (laid st r) ≡ cond (is_spline (motion_then st r)) (kept st r + 1) (kept st r)
    unfolding laid
    laid-held =
        by_bit (is_spline (motion_then st r))
        (λ b. rw b (buffered-held (worded st r) r good-worded.long ∙ ap (λ (n : ℕ). n + 1) worded-held))
        (λ b. rw b worded-held)

    abbrev warned : List ℕ
    warned = set (laid st r) w_warned (with_bit (get_or (laid st r) w_warned 0) (motion_of r))

    good-warned : Good warned
    good-warned =
        let w : (j : ℕ) → (j ≡ w_warned → ⊥) → get_or warned j 0 ≡ get_or (laid st r) j 0 =
        λ j d. get_or-set_other (laid st r) w_warned j (with_bit (get_or (laid st r) w_warned 0) (motion_of r)) 0 d in
        good-set (laid st r) w_warned (with_bit (get_or (laid st r) w_warned 0) (motion_of r)) good-laid (omega arith) (λ j l e. omega arith)
        (λ j l e. omega arith)
        (record {
          motion = word-motion (laid st r) warned (w w_motion (λ e. omega arith)) good-laid;
          plane = word-plane (laid st r) warned (w w_plane (λ e. omega arith)) good-laid;
          power = word-power (laid st r) warned (w w_degree (λ e. omega arith)) good-laid;
          count = word_count (laid st r) warned (w w_held (λ e. omega arith)) (w w_motion (λ e. omega arith)) good-laid;
        })

    good-told : Good (told st r)
    unfolding told
    good-told = by_bit (news st r) (λ b. rw b good-warned) (λ b. rw b good-laid)

    push_ok : state_ok (push_state st r) ≡ true
    push_ok = good-ok (push_state st r) (subst Good (sym (push_state-steps st r)) (good-to axis_codes (told st r) r good-told pass (omega arith)))

    push-held : held (push_state st r) ≡ cond (is_spline (motion_then st r)) (kept st r + 1) (kept st r)
    push-held = push_else st r n₀ w_held (λ a b. omega arith) (λ e. omega arith) ∙ laid-held

-- ---- the store
or_now-own : (v now : ℕ) → (eqb v 0 || eqb v (or_now v now)) ≡ true
unfolding or_now
or_now-own v now = by_bit (eqb v 0) (λ b. rw b) (λ b. rw b (eq-eqb v v refl))

saved-from : (st store : List ℕ) → state_ok st ≡ true → held st * row_words ≤ length store → all (held st) (held_row_ok st store) ≡ true
    → saved_check st store ≡ 0
unfolding saved_check store_ok
saved-from st store a b c = rw (a, le-leb (held st * row_words) (length store) b, c)

-- a block buffered: it is held after those that stay, each as good as before
module _ (st store r : List ℕ) (saved : saved_check st store ≡ 0) (pass : row_check r ≡ 0) (fit : kept st r * row_words + row_words ≤ length store) where
  abbrev after : List ℕ
  after = spliced store (kept st r * row_words) (out_row r)

  -- a row that stays
  old_row : (now : List ℕ) → motion_now now ≡ motion_then st r → (i : ℕ) → i < kept st r → held_row_ok now after i ≡ true
  unfolding held_row_ok kept
  old_row now m i l =
      let h : kept st r * row_words ≤ length store = omega arith in
      let some-kept : kept st r ≡ 0 → ⊥ = λ e. omega arith in
      let i-held : i < held st = by_bit (emits st r) (λ b. let z : i < 0 = rw b at l in absurd (omega arith)) (λ b. rw b at l) in
      ap₂ (λ (w : List ℕ) (k : ℕ). eqb (row_check w) 0 && (eqb (motion_of w) 0 || eqb (motion_of w) k)) (held_old store r (kept st r) h i l)
      (m ∙ kept-motion st r some-kept)
      ∙ all-at (held st) (held_row_ok st store) i (saved_rows st store saved) i-held

  -- the new one
  new_row : (now : List ℕ) → motion_now now ≡ motion_then st r → held_row_ok now after (kept st r) ≡ true
  unfolding held_row_ok
  new_row now m =
      let h : kept st r * row_words ≤ length store = omega arith in
      ap₂ (λ (w : List ℕ) (k : ℕ). eqb (row_check w) 0 && (eqb (motion_of w) 0 || eqb (motion_of w) k)) (held_new store r (kept st r) h) m
      ∙ and_i (eq-eqb (row_check (out_row r)) 0 (out-check r (check-shape r pass) ∙ pass))
      (ap (λ (v : ℕ). eqb v 0 || eqb v (motion_then st r)) (out-motion r) ∙ or_now-own (motion_of r) (motion_now st))

  curve-saved : is_spline (motion_then st r) ≡ true → kept st r < most_held → saved_check (push_state st r) (push_store st store r) ≡ 0
  unfolding push_store
  curve-saved c room =
      let ok : state_ok st ≡ true = saved-ok st store saved in
      let q : is_spline (motion_then st r) ≡ true → kept st r < most_held = λ z. room in
      let n : held (push_state st r) ≡ kept st r + 1 = push-held st r ok pass q ∙ cond-t (kept st r + 1) (kept st r) c in
      let m : motion_now (push_state st r) ≡ motion_then st r = push-motion st r (good st ok).long in
      let long : length after ≡ length store = length-spliced store (kept st r * row_words) (out_row r) (omega (arith, length-out r)) in
      rw c
      (saved-from (push_state st r) after (push_ok st r ok pass q) (omega (arith, n, long))
      (ap (λ (k : ℕ). all k (held_row_ok (push_state st r) after)) n
      ∙ all_more (kept st r) (held_row_ok (push_state st r) after)
      (all_intro (kept st r) (held_row_ok (push_state st r) after) (old_row (push_state st r) m))
      (new_row (push_state st r) m)))

-- what an accepted push leaves is not refused: 9, 8 and the held rows
pub push-saved : (st store r : List ℕ) → saved_check st store ≡ 0 → row_check r ≡ 0 → is_full st store r ≡ false
    → saved_check (push_state st r) (push_store st store r) ≡ 0
push-saved st store r saved pass space =
    by_bit (is_spline (motion_then st r))
    (λ c.
    let room : (kept st r < most_held) × (kept st r * row_words + row_words ≤ length store) = full-room st store r c space in
    curve-saved st store r saved pass room.1 c room.0)
    (λ c.
    let q : is_spline (motion_then st r) ≡ true → kept st r < most_held = λ z. absurd (false≢true (sym c ∙ z)) in
    let none_kept : kept st r ≡ 0 =
    by_bit (eqb (kept st r) 0) (λ b. eqb-true (kept st r) 0 b)
    (λ b. absurd (false≢true (sym c ∙ kept-curve st r (good st (saved-ok st store saved)) (eqb-false (kept st r) 0 b)))) in
    nothing-saved (push_state st r) (push_store st store r) (push_ok st r (saved-ok st store saved) pass q)
    (push-held st r (saved-ok st store saved) pass q ∙ cond-f (kept st r + 1) (kept st r) c ∙ none_kept))
