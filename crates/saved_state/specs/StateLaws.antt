-- LAWS. The saved state: its fields taken apart and put together, and its geometric axes. Assumes nothing.
use Rattle.std.specs.Prelude.{ℕ, ◌<◌, ◌≤◌, ◌≡◌, Bool, true, ◌&&◌, ◌||◌, List, length, get_or, take, drop, leb, ltb, eqb}
use Rattle.std.proofs.Common.{sym, ◌∙◌, arith, eqb-true, leb-true, ltb-true, eq-eqb}
use Rattle.floats.specs.Lists.{member, all}
use Rattle.floats.specs.Truth.{and_i, and_left, and_right}
use Rattle.layout.specs.Layout.{axis_codes, axis_masks, list_codes, state_words, most_held, most_degree, w_tolerance, w_axes, w_known, w_start}
use Rattle.motion.specs.Motion.{is_spline, last_motion}
use Rattle.row_cells.specs.Codes.{plane_xy, plane_yz, geometric_of}
use Rattle.row_cells.specs.Masks.{member-keep}
use Rattle.saved_state.specs.State.{axis_count, motion_now, plane_now, degree, held, geometric, tol_ok, codes_ok, axes_ok, point_at_ok, point_ok, held_ok}
use Rattle.saved_state.specs.State.{from_degree, from_known, from_motion, state_ok}
use Rattle.saved_state.specs.Asks.{Listed}

-- ---- the fields of a state that is not refused
abbrev in_motions : List ℕ → Bool
in_motions st = leb 1 (motion_now st) && leb (motion_now st) last_motion

abbrev in_planes : List ℕ → Bool
in_planes st = leb plane_xy (plane_now st) && leb (plane_now st) plane_yz

abbrev in_degrees : List ℕ → Bool
in_degrees st = leb 1 (degree st) && leb (degree st) most_degree

pub record Good (st : List ℕ) : Type 0 where
  pub long : length st ≡ state_words
  pub tolerance : tol_ok (get_or st w_tolerance 0) ≡ true
  pub axes : axes_ok st ≡ true
  pub motion : in_motions st ≡ true
  pub plane : in_planes st ≡ true
  pub known : point_ok st w_known ≡ true
  pub start : point_ok st w_start ≡ true
  pub power : in_degrees st ≡ true
  pub count : held_ok st ≡ true

abbrev from_start : List ℕ → Bool
from_start st = point_ok st w_start && from_degree st

abbrev from_plane : List ℕ → Bool
from_plane st = in_planes st && from_known st

abbrev from_axes : List ℕ → Bool
from_axes st = axes_ok st && from_motion st

abbrev from_tolerance : List ℕ → Bool
from_tolerance st = tol_ok (get_or st w_tolerance 0) && from_axes st

pub good : (st : List ℕ) → state_ok st ≡ true → Good st
unfolding state_ok
good st p =
    let p1 : from_tolerance st ≡ true = and_right (eqb (length st) state_words) (from_tolerance st) p in
    let p2 : from_axes st ≡ true = and_right (tol_ok (get_or st w_tolerance 0)) (from_axes st) p1 in
    let p3 : from_motion st ≡ true = and_right (axes_ok st) (from_motion st) p2 in
    let p4 : from_plane st ≡ true = and_right (in_motions st) (from_plane st) p3 in
    let p5 : from_known st ≡ true = and_right (in_planes st) (from_known st) p4 in
    let p6 : from_start st ≡ true = and_right (point_ok st w_known) (from_start st) p5 in
    let p7 : from_degree st ≡ true = and_right (point_ok st w_start) (from_degree st) p6 in
    record {
      long = eqb-true (length st) state_words (and_left (eqb (length st) state_words) (from_tolerance st) p);
      tolerance = and_left (tol_ok (get_or st w_tolerance 0)) (from_axes st) p1;
      axes = and_left (axes_ok st) (from_motion st) p2;
      motion = and_left (in_motions st) (from_plane st) p3;
      plane = and_left (in_planes st) (from_known st) p4;
      known = and_left (point_ok st w_known) (from_start st) p5;
      start = and_left (point_ok st w_start) (from_degree st) p6;
      power = and_left (in_degrees st) (held_ok st) p7;
      count = and_right (in_degrees st) (held_ok st) p7;
    }

pub good-ok : (st : List ℕ) → Good st → state_ok st ≡ true
unfolding state_ok
good-ok st g =
    and_i (eq-eqb (length st) state_words g.long)
    (and_i g.tolerance (and_i g.axes (and_i g.motion (and_i g.plane (and_i g.known (and_i g.start (and_i g.power g.count)))))))

pub axes-few : (st : List ℕ) → axes_ok st ≡ true → axis_count st ≤ list_codes
unfolding axes_ok
axes-few st p = leb-true _ _ (and_left (leb (axis_count st) list_codes) (codes_ok (take (axis_count st) (drop w_axes st))) p)

pub good-listed : (st : List ℕ) → Good st → Listed st
good-listed st g = record { long = g.long; few = axes-few st g.axes }

pub good-few : (st : List ℕ) → Good st → held st ≤ most_held
unfolding held_ok
good-few st g = leb-true _ _ (and_left (leb (held st) most_held) (eqb (held st) 0 || is_spline (motion_now st)) g.count)

pub point-small : (st : List ℕ) (w : ℕ) → point_ok st w ≡ true → get_or st w 0 < axis_masks
unfolding point_ok
point-small st w p = ltb-true _ _ (and_left (ltb (get_or st w 0) (axis_masks)) (all axis_codes (point_at_ok st w)) p)

-- a geometric axis is an axis code, and listed
pub member-geometric : (st : List ℕ) (k : ℕ) → member k (geometric st) ≡ (ltb k axis_codes && member k (take (axis_count st) (drop w_axes st)))
unfolding geometric geometric_of
member-geometric st k = member-keep (λ (j : ℕ). ltb j axis_codes) k (take (axis_count st) (drop w_axes st))

pub geometric-small : (st : List ℕ) (k : ℕ) → member k (geometric st) ≡ true → k < axis_codes
geometric-small st k p =
    let q : (ltb k axis_codes && member k (take (axis_count st) (drop w_axes st))) ≡ true = sym (member-geometric st k) ∙ p in
    let r : k < axis_codes = ltb-true k axis_codes (and_left (ltb k axis_codes) (member k (take (axis_count st) (drop w_axes st))) q) in
    omega arith
