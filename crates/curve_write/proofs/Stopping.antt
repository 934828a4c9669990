-- LAWS. Where the writing walk stops and where it halves: what it writes there, and how far its cursor moves. Assumes nothing.
use mathlib.Core.Path.{◌≡◌, refl, sym, ap, ◌∙◌}
use mathlib.Core.List.{List, [], ◌∷◌, ◌++◌}
use mathlib.Core.Bool.{true, false}
use Prim.Native.Nat.{ℕ, ◌+◌, ◌-◌, ◌^◌, ◌≤◌}
use native.Mathlib.Omega.{arith}
use lib.ListN.{length, length-append}
use lib.Ieee.{Float}
use Rattle.curve_metric.specs.Walk.{samples, flat, middle}
use Rattle.curve_walk.specs.Walks.{encode, points_of}
use Rattle.curve_walk.specs.Lefts.{lefts_of}
use Rattle.curve_walk.specs.Asks.{Written, Recalls, Cursor}
use Rattle.curve_walk.specs.Writing.{points-zero, points-flat, points-halves, one-room, room-first, room-second, written_as, written-two}
use Rattle.curve_walk.proofs.Remembering.{lefts-zero, lefts-flat, lefts-halves, recalls_first, recalls_second, cursor_one, cursor_half, cursor_other}
use Rattle.curve_walk.proofs.Remembering.{passed-one}

-- a stretch's points
abbrev run : (Float → List Float) → List ℕ → Float → ℕ → Float → List Float → Float → List Float → List (List Float)
run ev ms tol left t0 p0 t1 p1 = points_of (samples ev ms tol left t0 p0 t1 p1)

-- the stretch is one sample
pub record Leaf (ev : Float → List Float) (ms : List ℕ) (tol : Float) (left : ℕ) (t0 : Float) (p0 : List Float) (t1 : Float) (p1 : List Float) : Type 0 where
  pub points : run ev ms tol left t0 p0 t1 p1 ≡ p1 ∷ []
  pub lefts : lefts_of ev ms tol left t0 p0 t1 p1 ≡ left ∷ []

-- the stretch is two halves, that meet in pm
pub record Halves (ev : Float → List Float) (ms : List ℕ) (tol : Float) (left : ℕ) (t0 : Float) (p0 : List Float) (t1 : Float)
    (p1 pm : List Float) : Type 0 where
  pub some : left ≡ 0 → ⊥
  pub points : run ev ms tol left t0 p0 t1 p1 ≡ run ev ms tol (left - 1) t0 p0 (middle t0 t1) pm ++ run ev ms tol (left - 1) (middle t0 t1) pm t1 p1
  pub lefts : lefts_of ev ms tol left t0 p0 t1 p1
      ≡ lefts_of ev ms tol (left - 1) t0 p0 (middle t0 t1) pm ++ lefts_of ev ms tol (left - 1) (middle t0 t1) pm t1 p1

module _ (ev : Float → List Float) (ms : List ℕ) (tol : Float) (left : ℕ) (t0 : Float) (p0 : List Float) (t1 : Float) (p1 : List Float) where
  pub leaf_zero : left ≡ 0 → Leaf ev ms tol left t0 p0 t1 p1
  leaf_zero h = record { points = points-zero ev ms tol left t0 p0 t1 p1 h; lefts = lefts-zero ev ms tol left t0 p0 t1 p1 h }

  pub leaf_flat : {pm : List Float} → pm ≡ ev (middle t0 t1) → true ≡ flat ev ms tol t0 p0 t1 p1 pm → Leaf ev ms tol left t0 p0 t1 p1
  leaf_flat ep e = record { points = points-flat ev ms tol left t0 p0 t1 p1 ep e refl; lefts = lefts-flat ev ms tol left t0 p0 t1 p1 ep (sym e) }

  pub halves_of : {pm : List Float} → (left ≡ 0 → ⊥) → pm ≡ ev (middle t0 t1) → false ≡ flat ev ms tol t0 p0 t1 p1 pm → Halves ev ms tol left t0 p0 t1 p1 pm
  halves_of some ep e = record {
    some = some;
    points = points-halves ev ms tol left t0 p0 t1 p1 some ep e refl;
    lefts = lefts-halves ev ms tol left (left - 1) t0 p0 t1 p1 (omega arith) ep (sym e);
  }

module _ {ev : Float → List Float} {ms : List ℕ} {tol : Float} {left : ℕ} {t0 : Float} {p0 : List Float} {t1 : Float} {p1 : List Float}
    (x : Leaf ev ms tol left t0 p0 t1 p1) where
  pub leaf_room : (l : List ℕ) (from : ℕ) {c : ℕ} → from + length (encode (run ev ms tol left t0 p0 t1 p1)) ≤ length l → Cursor c left
      → (from + length p1 ≤ length l) × (c + 1 ≤ 2 ^ 60)
  leaf_room l from h k = (one-room p1 l from x.points h, cursor_one k)

  pub leaf_written : {l : List ℕ} {i : ℕ} {r : ℕ} {xs : List ℕ} (c : ℕ) {r' : ℕ} → Written l i (p1 ∷ []) r xs × (r' ≡ c + 1)
      → Written l i (run ev ms tol left t0 p0 t1 p1) r xs × (r' ≡ c + length (lefts_of ev ms tol left t0 p0 t1 p1))
  leaf_written c w = (written_as x.points w.0, passed-one c x.lefts w.1)

module _ {ev : Float → List Float} {ms : List ℕ} {tol : Float} {left : ℕ} {t0 : Float} {p0 : List Float} {t1 : Float} {p1 pm : List Float}
    (x : Halves ev ms tol left t0 p0 t1 p1 pm)
    (l : List ℕ) (from : ℕ) (room : from + length (encode (run ev ms tol left t0 p0 t1 p1)) ≤ length l)
    {m : List ℕ} {c : ℕ} (mem : Recalls m c (lefts_of ev ms tol left t0 p0 t1 p1) × Cursor c left) where
  pub first-half : (Recalls m c (lefts_of ev ms tol (left - 1) t0 p0 (middle t0 t1) pm) × Cursor c (left - 1))
      × (from + length (encode (run ev ms tol (left - 1) t0 p0 (middle t0 t1) pm)) ≤ length l)
  first-half = (
    (
      recalls_first (lefts_of ev ms tol (left - 1) t0 p0 (middle t0 t1) pm) (lefts_of ev ms tol (left - 1) (middle t0 t1) pm t1 p1) x.lefts mem.0,
      cursor_half mem.1 x.some,
    ),
    room-first l from (run ev ms tol (left - 1) t0 p0 (middle t0 t1) pm) (run ev ms tol (left - 1) (middle t0 t1) pm t1 p1) x.points room,
  )

  module _ {r r' : ℕ} {xs : List ℕ}
      (w : Written l from (run ev ms tol (left - 1) t0 p0 (middle t0 t1) pm) r xs
      × (r' ≡ c + length (lefts_of ev ms tol (left - 1) t0 p0 (middle t0 t1) pm))) where
    pub second-half : (Recalls m r' (lefts_of ev ms tol (left - 1) (middle t0 t1) pm t1 p1) × Cursor r' (left - 1))
        × (r + length (encode (run ev ms tol (left - 1) (middle t0 t1) pm t1 p1)) ≤ length xs)
    second-half = (
      (
        recalls_second (lefts_of ev ms tol (left - 1) t0 p0 (middle t0 t1) pm) (lefts_of ev ms tol (left - 1) (middle t0 t1) pm t1 p1) x.lefts w.1 mem.0,
        cursor_other ev ms tol t0 p0 (middle t0 t1) pm mem.1 x.some w.1,
      ),
      room-second (run ev ms tol (left - 1) (middle t0 t1) pm t1 p1) x.points room w.0,
    )

    pub both_halves : {q q' : ℕ} {ys : List ℕ}
        → Written xs r (run ev ms tol (left - 1) (middle t0 t1) pm t1 p1) q ys × (q' ≡ r' + length (lefts_of ev ms tol (left - 1) (middle t0 t1) pm t1 p1))
        → Written l from (run ev ms tol left t0 p0 t1 p1) q ys × (q' ≡ c + length (lefts_of ev ms tol left t0 p0 t1 p1))
    both_halves {q} {q'} v =
        let a : List ℕ = lefts_of ev ms tol (left - 1) t0 p0 (middle t0 t1) pm in
        let b : List ℕ = lefts_of ev ms tol (left - 1) (middle t0 t1) pm t1 p1 in
        let n : length (lefts_of ev ms tol left t0 p0 t1 p1) ≡ length a + length b = ap length x.lefts ∙ length-append a b in
        (written-two x.points room w.0 v.0, omega (arith, w.1, v.1))
