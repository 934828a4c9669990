-- LAWS. The blocks to come of an open spline, and which block is a B-spline's last point. Assumes nothing.
use Rattle.std.specs.Prelude.{ℕ, suc, ◌≡◌, refl, Bool, ◌&&◌, ◌||◌, not, List, [], ◌∷◌, map, length}
use Rattle.std.proofs.Common.{sym, ◌∙◌, ap₂, arith}
use Rattle.std.proofs.Math.Path.{ap}
use Rattle.std.proofs.Math.Bool.{true, false}
use Rattle.std.proofs.Math.Dec.{eqb}
use Rattle.std.proofs.lemmas.Bool.{eqb-false}
use Rattle.floats.specs.Lists.{keep, any_of}
use Rattle.floats.specs.Truth.{by_bit, cond-t, cond-f}
use Rattle.motion.specs.Motion.{is_basis}
use Rattle.row_cells.specs.Row.{motion_of, has_point, out_row}
use Rattle.row_cells.proofs.RowLaws.{out-point}
use Rattle.row_check.specs.CheckLaws.{check-shape, shape-present}
use Rattle.push_resolve.specs.Blocks.{or_now}
use Rattle.demand_calls.specs.Every.{Every, nil, more}
use Rattle.demand_calls.specs.Runs.{Event, block, closed}
use Rattle.demand_state.specs.Accepted.{Fine}
use Rattle.demand_standing.specs.Standing.{Standing, motion_with, together, last_point}

-- ---- where a spline goes on, and where it ends
module _ (s : Standing) (r : List ℕ) (es : List Event) where
  pub goes_on_lem : eqb (motion_with s r) s.motion ≡ true → together s.motion (block r ∷ es) ≡ r ∷ together s.motion es
  unfolding together motion_with or_now
  goes_on_lem e =
      by_bit (eqb (motion_of r) 0)
      (λ b. rw b)
      (λ b. let q : eqb (motion_of r) s.motion ≡ true = ap (λ (m : ℕ). eqb m s.motion) (sym (cond-f s.motion (motion_of r) b)) ∙ e in rw (b, q))

  pub ends-here : eqb (motion_with s r) s.motion ≡ false → together s.motion (block r ∷ es) ≡ []
  unfolding together motion_with or_now
  ends-here e =
      by_bit (eqb (motion_of r) 0)
      (λ b. absurd (eqb-false _ _ e (cond-t s.motion (motion_of r) b)))
      (λ b. let q : eqb (motion_of r) s.motion ≡ false = ap (λ (m : ℕ). eqb m s.motion) (sym (cond-f s.motion (motion_of r) b)) ∙ e in rw (b, q))

-- 3.15: a close ends it
pub close-ends : (m : ℕ) (es : List Event) → together m (closed ∷ es) ≡ []
unfolding together
close-ends m es = refl

-- ---- the last point
-- no block has a point where none does as the store holds it
no-points : (gs : List ℕ) (rs : List (List ℕ)) → Every Fine rs → length (keep (has_point gs) (map out_row rs)) ≡ 0 → any_of (has_point gs) rs ≡ false
unfolding keep any_of
no-points gs [] nil e = refl
no-points gs (r ∷ rs) (more f fs) e = by-point (has_point gs r) refl (no-points gs rs fs)
  where
    by-point : (b : Bool) → has_point gs r ≡ b → (length (keep (has_point gs) (map out_row rs)) ≡ 0 → any_of (has_point gs) rs ≡ false)
        → (has_point gs r || any_of (has_point gs) rs) ≡ false
    by-point true y rest =
        let z : suc (length (keep (has_point gs) (map out_row rs))) ≡ 0 =
        sym
        (ap length
        (cond-t (out_row r ∷ keep (has_point gs) (map out_row rs)) (keep (has_point gs) (map out_row rs))
        (out-point gs r (shape-present r (check-shape r f)) ∙ y)))
        ∙ e in
        absurd (omega arith)
    by-point false y rest =
        ap (λ (b : Bool). b || any_of (has_point gs) rs) y
        ∙ rest
        (sym
        (ap length
        (cond-f (out_row r ∷ keep (has_point gs) (map out_row rs)) (keep (has_point gs) (map out_row rs))
        (out-point gs r (shape-present r (check-shape r f)) ∙ y)))
        ∙ e)

-- a B-spline's block with a point, and none of those to come with one, as the store holds them
pub last-point : (gs : List ℕ) (m : ℕ) (r : List ℕ) (later : List (List ℕ)) → Fine r → Every Fine later → is_basis m ≡ true
    → has_point gs (out_row r) ≡ true → length (keep (has_point gs) (map out_row later)) ≡ 0 → last_point gs m r later ≡ true
unfolding last_point
last-point gs m r later f rest b h z =
    ap₂ (λ (u v : Bool). u && v) b
    (ap₂ (λ (u v : Bool). u && not v) (sym (out-point gs r (shape-present r (check-shape r f))) ∙ h) (no-points gs later rest z))
