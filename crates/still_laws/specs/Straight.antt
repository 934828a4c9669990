-- LAWS. 10.4, 10.5: a motion is always in force, and a row that shows something stays curved or goes straight. Assumes nothing.
use Rattle.std.specs.Prelude.{ℕ, zero, suc, ◌+◌, ◌<◌, ◌≤◌, ◌≡◌, refl, true, false, List, eqb}
use Rattle.std.proofs.Common.{sym, ◌∙◌, ap, subst, inl, inr, arith, add-one, le_refl, eqb-true}
use Rattle.std.proofs.lemmas.Bool.{false≢true, eqb-false}
use Rattle.std.proofs.Math.Nat.{le_step}
use Rattle.floats.specs.Truth.{by_bit, cond-f, and_i, and_right}
use Rattle.motion.specs.Motion.{g_one, last_motion, curve_kind, is_curve}
use Rattle.motion.proofs.MotionLaws.{straight-kind}
use Rattle.row_cells.specs.Row.{motion_of}
use Rattle.still_curved.specs.Curved.{row_at, motion_after, motion_behind, shows, still_curved}
use Rattle.still_laws.specs.Statements.{NeverNone, AlwaysOne, CurvedOrStraight, NotBoth, EachRow}

-- ---- one row: its own word, or the motion before it
pub after_none : (m : ℕ) (row : List ℕ) → motion_of row ≡ 0 → motion_after m row ≡ m
unfolding motion_after
after_none m row e = rw e

pub after-own : (m : ℕ) (row : List ℕ) → (motion_of row ≡ 0 → ⊥) → motion_after m row ≡ motion_of row
unfolding motion_after
after-own m row d = by_bit (eqb (motion_of row) 0) (λ t. absurd (d (eqb-true _ 0 t))) (λ f. cond-f _ _ f)

-- what holds of the motion before and of words that are not none holds of the motion in force
after_holds : (P : ℕ → Type 0) (m : ℕ) (row : List ℕ) → P m → ((motion_of row ≡ 0 → ⊥) → P (motion_of row)) → P (motion_after m row)
after_holds P m row p q =
    by_bit (eqb (motion_of row) 0)
    (λ t. subst P (sym (after_none m row (eqb-true _ 0 t))) p)
    (λ f. subst P (sym (after-own m row (eqb-false _ 0 f))) (q (eqb-false _ 0 f)))

pub behind-next : (m : ℕ) (rows : List ℕ) (n : ℕ) → motion_behind m rows (suc n) ≡ motion_after (motion_behind m rows n) (row_at rows n)
unfolding motion_behind
behind-next m rows n = refl

behind-first : (m : ℕ) (rows : List ℕ) → motion_behind m rows 0 ≡ m
unfolding motion_behind
behind-first m rows = refl

behind-holds : (P : ℕ → Type 0) (m : ℕ) (rows : List ℕ) (n : ℕ) → P m
    → ((k : ℕ) → k < n → (motion_of (row_at rows k) ≡ 0 → ⊥) → P (motion_of (row_at rows k))) → P (motion_behind m rows n)
behind-holds P m rows zero p q = subst P (sym (behind-first m rows)) p
behind-holds P m rows (suc n) p q =
    subst P (sym (behind-next m rows n))
    (after_holds P (motion_behind m rows n) (row_at rows n) (behind-holds P m rows n p (λ k l. q k (le_step l))) (q n (le_refl (suc n))))

-- ---- 10.4
pub never-none : NeverNone
never-none rows n = behind-holds (λ (m : ℕ). m ≡ 0 → ⊥) g_one rows n (λ e. omega (arith, e)) (λ k l d. d)

pub always_one : AlwaysOne
always_one rows n h =
    let d : motion_behind g_one rows n ≡ 0 → ⊥ = never-none rows n in
    (omega (arith, d), behind-holds (λ (m : ℕ). m ≤ last_motion) g_one rows n (omega arith) (λ k l d. h k l))

-- ---- 10.5
pub curved_or_straight : CurvedOrStraight
unfolding still_curved
curved_or_straight m row d s =
    let here : motion_after m row ≡ 0 → ⊥ = after_holds (λ (n : ℕ). n ≡ 0 → ⊥) m row d (λ z. z) in
    by_bit (is_curve (motion_after m row))
    (λ t. inl (and_i s t))
    (λ f. inr (straight-kind (motion_after m row) here f))

pub not-both : NotBoth
unfolding still_curved is_curve
not-both m row c l = false≢true (sym (ap curve_kind l) ∙ and_right (shows row) (is_curve (motion_after m row)) c)

pub each_row : EachRow
each_row rows i s =
    let e : motion_behind g_one rows (i + 1) ≡ motion_after (motion_behind g_one rows i) (row_at rows i) = rw add-one (behind-next g_one rows i) in
    rw e (curved_or_straight (motion_behind g_one rows i) (row_at rows i) (never-none rows i) s)
