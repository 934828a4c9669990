-- LAWS. An arc's answer depends on the geometric axes only by which codes they have. Assumes nothing.
use Prim.Native.Nat.{ℕ, zero, suc, ◌+◌}
use Rattle.std.specs.Prelude.{◌≡◌, Bool, eqb, ltb, Float}
use Rattle.std.proofs.Math.Path.{refl, ap₂, fun_ext}
use Rattle.std.proofs.Common.{sym, ◌∙◌, subst, eqb-true, eq-eqb}
use Rattle.std.proofs.Math.Bool.{true, false, cond}
use Rattle.std.proofs.lemmas.Bool.{false≢true}
use mathlib.Core.List.{List, [], ◌∷◌}
use Rattle.std.proofs.Math.Option.{Option, none, some}
use Rattle.floats.specs.Lists.{upto, member, any_of}
use Rattle.layout.specs.Layout.{axis_codes}
use Rattle.motion.specs.Motion.{g_one}
use Rattle.row_cells.specs.Codes.{plane_u, plane_v}
use Rattle.row_cells.specs.Bits.{has}
use Rattle.row_cells.specs.Row.{present_of, has_point}
use Rattle.row_made.specs.MadeLaws.{made-same}
use Rattle.floats.specs.Truth.{by_bit, or_t, or_f}
use Rattle.arc_answer.specs.Arc.{Answer, silent, Ends, Arc, Centre, centred, warned, last_cell, mid_cell, arc_row}
use Rattle.arc_answer.specs.Arc.{held_axes, arc_rows, wanted_of, count_of, from_centre}
use Rattle.arc_answer.specs.Arc.{from_start, arc_answer}

-- ---- something holds of a member
any_from : (p : ℕ → Bool) (gs : List ℕ) (k : ℕ) → member k gs ≡ true → p k ≡ true → any_of p gs ≡ true
unfolding member any_of
any_from p [] k m h = absurd (false≢true m)
any_from p (x ∷ xs) k m h =
    by_bit (eqb x k)
    (λ b. or_t (any_of p xs) (subst (λ (i : ℕ). p i ≡ true) (sym (eqb-true x k b)) h))
    (λ b. by_bit (p x)
    (λ a. or_t (any_of p xs) a)
    (λ a. or_f (any_of p xs) a ∙ any_from p xs k (sym (or_f (member k xs) b) ∙ m) h))

-- .. and of none
any_none : (p : ℕ → Bool) (gs : List ℕ) → ((k : ℕ) → member k gs ≡ true → p k ≡ false) → any_of p gs ≡ false
unfolding member any_of
any_none p [] h = refl
any_none p (x ∷ xs) h =
    or_f (any_of p xs) (h x (or_t (member x xs) (eq-eqb x x refl)))
    ∙ any_none p xs (λ k m. h k (by_bit (eqb x k) (λ b. or_t (member k xs) b) (λ b. or_f (member k xs) b ∙ m)))

-- an answer of its rows, the wanted count and the held axes
abbrev answer_of : List (List ℕ) → ℕ → ℕ → Answer
answer_of rows wanted held = record { rows = rows; warning = cond (ltb 100000 wanted) 6 0; wanted = cond (ltb 100000 wanted) wanted 0; held = held }

module _ (gs gs' : List ℕ) (e : (k : ℕ) → member k gs ≡ member k gs') where
  any_same : (p : ℕ → Bool) → any_of p gs ≡ any_of p gs'
  any_same p =
      by_bit (any_of p gs')
      (λ a. by_bit (any_of p gs) (λ b. b ∙ sym a)
      (λ b. absurd (false≢true (sym (any_none p gs' (λ k m. by_bit (p k) (λ h. absurd (false≢true (sym b ∙ any_from p gs k (e k ∙ m) h))) (λ h. h))) ∙ a))))
      (λ a. any_none p gs (λ k m. by_bit (p k) (λ h. absurd (false≢true (sym a ∙ any_from p gs' k (sym (e k) ∙ m) h))) (λ h. h)) ∙ sym a)

  pub point-same : (r : List ℕ) → has_point gs r ≡ has_point gs' r
  unfolding has_point
  point-same r = any_same (λ (k : ℕ). has (present_of r) k)

  silent-same : (plane : ℕ) (r : List ℕ) → silent gs plane r ≡ silent gs' plane r
  unfolding silent
  silent-same plane r = rw (point-same r)

  last-same : (plane : ℕ) (d : Ends) (r : List ℕ) (k : ℕ) → last_cell gs plane d r k ≡ last_cell gs' plane d r k
  unfolding last_cell
  last-same plane d r k = rw (e k)

  mid-same : (plane : ℕ) (pos : ℕ → Option ℕ) (r : List ℕ) (c : Arc) (f : Float) (k : ℕ) → mid_cell gs plane pos r c f k ≡ mid_cell gs' plane pos r c f k
  unfolding mid_cell
  mid-same plane pos r c f k = rw (e k)

  row_same : (plane : ℕ) (pos : ℕ → Option ℕ) (r : List ℕ) (d : Ends) (c : Arc) (n k : ℕ) → arc_row gs plane pos r d c n k ≡ arc_row gs' plane pos r d c n k
  unfolding arc_row
  row_same plane pos r d c n k =
      ap₂ (λ (a b : List ℕ). cond (eqb k n) a b)
      (made-same gs gs' r (eqb k 1) g_one false _ _ (λ j l. e j) (λ j l. last-same plane d r j))
      (made-same gs gs' r (eqb k 1) g_one true _ _ (λ j l. e j) (λ j l. mid-same plane pos r c _ j))

  held_same : (plane : ℕ) (pos : ℕ → Option ℕ) (r : List ℕ) (n : ℕ) → held_axes gs plane pos r n ≡ held_axes gs' plane pos r n
  unfolding held_axes
  held_same plane pos r zero = refl
  held_same plane pos r (suc n) = rw (held_same plane pos r n, e n)

  rows_same : (plane : ℕ) (pos : ℕ → Option ℕ) (r : List ℕ) (d : Ends) (c : Arc) → arc_rows gs plane pos r d c ≡ arc_rows gs' plane pos r d c
  unfolding arc_rows
  rows_same plane pos r d c =
      let wanted : ℕ = wanted_of c in
      ap₂ (λ (f : ℕ → List ℕ) (h : ℕ). answer_of (upto f (count_of wanted)) wanted h)
      (fun_ext (λ k. row_same plane pos r d c (count_of wanted) (k + 1)))
      (held_same plane pos r axis_codes)

  centre_same : (tol : Float) (plane : ℕ) (cw : Bool) (pos : ℕ → Option ℕ) (r : List ℕ) (d : Ends) (m : Centre)
      → from_centre tol gs plane cw pos r d m ≡ from_centre tol gs' plane cw pos r d m
  unfolding from_centre
  centre_same tol plane cw pos r d (centred cu cv) = rows_same plane pos r d _
  centre_same tol plane cw pos r d (warned n) = refl

  start-same : (tol : Float) (plane : ℕ) (cw : Bool) (pos : ℕ → Option ℕ) (r : List ℕ) (a b : Option ℕ)
      → from_start tol gs plane cw pos r a b ≡ from_start tol gs' plane cw pos r a b
  unfolding from_start
  start-same tol plane cw pos r none b = refl
  start-same tol plane cw pos r (some x) none = refl
  start-same tol plane cw pos r (some x) (some y) = centre_same tol plane cw pos r _ _

  pub arc_same : (tol : Float) (plane : ℕ) (cw : Bool) (pos : ℕ → Option ℕ) (r : List ℕ) → arc_answer tol gs plane cw pos r ≡ arc_answer tol gs' plane cw pos r
  unfolding arc_answer
  arc_same tol plane cw pos r = rw (silent-same plane r, start-same tol plane cw pos r (pos (plane_u plane)) (pos (plane_v plane)))
