-- LAWS. The events that calls accept before an accepted close: rows and numbers that no refusal is due for, and splines of at most 256 blocks. Assumes nothing.
use Rattle.std.specs.Prelude.{ℕ, suc, ◌+◌, ◌≤◌, ◌≡◌, Bool, true, false, cond, ◌||◌, eqb}
use Rattle.std.proofs.Common.{◌∙◌, arith}
use Rattle.std.proofs.Math.Path.{ap}
use mathlib.Core.List.{List, [], ◌∷◌, ◌++◌}
use Rattle.std.proofs.Math.ListN.{length, length-append}
use borrow.Author.Tests.{eqb-true}
use Rattle.layout.specs.Layout.{most_held}
use Rattle.motion.specs.Motion.{is_spline}
use Rattle.row_cells.specs.Row.{motion_of}
use Rattle.row_numbers.specs.RowNumbers.{within}
use Rattle.floats.specs.Truth.{by_bit, cond-t}
use Rattle.demand_calls.specs.Every.{Every, nil, more}
use Rattle.demand_calls.specs.Runs.{Event, seed, block, closed, Call, taken, run}
use Rattle.demand_state.specs.Accepted.{Saved, saved, Pushed, Fine, held-most}
use Rattle.demand_standing.specs.Standing.{Standing, motion_with, goes_on, with_block, with_seed, with_close, together}
use Rattle.demand_standing.proofs.Stands.{Stands}
use Rattle.demand_standing.specs.Together.{goes_on_lem, ends-here}
use Rattle.demands.specs.Answers.{close-accepted}
use Rattle.demands.specs.Demands.{answer}
use Rattle.demands.specs.Steps.{How, stays, pushes, seeds, closes, step, closing_after}

-- events that no refusal is due for
pub data Sound (gs : List ℕ) : Standing → List Event → Type 0 where
  over : {s : Standing} → Sound gs s []
  by-seed : {s : Standing} {es : List Event} (c x : ℕ) → within x ≡ true → Sound gs (with_seed gs s c x) es → Sound gs s (seed c x ∷ es)
  by-block : {s : Standing} {es : List Event} (r : List ℕ) → Fine r
      → (is_spline (with_block gs s r).motion ≡ true → length (with_block gs s r).curve + length (together (with_block gs s r).motion es) ≤ most_held)
      → Sound gs (with_block gs s r) es → Sound gs s (block r ∷ es)
  by-close : {s : Standing} {es : List Event} → Sound gs (with_close s) es → Sound gs s (closed ∷ es)

-- the blocks of a spline to come are among them
cons-fine : (b : Bool) (r : List ℕ) (rs : List (List ℕ)) → Fine r → Every Fine rs → Every Fine (cond b (r ∷ rs) [])
cons-fine true r rs f fs = more f fs
cons-fine false r rs f fs = nil

pub together-fine : {gs : List ℕ} {s : Standing} {es : List Event} (m : ℕ) → Sound gs s es → Every Fine (together m es)
unfolding together
together-fine m over = nil
together-fine m (by-seed c x w rest) = together-fine m rest
together-fine m (by-block r f few rest) = cons-fine (eqb (motion_of r) 0 || eqb (motion_of r) m) r _ f (together-fine m rest)
together-fine m (by-close rest) = nil

-- ---- a block that goes on with the open spline
module _ (gs : List ℕ) (s : Standing) (r : List ℕ) (e : eqb (motion_with s r) s.motion ≡ true) where
  same-motion : (with_block gs s r).motion ≡ s.motion
  unfolding with_block
  same-motion = eqb-true _ _ e

  one_more_lem : is_spline s.motion ≡ true → length (with_block gs s r).curve ≡ length s.curve + 1
  unfolding with_block goes_on
  one_more_lem y =
      ap length (cond-t _ [] (ap is_spline (eqb-true (motion_with s r) s.motion e) ∙ y) ∙ ap (λ (l : List (List ℕ)). l ++ (r ∷ [])) (cond-t s.curve [] e))
      ∙ length-append s.curve (r ∷ [])

-- ---- at most 256 blocks
module _ {tol : ℕ} {gs : List ℕ} {s : Standing} {st store : List ℕ} (t : Stands tol gs s st store) where
  -- where the state is not refused, the open spline's blocks are those held
  few_open : Saved st store → length s.curve ≤ most_held
  few_open p = omega (arith, t.held, held-most st p.state)

  few-block : (r : List ℕ) → Pushed st store r → (es : List Event)
      → (is_spline (with_block gs s r).motion ≡ true → length (with_block gs s r).curve + length (together (with_block gs s r).motion es) ≤ most_held)
      → is_spline s.motion ≡ true → length s.curve + length (together s.motion (block r ∷ es)) ≤ most_held
  few-block r p es ih y =
      by_bit (eqb (motion_with s r) s.motion)
      (λ e. let m : (with_block gs s r).motion ≡ s.motion = same-motion gs s r e in
      let c : length (with_block gs s r).curve ≡ length s.curve + 1 = one_more_lem gs s r e y in
      let g : length (together s.motion (block r ∷ es)) ≡ suc (length (together s.motion es)) = ap length (goes_on_lem s r es e) in
      let l : length (together (with_block gs s r).motion es) ≡ length (together s.motion es) = ap (λ (n : ℕ). length (together n es)) m in
      omega (arith, ih (ap is_spline m ∙ y)))
      (λ e. let g : length (together s.motion (block r ∷ es)) ≡ 0 = ap length (ends-here s r es e) in
      omega (arith, few_open p.saved))

  few-step : (es l : List Event) (n : Standing) → How gs s st store l n
      → (is_spline n.motion ≡ true → length n.curve + length (together n.motion es) ≤ most_held)
      → is_spline s.motion ≡ true → length s.curve + length (together s.motion (l ++ es)) ≤ most_held
  unfolding together with_seed
  few-step es l n stays ih y = ih y
  few-step es l n (pushes r p) ih y = few-block r p es ih y
  few-step es l n (seeds c x w) ih y = ih y
  few-step es l n (closes p) ih y = omega (arith, few_open p)

few-run : {tol : ℕ} {gs : List ℕ} {s : Standing} {st store : List ℕ} (cs : List Call) (rows : List ℕ) → Stands tol gs s st store
    → (closing_after (run answer st store cs) rows).reply.code ≡ 0
    → is_spline s.motion ≡ true → length s.curve + length (together s.motion (run answer st store cs).events) ≤ most_held
unfolding run together
few-run {tol = tol} {gs = gs} {s = s} {st = st} {store = store} [] rows t z y = omega (arith, few_open t (saved st store (close-accepted st store rows z).0))
few-run {tol = tol} {gs = gs} {s = s} {st = st} {store = store} (c ∷ cs) rows t z y =
    let w = step t c in
    few-step t (run answer (answer st store c).state (answer st store c).store cs).events (taken (answer st store c) c) w.next w.how
    (few-run {s = (step t c).next} cs rows w.stands z) y

-- ---- the accepted events
sound-step : {gs : List ℕ} {s : Standing} {st store : List ℕ} (es l : List Event) (n : Standing) → How gs s st store l n
    → (is_spline n.motion ≡ true → length n.curve + length (together n.motion es) ≤ most_held)
    → Sound gs n es → Sound gs s (l ++ es)
sound-step es l n stays few rest = rest
sound-step es l n (pushes r p) few rest = by-block r p.row few rest
sound-step es l n (seeds c x w) few rest = by-seed c x w rest
sound-step es l n (closes p) few rest = by-close rest

pub sound-run : {tol : ℕ} {gs : List ℕ} {s : Standing} {st store : List ℕ} (cs : List Call) (rows : List ℕ) → Stands tol gs s st store
    → (closing_after (run answer st store cs) rows).reply.code ≡ 0 → Sound gs s (run answer st store cs).events
unfolding run
sound-run {tol = tol} {gs = gs} {s = s} {st = st} {store = store} [] rows t z = over
sound-run {tol = tol} {gs = gs} {s = s} {st = st} {store = store} (c ∷ cs) rows t z =
    let w = step t c in
    sound-step (run answer (answer st store c).state (answer st store c).store cs).events (taken (answer st store c) c) w.next w.how
    (few-run {s = (step t c).next} cs rows w.stands z) (sound-run {s = (step t c).next} cs rows w.stands z)
