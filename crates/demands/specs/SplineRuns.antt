-- LAWS. The runs of a spline end where its blocks ask: a fit's runs on their programmed points. Assumes nothing.
use Rattle.std.specs.Prelude.{ℕ, suc, ◌+◌, ◌-◌, ◌<◌, ◌≡◌, refl, Bool, true, false, List, [], ◌∷◌, ◌++◌, ◌⊎◌, length, get_or, eqb, ltb, Float}
use Rattle.std.proofs.Common.{sym, ◌∙◌, ap, subst, inl, inr, arith, add-one, eqb-true}
use Rattle.std.proofs.lemmas.Bool.{false≢true}
use Rattle.std.proofs.Math.Option
use Rattle.std.proofs.Math.Option.{Option, some}
use Rattle.std.specs.Float.{nan}
use Rattle.std.specs.Float.Ieee.{le}
use Rattle.floats.specs.Numbers.{◌⊖◌, 1e-12, num, at}
use Rattle.floats.specs.Lists.{member, opt}
use Rattle.floats.specs.Fill.{length-upto, at-upto}
use Rattle.row_cells.specs.Row.{cell, number}
use Rattle.floats.specs.Truth.{by_bit, cond-t, cond-f}
use Rattle.curve_metric.specs.Metric.{point_of, chords}
use Rattle.curve_metric.specs.Walk.{Sample}
use Rattle.curve_metric.specs.Ends.{EndsWith, ends-one, ends-map}
use Rattle.curve_metric.proofs.WalkLaws.{samples-end}
use Rattle.fit_knots.specs.Fit.{Fit, kept_to, eval_fit, fit_run, fit_runs}
use Rattle.spline_answer.specs.Words.{place_of, next_point, points_from}

-- ---- a fit
run_ends : (fit : Fit) (ms : List ℕ) (tol : Float) (pts : List (List Float)) (ts : List Float) (i : ℕ)
    → EndsWith (fit_run fit ms tol pts ts i) (point_of pts (i + 1))
unfolding fit_run
run_ends fit ms tol pts ts i =
    by_bit (le (at ts (i + 1) ⊖ at ts i) 1e-12)
    (λ b. rw b (ends-one (point_of pts (i + 1))))
    (λ b. rw b (ends-map (λ (s : Sample). s.point) (samples-end (eval_fit fit) ms tol 20 (at ts i) (point_of pts i) (at ts (i + 1)) (point_of pts (i + 1)))))

pub fit_length : (cubic : Bool) (ms : List ℕ) (tol : Float) (pts : List (List Float)) → length (fit_runs cubic ms tol pts) ≡ length pts - 1
unfolding fit_runs
fit_length cubic ms tol pts =
    by_bit (ltb (length (kept_to (chords pts ms) (length pts - 1))) 2)
    (λ b. rw b (length-upto _ _))
    (λ b. rw b (length-upto _ _))

-- 5.15: each run is empty or ends on its point
pub fit-ends : (cubic : Bool) (ms : List ℕ) (tol : Float) (pts : List (List Float)) (j : ℕ) → j < length pts - 1
    → (get_or (fit_runs cubic ms tol pts) j [] ≡ []) ⊎ EndsWith (get_or (fit_runs cubic ms tol pts) j []) (point_of pts (j + 1))
unfolding fit_runs
fit-ends cubic ms tol pts j h =
    by_bit (ltb (length (kept_to (chords pts ms) (length pts - 1))) 2)
    (λ b. rw b (inl (at-upto _ (length pts - 1) j [] h)))
    (λ b.
    rw b
    (inr
    (subst (λ (l : List (List Float)). EndsWith l (point_of pts (j + 1))) (sym (at-upto _ (length pts - 1) j [] h)) (run_ends _ ms tol pts (chords pts ms) j))))

-- ---- the points
pub points-length : (cs : List ℕ) (p : List Float) (rs : List (List ℕ)) → length (points_from cs p rs) ≡ length rs
unfolding points_from
points-length cs p [] = refl
points-length cs p (r ∷ rs) = ap suc (points-length cs (next_point cs p r) rs)

-- the point of a block, after those before it
pub record PointOf (cs : List ℕ) (p : List Float) (before : List (List ℕ)) (r : List ℕ) (after : List (List ℕ)) : Type 0 where
  pub from : List Float
  pub is : get_or (points_from cs p (before ++ (r ∷ after))) (length before) [] ≡ next_point cs from r

pub point-of : (cs : List ℕ) (p : List Float) (before : List (List ℕ)) (r : List ℕ) (after : List (List ℕ)) → PointOf cs p before r after
unfolding points_from
point-of cs p [] r after = record { from = p; is = refl }
point-of cs p (q ∷ before) r after = let x = point-of cs (next_point cs p q) before r after in record { from = x.from; is = x.is }

-- ---- the place of a channel
pub record Placed (k : ℕ) (cs : List ℕ) : Type 0 where
  pub low : place_of k cs < length cs
  pub is : get_or cs (place_of k cs) 0 ≡ k

here : (k c : ℕ) (cs : List ℕ) → eqb c k ≡ true → Placed k (c ∷ cs)
unfolding place_of
here k c cs e =
    let z : place_of k (c ∷ cs) ≡ 0 = cond-t 0 (place_of k cs + 1) e in
    record { low = omega arith; is = ap (λ (i : ℕ). get_or (c ∷ cs) i 0) z ∙ eqb-true c k e }

there : (k c : ℕ) (cs : List ℕ) → eqb c k ≡ false → Placed k cs → Placed k (c ∷ cs)
unfolding place_of
there k c cs e p =
    let z : place_of k (c ∷ cs) ≡ suc (place_of k cs) = cond-f 0 (place_of k cs + 1) e ∙ add-one (place_of k cs) in
    record { low = omega (arith, p.low); is = ap (λ (i : ℕ). get_or (c ∷ cs) i 0) z ∙ p.is }

pub place-of : (k : ℕ) (cs : List ℕ) → member k cs ≡ true → Placed k cs
unfolding member
place-of k [] m = absurd (false≢true m)
place-of k (c ∷ cs) m = by_first (eqb c k) refl (place-of k cs)
  where
    by_first : (b : Bool) → eqb c k ≡ b → (member k cs ≡ true → Placed k cs) → Placed k (c ∷ cs)
    by_first true e rest = here k c cs e
    by_first false e rest = there k c cs e (rest (rw e at m))

-- the number of a programmed channel of a point
pub point-number : (cs : List ℕ) (p : List Float) (r : List ℕ) (k v : ℕ) → member k cs ≡ true → cell r k ≡ some v
    → at (next_point cs p r) (place_of k cs) ≡ num v
unfolding next_point number
point-number cs p r k v m e =
    let q : Placed k cs = place-of k cs m in
    at-upto _ (length cs) (place_of k cs) nan q.low
    ∙ ap (λ (i : ℕ). Option.get_or (opt num (cell r i)) (at p (place_of k cs))) q.is
    ∙ ap (λ (o : Option ℕ). Option.get_or (opt num o) (at p (place_of k cs))) e
