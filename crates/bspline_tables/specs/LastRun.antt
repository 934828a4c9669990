-- LAWS. The last run of a B-spline ends at the curve's last parameter, so it is not empty. Assumes nothing.
use Rattle.std.specs.Prelude.{◌≡◌, refl, Bool, true, List, [], ◌∷◌, ◌++◌, ℕ, suc, ◌+◌, ◌-◌, ◌≤◌, eqb, length, get_or, Float}
use Rattle.std.proofs.Common.{ap, ◌∙◌, subst, arith, eq-eqb}
use Rattle.floats.specs.Numbers.{of_nat}
use Rattle.floats.specs.Lists.{upto, keep, flatten}
use Rattle.floats.specs.Joins.{flatten_snoc, keep_append, keep-here, keep-none}
use Rattle.layout.specs.Layout.{most_points}
use Rattle.curve_metric.specs.Walk.{Sample, depth, samples}
use Rattle.curve_metric.proofs.WalkLaws.{samples-end}
use Rattle.curve_metric.specs.Ends.{EndsWith, ends-one, ends_append, ends-map}
use Rattle.bspline_tables.specs.Basis.{Bspline, degree_of, spans_of, basis_of, eval_basis, basis_samples, owner_from, Owned, owned, run_of, basis_runs}
use Rattle.bspline_tables.specs.BasisLaws.{point_is, run_at, owner_in}
use Rattle.bspline_tables.specs.LastOwner.{last-owner}

-- the sample at the last parameter
abbrev pub last_sample : Bspline → Sample
last_sample b = record { time = of_nat (spans_of b); point = eval_basis b (of_nat (spans_of b)) }

pub samples-last : (b : Bspline) (ms : List ℕ) (tol : Float) → 1 ≤ spans_of b → EndsWith (basis_samples b ms tol) (last_sample b)
unfolding basis_samples upto
samples-last b ms tol h =
    let e : suc (spans_of b - 1) ≡ spans_of b = omega arith in
    let g : spans_of b - 1 + 1 ≡ spans_of b = omega arith in
    subst (λ (k : ℕ). EndsWith (flatten (upto f k)) (last_sample b)) e
    (subst (λ (k : ℕ). EndsWith (flatten (upto f (suc (spans_of b - 1)))) (record { time = of_nat k; point = eval_basis b (of_nat k) })) g
    (go (spans_of b - 1)))
  where
    f : ℕ → List Sample
    f j = samples (eval_basis b) ms tol depth (of_nat j) (eval_basis b (of_nat j)) (of_nat (j + 1)) (eval_basis b (of_nat (j + 1)))

    go : (k : ℕ) → EndsWith (flatten (upto f (suc k))) (record { time = of_nat (k + 1); point = eval_basis b (of_nat (k + 1)) })
    go k = rw (flatten_snoc (upto f k) (f k)) (ends_append (flatten (upto f k))
        (samples-end (eval_basis b) ms tol depth (of_nat k) (eval_basis b (of_nat k)) (of_nat (k + 1)) (eval_basis b (of_nat (k + 1)))))

keep-ends : {A : Type 0} (p : A → Bool) {xs : List A} {x : A} → p x ≡ true → EndsWith xs x → EndsWith (keep p xs) x
keep-ends p {xs} {x} h e = record {
  front = keep p e.front;
  is = ap (keep p) e.is ∙ keep_append p e.front (x ∷ [])
      ∙ ap (λ (l : List _). keep p e.front ++ l) (keep-here p x [] h ∙ ap (λ (l : List _). x ∷ l) (keep-none p));
}

-- a last sample that m owns whoever owned the one before
owned-ends : (b : Bspline) (o m : ℕ) (xs : List Sample) (y : Sample) → o ≤ length b.points - 1
    → ((k : ℕ) → k ≤ length b.points - 1 → owner_from b y.time (length b.points - 1 - k) k ≡ m)
    → EndsWith (owned b o (xs ++ (y ∷ []))) (record { owner = m; point = y.point })
unfolding owned
owned-ends b o m [] y h e = rw (e o h) (ends-one _)
owned-ends b o m (x ∷ xs) y h e =
    let i = owner_in b x.time (length b.points - 1 - o) o in
    ends_append (_ ∷ []) (owned-ends b (owner_from b x.time (length b.points - 1 - o) o) m xs y (omega (arith, i.1)) e)

run_ends : (os : List Owned) (i : ℕ) {x : Owned} → x.owner ≡ i + 1 → EndsWith os x → EndsWith (run_of os i) x.point
unfolding run_of
run_ends os i {x} h e = ends-map point_is (keep-ends (λ (s : Owned). eqb s.owner (i + 1)) (eq-eqb x.owner (i + 1) h) e)

pub last-run : (sd : ℕ) (ms : List ℕ) (tol : Float) (pts : List (List Float)) (ws : List Float) → 2 ≤ length pts → length pts ≤ most_points
    → EndsWith (get_or (basis_runs sd ms tol pts ws) (length pts - 2) []) (eval_basis (basis_of sd pts ws) (of_nat (spans_of (basis_of sd pts ws))))
unfolding basis_of degree_of
last-run sd ms tol pts ws h few =
    let b = basis_of sd pts ws in
    let e = samples-last b ms tol (omega arith) in
    let own : (k : ℕ) → k ≤ length pts - 1 → owner_from b (of_nat (length pts - degree_of (length pts) sd)) (length pts - 1 - k) k ≡ length pts - 1 =
    λ k g. last-owner (degree_of (length pts) sd) (length pts) (omega arith) (omega arith) few b refl refl k g in
    let os : EndsWith (owned b 1 (basis_samples b ms tol)) (record { owner = length pts - 1; point = (last_sample b).point }) =
    rw e.is (owned-ends b 1 (length pts - 1) e.front (last_sample b) (omega arith) own) in
    let last : length pts - 1 ≡ length pts - 2 + 1 = omega arith in
    rw (run_at sd ms tol pts ws (length pts - 2) (omega arith)) (run_ends (owned b 1 (basis_samples b ms tol)) (length pts - 2) last os)
