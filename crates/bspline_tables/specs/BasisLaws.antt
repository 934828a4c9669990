-- LAWS. A B-spline's runs: one a control point after the start, end to end all samples in curve order. Assumes nothing.
use Rattle.std.specs.Prelude.{◌≡◌, refl, Bool, true, false, cond, List, [], ◌∷◌, ◌++◌, map, ℕ, zero, suc, ◌+◌, ◌-◌, ◌≤◌, ◌<◌, leb, eqb, length}
use Rattle.std.specs.Prelude.{get_or, Float}
use Rattle.std.proofs.Common.{sym, ap, ◌∙◌, ⊎_elim, eq-or-lt_of_le, arith, le-leb, eq-eqb, ne_eqb}
use Rattle.std.proofs.lemmas.List.{map-append}
use Rattle.std.specs.Float.Ieee.{lt}
use Rattle.std.proofs.lemmas.Bool.{lt-leb}
use Rattle.floats.specs.Lists.{upto, keep, flatten}
use Rattle.floats.specs.Fill.{length-upto, at-upto, lt_or_le}
use Rattle.floats.specs.Joins.{flatten_snoc, keep-here, keep-not}
use Rattle.curve_metric.specs.Walk.{Sample}
use Rattle.bspline_tables.specs.Basis.{Bspline, basis_of, basis_samples, greville, owner_from, Owned, owned, run_of, basis_runs}

abbrev pub point_is : Owned → List Float
point_is s = s.point

-- ---- the runs, by their number

pub runs_length : (sd : ℕ) (ms : List ℕ) (tol : Float) (pts : List (List Float)) (ws : List Float) → length (basis_runs sd ms tol pts ws) ≡ length pts - 1
unfolding basis_runs
runs_length sd ms tol pts ws = length-upto (run_of (owned (basis_of sd pts ws) 1 (basis_samples (basis_of sd pts ws) ms tol))) (length pts - 1)

pub run_at : (sd : ℕ) (ms : List ℕ) (tol : Float) (pts : List (List Float)) (ws : List Float) (i : ℕ) → i < length pts - 1
    → get_or (basis_runs sd ms tol pts ws) i [] ≡ run_of (owned (basis_of sd pts ws) 1 (basis_samples (basis_of sd pts ws) ms tol)) i
unfolding basis_runs
run_at sd ms tol pts ws i h = at-upto (run_of (owned (basis_of sd pts ws) 1 (basis_samples (basis_of sd pts ws) ms tol))) (length pts - 1) i [] h

-- ---- owners never fall

pub owner_in : (b : Bspline) (t : Float) (left o : ℕ) → (o ≤ owner_from b t left o) × (owner_from b t left o ≤ o + left)
unfolding owner_from
owner_in b t zero o = omega arith
owner_in b t (suc left) o = go (lt (greville b o) t) (owner_in b t left (o + 1))
  where
    go : (c : Bool) → (o + 1 ≤ owner_from b t left (o + 1)) × (owner_from b t left (o + 1) ≤ o + 1 + left)
        → (o ≤ cond c (owner_from b t left (o + 1)) o) × (cond c (owner_from b t left (o + 1)) o ≤ o + suc left)
    go true h = omega arith
    go false h = omega arith

-- from o on, none falls and none passes `last`
unfoldable pub Rising : ℕ → ℕ → List Owned → Type 0
Rising o last [] = Unit {0}
Rising o last (s ∷ ss) = (o ≤ s.owner) × ((s.owner ≤ last) × Rising s.owner last ss)

pub owned_rises : (b : Bspline) (o : ℕ) (ss : List Sample) → o ≤ length b.points - 1 → Rising o (length b.points - 1) (owned b o ss)
unfolding Rising owned
owned_rises b o [] h = tt
owned_rises b o (s ∷ ss) h =
    let i = owner_in b s.time (length b.points - 1 - o) o in
    (i.0, (omega (arith, i.1), owned_rises b (owner_from b s.time (length b.points - 1 - o) o) ss (omega (arith, i.1))))

-- the samples whose owner is m at most
up_to : ℕ → List Owned → List Owned
up_to m os = keep (λ (s : Owned). leb s.owner m) os

own_of : ℕ → List Owned → List Owned
own_of m os = keep (λ (s : Owned). eqb s.owner (m + 1)) os

none-under : (m o last : ℕ) (os : List Owned) → m < o → Rising o last os → up_to m os ≡ []
unfolding up_to Rising keep
none-under m o last [] h r = refl
none-under m o last (x ∷ xs) h r =
    let l : m < x.owner = omega (arith, r.0) in
    keep-not (λ (s : Owned). leb s.owner m) x xs (lt-leb x.owner m l) ∙ none-under m x.owner last xs l r.1.1

all_under : (m o : ℕ) (os : List Owned) → Rising o m os → up_to m os ≡ os
unfolding up_to Rising keep
all_under m o [] r = refl
all_under m o (x ∷ xs) r = keep-here (λ (s : Owned). leb s.owner m) x xs (le-leb x.owner m r.1.0)
    ∙ ap (λ (l : List Owned). x ∷ l) (all_under m x.owner xs r.1.1)

one_more_lem : (m o last : ℕ) (os : List Owned) → Rising o last os → up_to m os ++ own_of m os ≡ up_to (suc m) os
unfolding up_to own_of Rising keep
one_more_lem m o last [] r = refl
one_more_lem m o last (x ∷ xs) r =
    let rest : up_to m xs ++ own_of m xs ≡ up_to (suc m) xs = one_more_lem m x.owner last xs r.1.1 in
    ⊎_elim
    (λ under. rw (le-leb x.owner m (omega arith), ne_eqb x.owner (m + 1) (λ e. omega arith), le-leb x.owner (suc m) (omega arith))
    (ap (λ (l : List Owned). x ∷ l) (rest)))
    (λ over. ⊎_elim
    (λ (e : m + 1 ≡ x.owner).
    let gone : up_to m xs ≡ [] = none-under m x.owner last xs (omega arith) r.1.1 in
    let left : own_of m xs ≡ up_to (suc m) xs = ap (λ (l : List Owned). l ++ own_of m xs) (sym gone) ∙ rest in
    rw (lt-leb x.owner m (omega arith), eq-eqb x.owner (m + 1) (sym e), le-leb x.owner (suc m) (omega arith))
    (ap (λ (l : List Owned). l ++ (x ∷ own_of m xs)) gone ∙ ap (λ (l : List Owned). x ∷ l) left))
    (λ more. rw (lt-leb x.owner m (omega arith), ne_eqb x.owner (m + 1) (λ e. omega arith), lt-leb x.owner (suc m) (omega arith)) rest)
    (eq-or-lt_of_le over))
    (lt_or_le x.owner (m + 1))

join_to : (m o last : ℕ) (os : List Owned) → 1 ≤ o → Rising o last os → flatten (upto (run_of os) m) ≡ map point_is (up_to m os)
unfolding upto flatten run_of own_of
join_to zero o last os h r = sym (ap (map point_is) (none-under 0 o last os h r))
join_to (suc m) o last os h r =
    flatten_snoc (upto (run_of os) m) (map point_is (own_of m os))
    ∙ ap (λ (l : List (List Float)). l ++ map point_is (own_of m os)) (join_to m o last os h r)
    ∙ sym (map-append point_is (up_to m os) (own_of m os))
    ∙ ap (map point_is) (one_more_lem m o last os r)

points_kept : (b : Bspline) (o : ℕ) (ss : List Sample) → map point_is (owned b o ss) ≡ map (λ (s : Sample). s.point) ss
unfolding owned
points_kept b o [] = refl
points_kept b o (s ∷ ss) = ap (λ (l : List (List Float)). s.point ∷ l) (points_kept b (owner_from b s.time (length b.points - 1 - o) o) ss)

-- the runs, end to end, are all the samples in curve order
pub runs_join : (sd : ℕ) (ms : List ℕ) (tol : Float) (pts : List (List Float)) (ws : List Float) → 2 ≤ length pts
    → flatten (basis_runs sd ms tol pts ws) ≡ map (λ (s : Sample). s.point) (basis_samples (basis_of sd pts ws) ms tol)
unfolding basis_runs basis_of
runs_join sd ms tol pts ws h =
    let b = basis_of sd pts ws in
    let ss = basis_samples (basis_of sd pts ws) ms tol in
    let r = owned_rises (basis_of sd pts ws) 1 ss (omega arith) in
    join_to (length pts - 1) 1 (length pts - 1) (owned b 1 ss) (omega arith) r
    ∙ ap (map point_is) (all_under (length pts - 1) 1 (owned b 1 ss) r)
    ∙ points_kept b 1 ss
