-- LAWS. `kept_to`: its points are below the last, and their chord sums never fall. Assumes nothing.
use Rattle.std.specs.Prelude.{◌≡◌, refl, Bool, true, false, cond, List, [], ◌∷◌, ◌++◌, ℕ, zero, suc, ◌+◌, ◌-◌, ◌<◌, ◌≤◌, length, get_or, drop, Float}
use Rattle.std.proofs.Common.{sym, ⊎_elim, eq-or-lt_of_le, arith, length-append}
use Rattle.std.proofs.Math.ListN.{get_or-append}
use Rattle.std.proofs.lemmas.List.{get_or_at}
use Rattle.std.specs.Float.Ieee.{lt, le}
use Rattle.floats.specs.Numbers.{at}
use Rattle.fit_knots.specs.Fit.{kept_to}
use Rattle.fit_knots.specs.Order.{grown_le}
use Rattle.fit_knots.specs.Kept.{grown, last_of, Kept, KeptIn}

in_push : (i : ℕ) (ks : List ℕ) → KeptIn i ks → KeptIn (suc i) (ks ++ ((i + 1) ∷ []))
in_push i ks h =
    let n : length (ks ++ ((i + 1) ∷ [])) ≡ length ks + 1 = length-append ks ((i + 1) ∷ []) in
    record {
      some = omega arith;
      few = omega (arith, h.few);
      below = λ k l. ⊎_elim
          (λ e. let g : get_or (ks ++ ((i + 1) ∷ [])) k 0 ≡ i + 1 = get_or_at ks (i + 1) [] 0 k (sym e) in omega arith)
          (λ lt. let g : get_or (ks ++ ((i + 1) ∷ [])) k 0 ≡ get_or ks k 0 = get_or-append ks ((i + 1) ∷ []) 0 k lt in omega (arith, h.below k lt))
          (eq-or-lt_of_le {n = k} {m = length ks} (omega arith));
    }

in_stay : (i : ℕ) (ks : List ℕ) → KeptIn i ks → KeptIn (suc i) ks
in_stay i ks h = record { some = h.some; few = omega (arith, h.few); below = λ k l. omega (arith, h.below k l) }

pub kept_in : (ts : List Float) (i : ℕ) → KeptIn i (kept_to ts i)
unfolding kept_to
kept_in ts zero = record { some = omega arith; few = omega arith; below = one }
  where
    one : (k : ℕ) → k < 1 → get_or (0 ∷ []) k 0 ≤ 0
    one zero l = omega arith
    one (suc k) l = absurd (omega arith)
kept_in ts (suc i) = go (grown ts (last_of (kept_to ts i)) (i + 1)) (kept_in ts i)
  where
    go : (b : Bool) → KeptIn i (kept_to ts i) → KeptIn (suc i) (cond b (kept_to ts i ++ ((i + 1) ∷ [])) (kept_to ts i))
    go true h = in_push i (kept_to ts i) h
    go false h = in_stay i (kept_to ts i) h

pub last-kept : (ts : List Float) (i : ℕ) {l xs : List ℕ} {m : ℕ} → Kept ts i l xs m → get_or xs (m - 1) 0 ≡ last_of (kept_to ts i)
last-kept ts i {l} {xs} {m} q =
    let h = (kept_in ts i).some in
    rw (q.is, q.count) (get_or-append (kept_to ts i) (drop (length (kept_to ts i)) l) 0 (length (kept_to ts i) - 1) (omega arith))

-- the times of the kept points never fall
pub kept-rising : (ts : List Float) (i k : ℕ) → k + 1 < length (kept_to ts i)
    → le (at ts (get_or (kept_to ts i) k 0)) (at ts (get_or (kept_to ts i) (k + 1) 0)) ≡ true
unfolding kept_to
kept-rising ts zero k h = absurd (omega arith)
kept-rising ts (suc i) k h = go (grown ts (last_of (kept_to ts i)) (i + 1)) refl (kept-rising ts i k) h
  where
    last : grown ts (last_of (kept_to ts i)) (i + 1) ≡ true → k + 1 ≡ length (kept_to ts i)
        → le (at ts (get_or (kept_to ts i ++ ((i + 1) ∷ [])) k 0)) (at ts (get_or (kept_to ts i ++ ((i + 1) ∷ [])) (k + 1) 0)) ≡ true
    last e g =
        let one : get_or (kept_to ts i ++ ((i + 1) ∷ [])) k 0 ≡ get_or (kept_to ts i) k 0 = get_or-append (kept_to ts i) ((i + 1) ∷ []) 0 k (omega arith) in
        let two : get_or (kept_to ts i ++ ((i + 1) ∷ [])) (k + 1) 0 ≡ i + 1 = get_or_at (kept_to ts i) (i + 1) [] 0 (k + 1) (sym g) in
        let same : k ≡ length (kept_to ts i) - 1 = omega arith in
        rw (one, two, same) (grown_le (at ts (i + 1)) (at ts (last_of (kept_to ts i))) e)

    earlier : k + 1 < length (kept_to ts i) → le (at ts (get_or (kept_to ts i) k 0)) (at ts (get_or (kept_to ts i) (k + 1) 0)) ≡ true
        → le (at ts (get_or (kept_to ts i ++ ((i + 1) ∷ [])) k 0)) (at ts (get_or (kept_to ts i ++ ((i + 1) ∷ [])) (k + 1) 0)) ≡ true
    earlier g e = rw (get_or-append (kept_to ts i) ((i + 1) ∷ []) 0 k (omega arith), get_or-append (kept_to ts i) ((i + 1) ∷ []) 0 (k + 1) g) e

    go : (b : Bool) → grown ts (last_of (kept_to ts i)) (i + 1) ≡ b
        → (k + 1 < length (kept_to ts i) → le (at ts (get_or (kept_to ts i) k 0)) (at ts (get_or (kept_to ts i) (k + 1) 0)) ≡ true)
        → k + 1 < length (cond b (kept_to ts i ++ ((i + 1) ∷ [])) (kept_to ts i))
        → (let ks = cond b (kept_to ts i ++ ((i + 1) ∷ [])) (kept_to ts i) in le (at ts (get_or ks k 0)) (at ts (get_or ks (k + 1) 0)) ≡ true)
    go true e below h = ⊎_elim
        (λ g. last e g)
        (λ g. earlier g (below g))
        (eq-or-lt_of_le {n = k + 1} {m = length (kept_to ts i)} (omega (arith, length-append (kept_to ts i) ((i + 1) ∷ []))))
    go false e below h = below h
