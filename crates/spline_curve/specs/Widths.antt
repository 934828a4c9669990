-- LAWS. The runs of a curve: how many there are, how wide their points, how many points they have at most. Assumes nothing.
use Prim.Native.Nat.{ℕ, zero, suc, ◌+◌, ◌*◌, ◌-◌, ◌^◌, ◌≤◌, ◌<◌}
use Rattle.std.specs.Prelude.{◌≡◌, refl, Bool, cond, eqb, ltb, length, get_or, Float}
use Rattle.std.proofs.Common.{sym, ◌∙◌, ap, ⊎_elim, mul-le-mul_right, le_trans, length-append, ltb-false}
use Rattle.std.proofs.Math.Bool.{true, false}
use mathlib.Core.List.{List, [], ◌∷◌, ◌++◌, map, map-append, append-nil}
use native.Mathlib.Omega.{arith}
use Rattle.std.proofs.lemmas.List.{length-map, get_or_at}
use Rattle.std.proofs.Math.ListN.{get_or-append, get_or-eq_default}
use Rattle.std.specs.Float.Ieee.{lt, le}
use Rattle.floats.specs.Numbers.{at, ◌⊖◌, 1e-12}
use Rattle.floats.specs.Lists.{upto, keep, flatten}
use Rattle.floats.specs.Fill.{length-upto, at-upto, lt_or_le}
use Rattle.floats.specs.Joins.{flatten_append}
use Rattle.spline_channels.specs.Flat.{Sized, sized_append}
use Rattle.spline_channels.specs.Keeps.{keep-most}
use Rattle.curve_metric.specs.Metric.{point_of, chords}
use Rattle.curve_metric.specs.Walk.{Sample, depth, middle, samples, flat}
use Rattle.curve_metric.proofs.WalkLaws.{samples_le}
use Rattle.fit_knots.specs.Fit.{Fit, kept_to, fit_of, piece_from, piece_of, eval_fit, fit_run, fit_runs}
use Rattle.bspline_tables.specs.Basis.{Bspline, basis_of, spans_of, eval_basis, basis_samples, Owned, owned, owner_from, run_of, basis_runs}
use Rattle.layout.specs.Layout.{most_points}
use Rattle.motion.specs.Motion.{is_basis, is_cubic}
use Rattle.curve_drawing.specs.Runs.{runs_by, curve_runs}

-- ---- lists of rows of one length
module _ {A : Type 0} where
  pub sized-at : (n : ℕ) (xs : List (List A)) (i : ℕ) → Sized n xs → i < length xs → length (get_or xs i []) ≡ n
  unfolding Sized
  sized-at n [] i s h = absurd (omega arith)
  sized-at n (x ∷ xs) zero s h = s.0
  sized-at n (x ∷ xs) (suc i) s h = sized-at n xs i s.1 (omega arith)

  sized-one : (n : ℕ) (x : List A) → length x ≡ n → Sized n (x ∷ [])
  unfolding Sized
  sized-one n x e = (e, tt)

  sized-cond : (n : ℕ) (b : Bool) (xs ys : List (List A)) → Sized n xs → Sized n ys → Sized n (cond b xs ys)
  sized-cond n true xs ys s t = s
  sized-cond n false xs ys s t = t

  sized-flat : (n : ℕ) (f : ℕ → List (List A)) (c : ℕ) → ((i : ℕ) → i < c → Sized n (f i)) → Sized n (flatten (upto f c))
  unfolding upto flatten Sized
  sized-flat n f zero h = tt
  sized-flat n f (suc c) h =
      rw (flatten_append (upto f c) (f c ∷ []), append-nil)
      (sized_append n (flatten (upto f c)) (f c) (sized-flat n f c (λ i l. h i (omega arith))) (h c (omega arith)))

  long-flat : (b : ℕ) (f : ℕ → List A) (c : ℕ) → ((i : ℕ) → length (f i) ≤ b) → length (flatten (upto f c)) ≤ c * b
  unfolding upto flatten
  long-flat b f zero h = omega arith
  long-flat b f (suc c) h = rw (flatten_append (upto f c) (f c ∷ []), append-nil, length-append) (omega (arith, long-flat b f c h, h c))

module _ {A : Type 0} (g : A → List Float) (n : ℕ) where
  sized-map-flat : (f : ℕ → List A) (c : ℕ) → ((i : ℕ) → Sized n (map g (f i))) → Sized n (map g (flatten (upto f c)))
  unfolding upto flatten Sized
  sized-map-flat f zero h = tt
  sized-map-flat f (suc c) h =
      rw (flatten_append (upto f c) (f c ∷ []), append-nil, map-append)
      (sized_append n (map g (flatten (upto f c))) (map g (f c)) (sized-map-flat f c h) (h c))

  sized-keep : (p : A → Bool) (xs : List A) → Sized n (map g xs) → Sized n (map g (keep p xs))
  unfolding keep Sized
  sized-keep p [] s = tt
  sized-keep p (x ∷ xs) s = one (p x) (sized-keep p xs s.1)
    where
      one : (b : Bool) → Sized n (map g (keep p xs)) → Sized n (map g (cond b (x ∷ keep p xs) (keep p xs)))
      one true h = (s.0, h)
      one false h = h

-- ---- the samples of a stretch
abbrev points : List Sample → List (List Float)
points ss = map (λ (s : Sample). s.point) ss

module _ (eval : Float → List Float) (ms : List ℕ) (tol : Float) where
  samples-wide : (n : ℕ) → ((t : Float) → length (eval t) ≡ n) → (left : ℕ) (t0 : Float) (p0 : List Float) (t1 : Float) (p1 : List Float)
      → length p1 ≡ n → Sized n (points (samples eval ms tol left t0 p0 t1 p1))
  unfolding samples
  samples-wide n h zero t0 p0 t1 p1 e = sized-one n p1 e
  samples-wide n h (suc left) t0 p0 t1 p1 e = one
      (flat eval ms tol t0 p0 t1 p1 (eval (middle t0 t1)))
      (samples eval ms tol left t0 p0 (middle t0 t1) (eval (middle t0 t1)))
      (samples eval ms tol left (middle t0 t1) (eval (middle t0 t1)) t1 p1)
      (samples-wide n h left t0 p0 (middle t0 t1) (eval (middle t0 t1)) (h (middle t0 t1)))
      (samples-wide n h left (middle t0 t1) (eval (middle t0 t1)) t1 p1 e)
    where
      one : (b : Bool) (xs ys : List Sample) → Sized n (points xs) → Sized n (points ys)
          → Sized n (points (cond b (record { time = t1; point = p1 } ∷ []) (xs ++ ys)))
      one true xs ys s t = sized-one n p1 e
      one false xs ys s t = rw (map-append (λ (s : Sample). s.point) xs ys) (sized_append n (points xs) (points ys) s t)

-- ---- a fit: the points kept are points, and a piece begins at one but the last of them
kept-below : (ts : List Float) (k w : ℕ) → w < length (kept_to ts k) → get_or (kept_to ts k) w 0 ≤ k
unfolding kept_to
kept-below ts zero zero h = omega arith
kept-below ts zero (suc w) h = absurd (omega arith)
kept-below ts (suc k) w h = one (lt 1e-12 (at ts (k + 1) ⊖ at ts (get_or (kept_to ts k) (length (kept_to ts k) - 1) 0))) (kept-below ts k) h
  where
    one : (b : Bool) → ((w : ℕ) → w < length (kept_to ts k) → get_or (kept_to ts k) w 0 ≤ k)
        → w < length (cond b (kept_to ts k ++ ((k + 1) ∷ [])) (kept_to ts k)) → get_or (cond b (kept_to ts k ++ ((k + 1) ∷ [])) (kept_to ts k)) w 0 ≤ suc k
    one false i l = omega (arith, i w l)
    one true i l = ⊎_elim
        (λ (q : w < length (kept_to ts k)). rw (get_or-append (kept_to ts k) ((k + 1) ∷ []) 0 w q) (omega (arith, i w q)))
        (λ (q : length (kept_to ts k) ≤ w).
        let e : w ≡ length (kept_to ts k) = omega (arith, length-append (kept_to ts k) ((k + 1) ∷ [])) in
        rw (get_or_at (kept_to ts k) (k + 1) [] 0 w (sym e)) (omega arith))
        (lt_or_le w (length (kept_to ts k)))

piece_most : (ts : List Float) (t : Float) (f w : ℕ) → piece_from ts t f w ≤ w + f
unfolding piece_from
piece_most ts t zero w = omega arith
piece_most ts t (suc f) w = one (le t (at ts (w + 1))) (piece_most ts t f (w + 1))
  where
    one : (b : Bool) → piece_from ts t f (w + 1) ≤ w + 1 + f → cond b w (piece_from ts t f (w + 1)) ≤ w + suc f
    one true h = omega arith
    one false h = omega arith

pub get_d_map : {A B : Type 0} (f : A → B) (xs : List A) (i : ℕ) (d : A) (e : B) → i < length xs → get_or (map f xs) i e ≡ f (get_or xs i d)
get_d_map f [] i d e h = absurd (omega arith)
get_d_map f (x ∷ xs) zero d e h = refl
get_d_map f (x ∷ xs) (suc i) d e h = get_d_map f xs i d e (omega arith)

eval_wide : (cubic : Bool) (n k : ℕ) (pts : List (List Float)) (ts : List Float) → Sized n pts → k < length pts → 2 ≤ length (kept_to ts k)
    → (t : Float) → length (eval_fit (fit_of cubic pts ts (kept_to ts k)) t) ≡ n
unfolding eval_fit fit_of piece_of
eval_wide cubic n k pts ts s l two t =
    let ks : List ℕ = kept_to ts k in
    let e : length (map (at ts) ks) ≡ length ks = length-map ks (at ts) in
    let w : ℕ = piece_from (map (at ts) ks) t (length (map (at ts) ks) - 2) 0 in
    let lw : w < length ks = omega (arith, piece_most (map (at ts) ks) t (length (map (at ts) ks) - 2) 0, e) in
    length-upto _ (length (point_of (map (point_of pts) ks) w))
    ∙ ap length (get_d_map (point_of pts) ks w 0 [] lw) ∙ sized-at n pts (get_or ks w 0) s (omega (arith, kept-below ts k w lw))

fit-run-wide : (fit : Fit) (ms : List ℕ) (tol : Float) (pts : List (List Float)) (ts : List Float) (n i : ℕ)
    → ((t : Float) → length (eval_fit fit t) ≡ n) → Sized n pts → i + 1 < length pts → Sized n (fit_run fit ms tol pts ts i)
unfolding fit_run
fit-run-wide fit ms tol pts ts n i h s l =
    let e : length (point_of pts (i + 1)) ≡ n = sized-at n pts (i + 1) s l in
    let run : List (List Float) = points (samples (eval_fit fit) ms tol depth (at ts i) (point_of pts i) (at ts (i + 1)) (point_of pts (i + 1))) in
    let wide = samples-wide (eval_fit fit) ms tol n h depth (at ts i) (point_of pts i) (at ts (i + 1)) (point_of pts (i + 1)) e in
    sized-cond n (le (at ts (i + 1) ⊖ at ts i) 1e-12) (point_of pts (i + 1) ∷ []) run (sized-one n (point_of pts (i + 1)) e) wide

fit_wide : (cubic : Bool) (ms : List ℕ) (tol : Float) (pts : List (List Float)) (n : ℕ) → 1 ≤ length pts → Sized n pts
    → Sized n (flatten (fit_runs cubic ms tol pts))
unfolding fit_runs Sized
fit_wide cubic ms tol pts n some s = one (ltb (length ks) 2) refl
  where
    ts : List Float
    ts = chords pts ms

    ks : List ℕ
    ks = kept_to ts (length pts - 1)

    one : (b : Bool) → ltb (length ks) 2 ≡ b
        → Sized n (flatten (cond b (upto (λ (i : ℕ). []) (length pts - 1)) (upto (fit_run (fit_of cubic pts ts ks) ms tol pts ts) (length pts - 1))))
    one true e = sized-flat n (λ (i : ℕ). []) (length pts - 1) (λ i l. tt)
    one false e = sized-flat n (fit_run (fit_of cubic pts ts ks) ms tol pts ts) (length pts - 1)
        (λ i l.
        let wide = eval_wide cubic n (length pts - 1) pts ts s (omega arith) (ltb-false (length ks) 2 e) in
        fit-run-wide (fit_of cubic pts ts ks) ms tol pts ts n i wide s (omega arith))

fit-run-few : (fit : Fit) (ms : List ℕ) (tol : Float) (pts : List (List Float)) (ts : List Float) (i : ℕ) → length (fit_run fit ms tol pts ts i) ≤ 2 ^ depth
unfolding fit_run
fit-run-few fit ms tol pts ts i =
    let run : List Sample = samples (eval_fit fit) ms tol depth (at ts i) (point_of pts i) (at ts (i + 1)) (point_of pts (i + 1)) in
    let few = samples_le (eval_fit fit) ms tol depth (at ts i) (point_of pts i) (at ts (i + 1)) (point_of pts (i + 1)) in
    one (le (at ts (i + 1) ⊖ at ts i) 1e-12) (points run) (rw (length-map run (λ (s : Sample). s.point)) few)
  where
    one : (b : Bool) (xs : List (List Float)) → length xs ≤ 2 ^ depth → length (cond b (point_of pts (i + 1) ∷ []) xs) ≤ 2 ^ depth
    one true xs h = omega arith
    one false xs h = h

-- ---- a B-spline
owned-wide : (b : Bspline) (n o : ℕ) (ss : List Sample) → Sized n (points ss) → Sized n (map (λ (s : Owned). s.point) (owned b o ss))
unfolding owned Sized
owned-wide b n o [] s = tt
owned-wide b n o (x ∷ ss) s = (s.0, owned-wide b n (owner_from b x.time (length b.points - 1 - o) o) ss s.1)

owned_long : (b : Bspline) (o : ℕ) (ss : List Sample) → length (owned b o ss) ≡ length ss
unfolding owned
owned_long b o [] = refl
owned_long b o (x ∷ ss) = ap suc (owned_long b (owner_from b x.time (length b.points - 1 - o) o) ss)

basis_eval_wide : (b : Bspline) (n : ℕ) → length (point_of b.points 0) ≡ n → (t : Float) → length (eval_basis b t) ≡ n
unfolding eval_basis
basis_eval_wide b n e t = length-upto _ (length (point_of b.points 0)) ∙ e

basis-samples-wide : (b : Bspline) (ms : List ℕ) (tol : Float) (n : ℕ) → length (point_of b.points 0) ≡ n → Sized n (points (basis_samples b ms tol))
unfolding basis_samples
basis-samples-wide b ms tol n e = sized-map-flat (λ (s : Sample). s.point) n _ (spans_of b)
    (λ j. samples-wide (eval_basis b) ms tol n (basis_eval_wide b n e) depth _ _ _ _ (basis_eval_wide b n e _))

basis-wide : (sd : ℕ) (ms : List ℕ) (tol : Float) (pts : List (List Float)) (ws : List Float) (n : ℕ) → 1 ≤ length pts → Sized n pts
    → Sized n (flatten (basis_runs sd ms tol pts ws))
unfolding basis_runs run_of basis_of
basis-wide sd ms tol pts ws n some s =
    let b : Bspline = basis_of sd pts ws in
    let all : List Owned = owned b 1 (basis_samples b ms tol) in
    let wide = owned-wide b n 1 (basis_samples b ms tol) (basis-samples-wide b ms tol n (sized-at n pts 0 s some)) in
    sized-flat n (run_of all) (length pts - 1) (λ i l. sized-keep (λ (s : Owned). s.point) n (λ (s : Owned). eqb s.owner (i + 1)) all wide)

basis-run-few : (sd : ℕ) (ms : List ℕ) (tol : Float) (pts : List (List Float)) (ws : List Float) (i : ℕ) → length pts ≤ most_points
    → length (run_of (owned (basis_of sd pts ws) 1 (basis_samples (basis_of sd pts ws) ms tol)) i) ≤ 2 ^ 48
unfolding run_of basis_samples basis_of
basis-run-few sd ms tol pts ws i l =
    let b : Bspline = basis_of sd pts ws in
    let ss : List Sample = basis_samples b ms tol in
    let p : Owned → Bool = λ s. eqb s.owner (i + 1) in
    let k : length ss ≤ spans_of b * 2 ^ depth = long-flat (2 ^ depth) _ (spans_of b) (λ j. samples_le (eval_basis b) ms tol depth _ _ _ _) in
    let few : spans_of b ≤ most_points = omega arith in
    let m : spans_of b * 2 ^ depth ≤ most_points * 2 ^ depth = mul-le-mul_right (2 ^ depth) few in
    omega (arith, length-map (keep p (owned b 1 ss)) (λ (s : Owned). s.point), keep-most p (owned b 1 ss), owned_long b 1 ss)

-- ---- either kind
either : (b : Bool) (xs ys : List (List (List Float))) (n : ℕ) → length xs ≡ n → length ys ≡ n → length (cond b xs ys) ≡ n
either true xs ys n h k = h
either false xs ys n h k = k

fit-many : (cubic : Bool) (ms : List ℕ) (tol : Float) (pts : List (List Float)) → length (fit_runs cubic ms tol pts) ≡ length pts - 1
unfolding fit_runs
fit-many cubic ms tol pts =
    let ts : List Float = chords pts ms in
    let ks : List ℕ = kept_to ts (length pts - 1) in
    let none : ℕ → List (List Float) = λ i. [] in
    let some : ℕ → List (List Float) = fit_run (fit_of cubic pts ts ks) ms tol pts ts in
    let n : ℕ = length pts - 1 in
    either (ltb (length ks) 2) (upto none n) (upto some n) n (length-upto none n) (length-upto some n)

basis-many : (sd : ℕ) (ms : List ℕ) (tol : Float) (pts : List (List Float)) (ws : List Float) → length (basis_runs sd ms tol pts ws) ≡ length pts - 1
unfolding basis_runs
basis-many sd ms tol pts ws = length-upto (run_of (owned (basis_of sd pts ws) 1 (basis_samples (basis_of sd pts ws) ms tol))) (length pts - 1)

pub by-many : (basis cubic : Bool) (sd : ℕ) (ms : List ℕ) (tol : Float) (pts : List (List Float)) (ws : List Float)
    → length (runs_by basis cubic sd ms tol pts ws) ≡ length pts - 1
by-many basis cubic sd ms tol pts ws =
    either basis (basis_runs sd ms tol pts ws) (fit_runs cubic ms tol pts) (length pts - 1) (basis-many sd ms tol pts ws) (fit-many cubic ms tol pts)

pub runs_many : (motion sd : ℕ) (ms : List ℕ) (tol : Float) (pts : List (List Float)) (ws : List Float)
    → length (curve_runs motion sd ms tol pts ws) ≡ length pts - 1
unfolding curve_runs
runs_many motion sd ms tol pts ws = by-many (is_basis motion) (is_cubic motion) sd ms tol pts ws

pub runs_wide : (motion sd : ℕ) (ms : List ℕ) (tol : Float) (pts : List (List Float)) (ws : List Float) (n : ℕ) → 1 ≤ length pts → Sized n pts
    → Sized n (flatten (curve_runs motion sd ms tol pts ws))
unfolding curve_runs
runs_wide motion sd ms tol pts ws n some s = one (is_basis motion)
  where
    one : (b : Bool) → Sized n (flatten (runs_by b (is_cubic motion) sd ms tol pts ws))
    one true = basis-wide sd ms tol pts ws n some s
    one false = fit_wide (is_cubic motion) ms tol pts n some s

upto-few : (f : ℕ → List (List Float)) (c i b : ℕ) → ((j : ℕ) → length (f j) ≤ b) → length (get_or (upto f c) i []) ≤ b
upto-few f c i b h = ⊎_elim
    (λ (l : i < c). rw (at-upto f c i [] l) (h i))
    (λ (g : c ≤ i). rw (get_or-eq_default (upto f c) [] {n = i} (rw (length-upto f c) g)) (omega arith))
    (lt_or_le i c)

pick-few : (b : Bool) (xs ys : List (List (List Float))) (i n : ℕ) → length (get_or xs i []) ≤ n → length (get_or ys i []) ≤ n
    → length (get_or (cond b xs ys) i []) ≤ n
pick-few true xs ys i n h k = h
pick-few false xs ys i n h k = k

fit-few : (cubic : Bool) (ms : List ℕ) (tol : Float) (pts : List (List Float)) (i : ℕ) → length (get_or (fit_runs cubic ms tol pts) i []) ≤ 2 ^ 48
unfolding fit_runs
fit-few cubic ms tol pts i =
    let ts : List Float = chords pts ms in
    let ks : List ℕ = kept_to ts (length pts - 1) in
    let none : ℕ → List (List Float) = λ i. [] in
    let some : ℕ → List (List Float) = fit_run (fit_of cubic pts ts ks) ms tol pts ts in
    let n : ℕ = length pts - 1 in
    pick-few (ltb (length ks) 2) (upto none n) (upto some n) i (2 ^ 48) (upto-few none n i (2 ^ 48) (λ j. omega arith))
    (upto-few some n i (2 ^ 48) (λ j. le_trans (fit-run-few (fit_of cubic pts ts ks) ms tol pts ts j) (omega arith)))

basis-few : (sd : ℕ) (ms : List ℕ) (tol : Float) (pts : List (List Float)) (ws : List Float) (i : ℕ) → length pts ≤ most_points
    → length (get_or (basis_runs sd ms tol pts ws) i []) ≤ 2 ^ 48
unfolding basis_runs
basis-few sd ms tol pts ws i l =
    let b : Bspline = basis_of sd pts ws in
    upto-few (run_of (owned b 1 (basis_samples b ms tol))) (length pts - 1) i (2 ^ 48) (λ j. basis-run-few sd ms tol pts ws j l)

pub by-few : (basis cubic : Bool) (sd : ℕ) (ms : List ℕ) (tol : Float) (pts : List (List Float)) (ws : List Float) (i : ℕ) → length pts ≤ most_points
    → length (get_or (runs_by basis cubic sd ms tol pts ws) i []) ≤ 2 ^ 48
by-few basis cubic sd ms tol pts ws i l =
    pick-few basis (basis_runs sd ms tol pts ws) (fit_runs cubic ms tol pts) i (2 ^ 48) (basis-few sd ms tol pts ws i l) (fit-few cubic ms tol pts i)

pub runs_few : (motion sd : ℕ) (ms : List ℕ) (tol : Float) (pts : List (List Float)) (ws : List Float) (i : ℕ) → length pts ≤ most_points
    → length (get_or (curve_runs motion sd ms tol pts ws) i []) ≤ 2 ^ 48
unfolding curve_runs
runs_few motion sd ms tol pts ws i l = by-few (is_basis motion) (is_cubic motion) sd ms tol pts ws i l
