-- LAWS. One stretch of a fit, and one more. Assumes nothing.
use mathlib.Core.Path.{◌≡◌, refl, sym, ap, ◌∙◌, subst}
use mathlib.Core.List.{List, [], ◌∷◌}
use mathlib.Core.Bool.{Bool, true, false, cond}
use mathlib.Core.Logic.{⊎_elim}
use Prim.Native.Nat.{ℕ, zero, suc, ◌+◌, ◌-◌, ◌*◌, ◌^◌, ◌<◌, ◌≤◌}
use native.Mathlib.Numerals.{add-one}
use native.Mathlib.Nat.{suc-mul}
use native.Mathlib.Omega.{arith}
use lib.ListN.{length, get_or, set, length-append, length-map, length-set}
use lib.Seq.{get_or-set_same, set-get_or, set-set}
use lib.Ieee.{Float, le}
use Rattle.floats.specs.Numbers.{◌⊖◌, 1e-12, at}
use Rattle.floats.specs.Lists.{upto, flatten, row}
use Rattle.floats.specs.Fill.{Filling, filling-more, at-filled, past-filled, lt_or_le}
use Rattle.floats.specs.Parts.{part, length_part, part-row}
use Rattle.curve_metric.specs.Walk.{Sample, samples, depth}
use Rattle.curve_metric.proofs.WalkLaws.{samples_le}
use Rattle.curve_metric.specs.Points.{row_fits_lem}
use Rattle.curve_walk.specs.declared.Form.{Form}
use Rattle.curve_walk.specs.declared.Form.TheVariants.{Basis, Fit}
use Rattle.curve_walk.specs.declared.Shape.{Shape}
use Rattle.curve_walk.specs.Walks.{encode, eval_of, own_in, own_of, bumped, counted, points_of}
use Rattle.curve_walk.specs.Asks.{Stretch, Counted, Counts, Written, Fresh}
use Rattle.curve_walk.specs.Lefts.{lefts_of}
use Rattle.curve_walk.specs.Writing.{encode_append, written_none, written-two, room-second}
use Rattle.curve_walk.proofs.Remembering.{lefts-led}
use Rattle.curve_segments.specs.Stretches.{fit_run_at}
use Rattle.curve_segments.specs.Lefts.{fit_lefts}
use Rattle.curve_segments.specs.Asks.{IsFit, Segments, FreshAt}
use Rattle.curve_walk.proofs.Joining.{flat-more}

-- ---- places: the points of a stretch in the list of points

pub from_in : (i n ch len : ℕ) → i + 1 ≤ n - 1 → n * ch ≤ len → i * ch + ch + ch ≤ len
from_in i n ch len h g =
    let a : (i + 1) * ch + ch ≤ len = row_fits_lem (i + 1) n ch len (omega arith) g in
    let b : (i + 1) * ch ≡ i * ch + ch = rw (add-one, suc-mul) in
    omega arith

next-from : (i ch : ℕ) → i * ch + ch ≡ (i + 1) * ch
next-from i ch = rw (add-one, suc-mul)

module _ (pts : List Float) (i ch : ℕ) where
  pub first-is : part pts (i * ch) ch ≡ row pts ch i
  first-is = part-row pts i ch (i * ch) refl

  pub next-is : part pts (i * ch + ch) ch ≡ row pts ch (i + 1)
  next-is = part-row pts (i + 1) ch (i * ch + ch) (next-from i ch)

pub stretch_of_points : {s : Shape} {ms : List ℕ} {pts ks cs : List Float} → Segments s ms pts ks cs → (i : ℕ) → i + 1 ≤ s.n - 1
    → Stretch s ms ks cs (part pts (i * s.ch) s.ch) (part pts (i * s.ch + s.ch) s.ch)
stretch_of_points {s} {ms} {pts} g i h =
    let r = from_in i s.n s.ch (length pts) h g.points in
    record {
      tables = g.tables;
      metric = g.metric;
      first = length_part pts (i * s.ch) s.ch (omega arith);
      end = length_part pts
          (i * s.ch + s.ch) s.ch r;
    }

-- ---- the run of a stretch

-- the samples and the lefts of stretch i between two points
abbrev walked : Shape → List ℕ → List Float → List Float → ℕ → List Float → List Float → List Sample
walked s ms ks cs i p0 p1 = samples (eval_of s ks cs) ms s.tol depth (at ks i) p0 (at ks (i + 1)) p1

abbrev lefts_at : Shape → List ℕ → List Float → List Float → ℕ → List Float → List Float → List ℕ
lefts_at s ms ks cs i p0 p1 = lefts_of (eval_of s ks cs) ms s.tol depth (at ks i) p0 (at ks (i + 1)) p1

module _ (s : Shape) (ms : List ℕ) (pts ks cs : List Float) where
  pub run-one : (i : ℕ) {b : Bool} → b ≡ le (at ks (i + 1) ⊖ at ks i) 1e-12 → b ≡ true → fit_run_at s ms pts ks cs i ≡ part pts (i * s.ch + s.ch) s.ch ∷ []
  unfolding fit_run_at
  run-one i e h = rw (sym e ∙ h) (ap (λ (p : List Float). p ∷ []) (sym (next-is pts i s.ch)))

  pub run_walk : (i : ℕ) {b : Bool} → b ≡ le (at ks (i + 1) ⊖ at ks i) 1e-12 → b ≡ false
      → fit_run_at s ms pts ks cs i ≡ points_of (walked s ms ks cs i (part pts (i * s.ch) s.ch) (part pts (i * s.ch + s.ch) s.ch))
  unfolding fit_run_at
  run_walk i e h = rw (sym e ∙ h, first-is pts i s.ch, next-is pts i s.ch)

  pub run-few : (i : ℕ) → length (fit_run_at s ms pts ks cs i) ≤ 2 ^ depth
  unfolding fit_run_at
  run-few i = go (le (at ks (i + 1) ⊖ at ks i) 1e-12)
    where
      go : (b : Bool)
          → length (cond b (row pts s.ch (i + 1) ∷ []) (points_of (walked s ms ks cs i (row pts s.ch i) (row pts s.ch (i + 1))))) ≤ 2 ^ depth
      go true = omega arith
      go false =
          rw (length-map (walked s ms ks cs i (row pts s.ch i) (row pts s.ch (i + 1))) (λ (s : Sample). s.point))
          (samples_le (eval_of s ks cs) ms s.tol depth (at ks i) (row pts s.ch i) (at ks (i + 1)) (row pts s.ch (i + 1)))

  -- what is remembered of it
  pub lefts-one : (i : ℕ) {b : Bool} → b ≡ le (at ks (i + 1) ⊖ at ks i) 1e-12 → b ≡ true → fit_lefts s ms pts ks cs i ≡ 0 ∷ []
  unfolding fit_lefts
  lefts-one i e h = rw (sym e ∙ h)

  pub lefts_walk : (i : ℕ) {b : Bool} → b ≡ le (at ks (i + 1) ⊖ at ks i) 1e-12 → b ≡ false
      → fit_lefts s ms pts ks cs i ≡ lefts_at s ms ks cs i (part pts (i * s.ch) s.ch) (part pts (i * s.ch + s.ch) s.ch)
  unfolding fit_lefts
  lefts_walk i e h = rw (sym e ∙ h, first-is pts i s.ch, next-is pts i s.ch)

  pub lefts-few : (i : ℕ) → length (fit_lefts s ms pts ks cs i) ≤ 2 ^ depth
  unfolding fit_lefts
  lefts-few i = go (le (at ks (i + 1) ⊖ at ks i) 1e-12)
    where
      go : (b : Bool)
          → length (cond b (0 ∷ []) (lefts_at s ms ks cs i (row pts s.ch i) (row pts s.ch (i + 1)))) ≤ 2 ^ depth
      go true = omega arith
      go false = (lefts-led (eval_of s ks cs) ms s.tol depth (at ks i) (row pts s.ch i) (at ks (i + 1)) (row pts s.ch (i + 1))).few

-- ---- counting a stretch: its end owns every sample

own-fit : (f : Form) (n : ℕ) (ks : List Float) → IsFit f → (o : ℕ) (t : Float) → own_in f n ks o t ≡ o
unfolding own_in
own-fit (Basis p) n ks e o t = absurd e
own-fit (Fit k) n ks e o t = refl

own-still : (s : Shape) (ks : List Float) → IsFit s.form → (o : ℕ) (t : Float) → own_of s ks o t ≡ o
own-still s ks e o t = own-fit s.form s.n ks e o t

counted-still : (own : ℕ → Float → ℕ) → ((o : ℕ) (t : Float) → own o t ≡ o) → (o : ℕ) (ss : List Sample) (l : List ℕ) → o - 1 < length l
    → counted own o ss l ≡ set l (o - 1) (get_or l (o - 1) 0 + length ss)
unfolding counted
counted-still own still o [] l h =
    let e : get_or l (o - 1) 0 + 0 ≡ get_or l (o - 1) 0 = omega arith in
    sym (ap (set l (o - 1)) e ∙ set-get_or l (o - 1) 0)
counted-still own still o (s ∷ ss) l h =
    let e : own o s.time ≡ o = still o s.time in
    let v : get_or (bumped l (o - 1)) (o - 1) 0 ≡ get_or l (o - 1) 0 + 1 = get_or-set_same l (o - 1) (get_or l (o - 1) 0 + 1) 0 h in
    let w : get_or l (o - 1) 0 + 1 + length ss ≡ get_or l (o - 1) 0 + suc (length ss) = omega arith in
    ap (λ (k : ℕ). counted own k ss (bumped l (k - 1))) e
    ∙ counted-still own still o ss (bumped l (o - 1)) (rw (length-set l (o - 1) (get_or l (o - 1) 0 + 1)) h)
    ∙ ap (λ (k : ℕ). set (bumped l (o - 1)) (o - 1) (k + length ss)) v
    ∙ set-set l (o - 1) (get_or l (o - 1) 0 + 1) (get_or l (o - 1) 0 + 1 + length ss)
    ∙ ap (set l (o - 1)) w

pub counts-at : {s : Shape} {i : ℕ} {l : List ℕ} → FreshAt s i l → Counts s (i + 1) depth l
counts-at {s} {i} {l} f = record { some = omega arith; owned = f.here; table = f.table; room = λ k h. omega (arith, f.small k h) }

module _ (s : Shape) (ms : List ℕ) (pts ks cs : List Float) (i : ℕ) (l : List ℕ) where
  pub one-counted : {b : Bool} → b ≡ le (at ks (i + 1) ⊖ at ks i) 1e-12 → b ≡ true → set l i 1 ≡ set l i (length (fit_run_at s ms pts ks cs i))
  one-counted e h = ap (λ (z : List (List Float)). set l i (length z)) (sym (run-one s ms pts ks cs i e h))

  pub walk_counted : {b : Bool} {r : ℕ} {xs : List ℕ} → b ≡ le (at ks (i + 1) ⊖ at ks i) 1e-12 → b ≡ false → IsFit s.form → FreshAt s i l
      → Counted (own_of s ks) (i + 1) (walked s ms ks cs i (part pts (i * s.ch) s.ch) (part pts (i * s.ch + s.ch) s.ch)) l r xs
      → xs ≡ set l i (length (fit_run_at s ms pts ks cs i))
  walk_counted {b} {r} {xs} e h kind f c =
      let ss : List Sample = walked s ms ks cs i (part pts (i * s.ch) s.ch) (part pts (i * s.ch + s.ch) s.ch) in
      let j : i + 1 - 1 ≡ i = omega arith in
      let n : length (fit_run_at s ms pts ks cs i) ≡ length ss = ap length (run_walk s ms pts ks cs i e h) ∙ length-map ss (λ (s : Sample). s.point) in
      let v : get_or l i 0 + length ss ≡ length (fit_run_at s ms pts ks cs i) = omega (arith, f.none) in
      c.is ∙ counted-still (own_of s ks) (own-still s ks kind) (i + 1) ss l (omega (arith, f.here, f.table))
      ∙ ap (λ (k : ℕ). set l k (get_or l k 0 + length ss)) j ∙ ap (set l i) v

-- ---- counting one stretch after another

pub filling-set : {f : ℕ → ℕ} {i : ℕ} {l xs ys : List ℕ} → Filling f i l xs → i < length l → ys ≡ set xs i (f i) → Filling f (i + 1) l ys
filling-set {f} {i} {l} {xs} {ys} a h e = subst (λ (z : List ℕ). Filling f (i + 1) l z) (sym e) (filling-more a h refl)

pub fresh_at : (f : ℕ → ℕ) {s : Shape} {i : ℕ} {l xs : List ℕ} → ((k : ℕ) → f k ≤ 2 ^ depth) → Fresh s l → Filling f i l xs → i < s.n - 1 → FreshAt s i xs
fresh_at f {s} {i} {l} {xs} few g a h = record {
  here = omega arith;
  table = omega (arith, a.same, g.table);
  none = ap (λ (z : List ℕ). get_or z i 0) a.is ∙ past-filled f l i i 0 (omega arith) ∙ g.none i h;
  small = λ k q. ⊎_elim
      (λ lt. let e : get_or xs k 0 ≡ f k = ap (λ (z : List ℕ). get_or z k 0) a.is ∙ at-filled f l i k 0 lt in omega (arith, few k))
      (λ ge. let e : get_or xs k 0 ≡ get_or l k 0 = ap (λ (z : List ℕ). get_or z k 0) a.is ∙ past-filled f l i k 0 ge in omega (arith, g.none k q))
      (lt_or_le k i);
}

-- ---- writing one stretch after another

module _ (f : ℕ → List (List Float)) where
  pub runs_none : (l : List ℕ) → Written l 0 (flatten (upto f 0)) 0 l
  unfolding upto flatten
  runs_none l = written_none l 0

  words_step : (j : ℕ) → length (encode (flatten (upto f j))) ≤ length (encode (flatten (upto f (j + 1))))
  words_step j = rw (flat-more f j, encode_append, length-append) (omega arith)

  words_in : (j d : ℕ) → length (encode (flatten (upto f j))) ≤ length (encode (flatten (upto f (j + d))))
  words_in j zero = let e : j + 0 ≡ j = omega arith in rw e (omega arith)
  words_in j (suc d) =
      let e : j + d + 1 ≡ j + suc d = omega arith in
      let a : length (encode (flatten (upto f (j + d)))) ≤ length (encode (flatten (upto f (j + suc d)))) = rw e at (words_step (j + d)) in
      omega (arith, words_in j d)

  run_in : (l : List ℕ) (i n : ℕ) → i < n → length (encode (flatten (upto f n))) ≤ length l → 0 + length (encode (flatten (upto f (i + 1)))) ≤ length l
  run_in l i n h g =
      let e : i + 1 + (n - (i + 1)) ≡ n = omega arith in
      let a : length (encode (flatten (upto f (i + 1)))) ≤ length (encode (flatten (upto f n))) = rw e at (words_in (i + 1) (n - (i + 1))) in
      omega arith

  pub run_room : {l : List ℕ} (i n : ℕ) {r : ℕ} {xs : List ℕ} → i < n → length (encode (flatten (upto f n))) ≤ length l
      → Written l 0 (flatten (upto f i)) r xs → r + length (encode (f i)) ≤ length xs
  run_room {l} i n h g w = room-second (f i) (flat-more f i) (run_in l i n h g) w

  pub run-written : {l : List ℕ} (i n : ℕ) {r r' : ℕ} {xs xs' : List ℕ} → i < n → length (encode (flatten (upto f n))) ≤ length l
      → Written l 0 (flatten (upto f i)) r xs → Written xs r (f i) r' xs' → Written l 0 (flatten (upto f (i + 1))) r' xs'
  run-written {l} i n h g a b = written-two (flat-more f i) (run_in l i n h g) a b
