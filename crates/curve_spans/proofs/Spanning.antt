-- LAWS. One more knot span. Assumes nothing.
use mathlib.Core.Path.{◌≡◌, refl, ap, ◌∙◌}
use mathlib.Core.List.{List, [], ◌++◌, map-append}
use Prim.Native.Nat.{ℕ, zero, suc, ◌+◌, ◌-◌, ◌*◌, ◌^◌, ◌<◌, ◌≤◌}
use native.Mathlib.Numerals.{add-one}
use native.Mathlib.Nat.{mul-le-mul_right, suc-mul}
use native.Mathlib.Omega.{arith}
use lib.ListN.{length, get_or, length-append}
use lib.Ieee as Ieee
use lib.Ieee.{Float}
use Rattle.floats.specs.Numbers.{of_nat, f0}
use Rattle.floats.specs.Lists.{upto, filled, flatten}
use Rattle.floats.specs.Joins.{flatten_snoc}
use Rattle.layout.specs.Layout.{most_points}
use Rattle.curve_metric.specs.Below.{Below}
use Rattle.curve_metric.specs.Walk.{Sample, samples, depth}
use Rattle.curve_metric.proofs.WalkLaws.{samples_le}
use Rattle.curve_walk.specs.declared.Shape.{Shape}
use Rattle.curve_walk.specs.Walks.{encode, point_at, own_of, end_owner, counted, points_of}
use Rattle.curve_walk.specs.Asks.{Tables, Stretch, Counted, Counts, Written, Fresh}
use Rattle.curve_walk.specs.Counting.{counted-two, counted_le, counted-length, end_in}
use Rattle.curve_walk.specs.Lefts.{lefts_of}
use Rattle.curve_walk.proofs.Remembering.{lefts-led}
use Rattle.curve_walk.specs.Writing.{encode_append, written_none, written-two, room-second}
use Rattle.curve_spans.specs.Stretches.{span_samples}
use Rattle.curve_spans.specs.Lefts.{span_lefts}

pub zero-time : f0 ≡ of_nat 0
unfolding Ieee.of_bits Ieee.of_int
zero-time = refl

pub first-point : (s : Shape) (ks cs : List Float) (l : List Float) {r : List Float} → r ≡ filled (point_at s ks cs f0) s.ch l
    → r ≡ filled (point_at s ks cs (of_nat 0)) s.ch l
first-point s ks cs l e = e ∙ ap (λ (t : Float). filled (point_at s ks cs t) s.ch l) zero-time

pub stretch_of : {s : Shape} {ms : List ℕ} {ks cs q0 q1 : List Float} → Tables s ks cs → Below ms s.ch → length q0 ≡ s.ch → length q1 ≡ s.ch
    → Stretch s ms ks cs q0 q1
stretch_of t m e0 e1 = record { tables = t; metric = m; first = e0; end = e1 }

module _ (ev : Float → List Float) (ms : List ℕ) (tol : Float) where
  spans_none : span_samples ev ms tol 0 ≡ []
  unfolding span_samples upto flatten
  spans_none = refl

  spans_next : (j : ℕ)
      → span_samples ev ms tol (suc j) ≡ span_samples ev ms tol j ++ samples ev ms tol depth (of_nat j) (ev (of_nat j)) (of_nat (j + 1)) (ev (of_nat (j + 1)))
  unfolding span_samples upto
  spans_next j = flatten_snoc _ _

  spans_more : (j : ℕ) (q0 q1 : List Float) {t u : Float} → t ≡ of_nat j → u ≡ of_nat (j + 1) → q0 ≡ ev (of_nat j) → q1 ≡ ev (of_nat (j + 1))
      → span_samples ev ms tol (j + 1) ≡ span_samples ev ms tol j ++ samples ev ms tol depth t q0 u q1
  spans_more j q0 q1 et eu e0 e1 = ap (span_samples ev ms tol) (add-one j) ∙ spans_next j ∙ rw (et, eu, e0, e1)

  spans_few : (j : ℕ) → length (span_samples ev ms tol j) ≤ j * 2 ^ depth
  spans_few zero = rw spans_none (omega arith)
  spans_few (suc j) =
      let few = samples_le ev ms tol depth (of_nat j) (ev (of_nat j)) (of_nat (j + 1)) (ev (of_nat (j + 1))) in
      rw (spans_next j, length-append) (omega (arith, spans_few j, suc-mul j (2 ^ depth), few))

  -- what is remembered of a span
  pub span-lefts : (j : ℕ) (q0 q1 : List Float) {t u : Float} → t ≡ of_nat j → u ≡ of_nat (j + 1) → q0 ≡ ev (of_nat j) → q1 ≡ ev (of_nat (j + 1))
      → span_lefts ev ms tol j ≡ lefts_of ev ms tol depth t q0 u q1
  unfolding span_lefts
  span-lefts j q0 q1 et eu e0 e1 = rw (et, eu, e0, e1)

  pub span_few : (j : ℕ) → length (span_lefts ev ms tol j) ≤ 2 ^ depth
  unfolding span_lefts
  span_few j = (lefts-led ev ms tol depth (of_nat j) (ev (of_nat j)) (of_nat (j + 1)) (ev (of_nat (j + 1)))).few

  -- ---- counting

  pub count_none : (own : ℕ → Float → ℕ) (l : List ℕ) → Counted own 1 (span_samples ev ms tol 0) l 1 l
  unfolding end_owner counted
  count_none own l = rw spans_none (record { owner = refl; is = refl })

  pub count-more : (j : ℕ) (q0 q1 : List Float) {t u : Float} {own : ℕ → Float → ℕ} {l : List ℕ} {r r' : ℕ} {xs xs' : List ℕ} → t ≡ of_nat j
      → u ≡ of_nat (j + 1) → q0 ≡ ev (of_nat j) → q1 ≡ ev (of_nat (j + 1))
      → Counted own 1 (span_samples ev ms tol j) l r xs → Counted own r (samples ev ms tol depth t q0 u q1) xs r' xs'
      → Counted own 1 (span_samples ev ms tol (j + 1)) l r' xs'
  count-more j q0 q1 et eu e0 e1 a b = counted-two (spans_more j q0 q1 et eu e0 e1) a b

  pub count_room_lem : {s : Shape} (ks : List Float) (j : ℕ) {l : List ℕ} {r : ℕ} {xs : List ℕ} → 2 ≤ s.n → j ≤ most_points → Fresh s l
      → Counted (own_of s ks) 1 (span_samples ev ms tol j) l r xs → Counts s r depth xs
  count_room_lem {s} ks j {l} {r} {xs} two h f t =
      let i = end_in s ks 1 (span_samples ev ms tol j) (omega arith) in
      let n : length xs ≡ length l = ap length t.is ∙ counted-length (own_of s ks) 1 (span_samples ev ms tol j) l in
      let m : j * 2 ^ depth ≤ most_points * 2 ^ depth = mul-le-mul_right (2 ^ depth) h in
      record {
        some = omega (arith, t.owner);
        owned = omega (arith, t.owner);
        table = omega (arith, f.table);
        room = λ k g.
            let e : get_or xs k 0 ≡ get_or (counted (own_of s ks) 1 (span_samples ev ms tol j) l) k 0 = ap (λ (z : List ℕ). get_or z k 0) t.is in
            omega (arith, e, f.none k g, counted_le (own_of s ks) 1 (span_samples ev ms tol j) l k, spans_few j);
      }

  -- ---- writing

  -- the words of the first j spans
  abbrev words : ℕ → ℕ
  words j = length (encode (points_of (span_samples ev ms tol j)))

  points-more : (j : ℕ) (q0 q1 : List Float) {t u : Float} → t ≡ of_nat j → u ≡ of_nat (j + 1) → q0 ≡ ev (of_nat j) → q1 ≡ ev (of_nat (j + 1))
      → points_of (span_samples ev ms tol (j + 1)) ≡ points_of (span_samples ev ms tol j) ++ points_of (samples ev ms tol depth t q0 u q1)
  points-more j q0 q1 {t} {u} et eu e0 e1 =
      ap points_of (spans_more j q0 q1 et eu e0 e1)
      ∙ map-append (λ (s : Sample). s.point) (span_samples ev ms tol j) (samples ev ms tol depth t q0 u q1)

  words_step : (j : ℕ) → words j ≤ words (j + 1)
  words_step j =
      let e = points-more j (ev (of_nat j)) (ev (of_nat (j + 1))) refl refl refl refl in
      rw (e, encode_append, length-append) (omega arith)

  words_in : (j d : ℕ) → words j ≤ words (j + d)
  words_in j zero = let e : j + 0 ≡ j = omega arith in rw e (omega arith)
  words_in j (suc d) =
      let e : j + d + 1 ≡ j + suc d = omega arith in
      let a : words (j + d) ≤ words (j + suc d) = rw e at (words_step (j + d)) in
      omega (arith, words_in j d)

  pub room-more : (l : List ℕ) (j n : ℕ) → j < n → words n ≤ length l
      → 0 + words (j + 1) ≤ length l
  room-more l j n h g =
      let e : j + 1 + (n - (j + 1)) ≡ n = omega arith in
      let a : words (j + 1) ≤ words n = rw e at (words_in (j + 1) (n - (j + 1))) in
      omega arith

  pub write_none : (l : List ℕ) → Written l 0 (points_of (span_samples ev ms tol 0)) 0 l
  write_none l = rw spans_none (written_none l 0)

  module _ (j : ℕ) (q0 q1 : List Float) {t u : Float} (et : t ≡ of_nat j) (eu : u ≡ of_nat (j + 1)) (e0 : q0 ≡ ev (of_nat j)) (e1 : q1 ≡ ev (of_nat (j + 1)))
    where
      pub write_room : {l : List ℕ} {r : ℕ} {xs : List ℕ} → 0 + words (j + 1) ≤ length l
          → Written l 0 (points_of (span_samples ev ms tol j)) r xs
          → r + length (encode (points_of (samples ev ms tol depth t q0 u q1))) ≤ length xs
      write_room h w = room-second (points_of (samples ev ms tol depth t q0 u q1)) (points-more j q0 q1 et eu e0 e1) h w

      pub write_more : {l : List ℕ} {r r' : ℕ} {xs xs' : List ℕ} → 0 + words (j + 1) ≤ length l
          → Written l 0 (points_of (span_samples ev ms tol j)) r xs → Written xs r (points_of (samples ev ms tol depth t q0 u q1)) r' xs'
          → Written l 0 (points_of (span_samples ev ms tol (j + 1))) r' xs'
      write_more h a b = written-two (points-more j q0 q1 et eu e0 e1) h a b
