-- LAWS. The tables of a fit, as they are laid in the two lists. Assumes nothing.
use mathlib.Core.Path.{◌≡◌, sym, ap, ◌∙◌, subst}
use mathlib.Core.Bool.{Bool}
use mathlib.Core.List.{List, ◌++◌}
use Prim.Native.Nat.{ℕ, ◌+◌, ◌-◌, ◌*◌, ◌<◌, ◌≤◌}
use native.Mathlib.Omega.{arith}
use lib.ListN.{length, take, drop, length-drop, length-append, get_or-append}
use lib.Seq.{take_at, length-take-le}
use lib.Ieee.{Float, nan}
use borrow.Rule.Slice.PartMut.{put_mid, post_of, Post-is}
use Rattle.floats.specs.Numbers.{at}
use Rattle.floats.specs.Lists.{upto, filled, rows_of}
use Rattle.floats.specs.Fill.{length-upto}
use Rattle.curve_metric.specs.Metric.{chord_to, chords}
use Rattle.curve_metric.specs.Points.{length-rows}
use Rattle.fit_knots.specs.Prepare.{FitReady}
use Rattle.bspline_tables.specs.RowLaws.{put, put-here, put-before}
use Rattle.fit_knots.specs.Memory.{fit_times, fit_points, fit_slopes}
use Rattle.fit_tables.specs.Asks.{Fitted}

put-mid : (a e : ℕ) (xs ys : List Float) → a ≤ e → put_mid a (e - a) xs ys ≡ put xs a e ys
put-mid a e xs ys h = let p : post_of a (e - a) xs ≡ drop e xs = Post-is a e xs h in rw p

-- what is put where as much stands before it
put-behind : (xs ys : List Float) (w : ℕ) → length ys ≡ w → w + w ≤ length xs → take (w + w - w) (drop w (put xs w (w + w) ys)) ≡ ys
put-behind xs ys w h g = let e : w + w - w ≡ w = omega arith in rw e (put-here xs w w ys h g)

part_length : (xs : List Float) (w : ℕ) → w + w ≤ length xs → length (take (w + w - w) (drop w xs)) ≡ w
part_length xs w h = let e : w + w - w ≡ w = omega arith in rw e (length-take-le w (drop w xs) (rw length-drop (omega arith)))

-- a front that is lent comes back as long as it was
back-length : (xs ys : List Float) (w : ℕ) → length ys ≡ length (take w xs) → w ≤ length xs → length (ys ++ drop w xs) ≡ length xs
back-length xs ys w e h = length-append ys (drop w xs) ∙ rw length-drop (omega (arith, e ∙ length-take-le w xs h))

front-stays : (xs ys : List Float) (w e : ℕ) → w ≤ length xs → take w (put xs w e ys) ≡ take w xs
front-stays xs ys w e h = take_at (take w xs) (ys ++ drop e xs) w (length-take-le w xs h)

pub sums_are : (n ch : ℕ) (ms : List ℕ) (pts l : List Float) {ts : List Float} → ts ≡ filled (chord_to (rows_of pts ch n) ms) n l
    → take n ts ≡ chords (rows_of pts ch n) ms
unfolding chords
sums_are n ch ms pts l e =
    ap (take n) e ∙ take_at (upto (chord_to (rows_of pts ch n) ms) n) (drop n l) n (length-upto (chord_to (rows_of pts ch n) ms) n)
    ∙ ap (upto (chord_to (rows_of pts ch n) ms)) (sym (length-rows pts ch n))

module _ (cubic : Bool) (n ch : ℕ) (ms : List ℕ) (pts ks cs sl l : List Float) {ts ks1 fts fps bends dst : List Float} {m : ℕ}
    (kr : 2 * n ≤ length ks) (cr : n * ch + n * ch ≤ length cs) (sr : n * ch ≤ length sl) (lt : n ≤ length ts)
    (et : ts ≡ filled (chord_to (rows_of pts ch n) ms) n l)
    (ek : ks1 ≡ take n ts ++ drop n ks)
    (lf : length fts ≡ length (take (n + n - n) (drop n ks1)))
    (lp : length fps ≡ length (take (n * ch) cs))
    (lb : length bends ≡ length (take (n * ch) sl))
    (ed : dst ≡ take (n * ch) (bends ++ drop (n * ch) sl))
    (ready : FitReady cubic (rows_of pts ch n) (take n ts) n ch fts fps bends m) where
  n-sums : length (take n ts) ≡ n
  n-sums = length-take-le n ts lt

  k1 : length ks1 ≡ length ks
  k1 =
      let front : length (take n ks) ≡ n = length-take-le n ks (omega arith) in
      ap length ek ∙ back-length ks (take n ts) n (n-sums ∙ sym front) (omega arith)

  n-times : length fts ≡ n
  n-times = lf ∙ part_length ks1 n (omega (arith, k1))

  w-points : length fps ≡ n * ch
  w-points = lp ∙ length-take-le (n * ch) cs (omega arith)

  w-slopes : length bends ≡ n * ch
  w-slopes = lb ∙ length-take-le (n * ch) sl sr

  abbrev ks2 : List Float
  ks2 = put ks1 n (n + n) fts

  abbrev cs1 : List Float
  cs1 = fps ++ drop (n * ch) cs

  c1 : length cs1 ≡ length cs
  c1 = back-length cs fps (n * ch) lp (omega arith)

  bends_are : take (n * ch) (bends ++ drop (n * ch) sl) ≡ bends
  bends_are = take_at bends (drop (n * ch) sl) (n * ch) w-slopes

  dst_is : dst ≡ bends
  dst_is = ed ∙ bends_are

  w-copied : length dst ≡ n * ch
  w-copied = ap length dst_is ∙ w-slopes

  abbrev cs2 : List Float
  cs2 = put cs1 (n * ch) (n * ch + n * ch) dst

  times_are : fit_times n ks2 ≡ fts
  times_are = put-behind ks1 fts n n-times (omega (arith, k1))

  points_are : fit_points (n * ch) cs2 ≡ fps
  points_are = front-stays cs1 dst (n * ch) (n * ch + n * ch) (omega (arith, c1)) ∙ take_at fps (drop (n * ch) cs) (n * ch) w-points

  slopes_are : fit_slopes (n * ch) cs2 ≡ bends
  slopes_are = put-behind cs1 dst (n * ch) w-copied (omega (arith, c1)) ∙ dst_is

  sum-at : (i : ℕ) → i < n → at ks2 i ≡ at (chords (rows_of pts ch n) ms) i
  sum-at i h =
      put-before ks1 n (n + n) fts i h (omega (arith, k1))
      ∙ ap (λ (z : List Float). at z i) ek ∙ get_or-append (take n ts) (drop n ks) nan i (omega (arith, n-sums))
      ∙ ap (λ (z : List Float). at z i) (sums_are n ch ms pts l et)

  laid-put : Fitted cubic n ch ms pts m ks2 cs2
  laid-put = record {
    sums = sum-at;
    fit = rw (times_are, points_are, slopes_are, ← (sums_are n ch ms pts l et)) ready;
  }

  behind : put_mid (n * ch) (n * ch + n * ch - n * ch) cs1 dst ≡ cs2
  behind = put-mid (n * ch) (n * ch + n * ch) cs1 dst (omega arith)

  pub laid : Fitted cubic n ch ms pts m (put_mid n (n + n - n) ks1 fts) (put_mid (n * ch) (n * ch + n * ch - n * ch) (fps ++ drop (n * ch) cs) dst)
  laid =
      let a : put_mid n (n + n - n) ks1 fts ≡ ks2 = put-mid n (n + n) ks1 fts (omega arith) in
      let b = subst (λ (z : List Float). Fitted cubic n ch ms pts m z cs2) (sym a) laid-put in
      subst (λ (z : List Float). Fitted cubic n ch ms pts m (put_mid n (n + n - n) ks1 fts) z) (sym behind) b
