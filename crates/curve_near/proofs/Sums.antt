-- LAWS. One more turn of each running sum of `specs/Metric.antt`, and the sums of two and three turns. Assumes nothing.
use mathlib.Core.Path.{◌≡◌}
use mathlib.Core.List.{List}
use Prim.Native.Nat.{ℕ, ◌+◌}
use native.Mathlib.Numerals.{add-one}
use lib.ListN.{get_or, length}
use lib.Ieee.{Float, binary64, le}
use Rattle.root.specs.Root.{sqrt}
use Rattle.floats.specs.Numbers.{◌⊕◌, ◌⊗◌}
use Rattle.curve_metric.specs.Metric.{len_to, dot_to, dist_to, along, deviation2_of, deviation_of}
use Rattle.curve_gaps.specs.Gaps.{gap_of, toward_of, missed_of, foot_of, dist_two, dist_three}
use Rattle.curve_gaps.specs.declared.Gap.{Gap}
use Rattle.curve_metric.specs.Walk.{near}

module _ (p a b : List Float) (ms : List ℕ) (k : ℕ) {g : Gap} (eg : g ≡ gap_of p a b (get_or ms k 0)) where
  pub len-gap : {s : Float} → s ≡ len_to a b ms k → s ⊕ g.d ⊗ g.d ≡ len_to a b ms (k + 1)
  unfolding len_to
  len-gap e = rw (add-one, eg, e)

  pub dot_more : {s r : Float} → s ≡ dot_to p a b ms k → r ≡ toward_of g → s ⊕ r ≡ dot_to p a b ms (k + 1)
  unfolding dot_to
  dot_more e er = rw (add-one, er, eg, e)

  pub dist_more : (t : Float) {s r : Float} → s ≡ dist_to p a b ms t k → r ≡ missed_of g t → s ⊕ r ≡ dist_to p a b ms t (k + 1)
  unfolding dist_to
  dist_more t e er = rw (add-one, er, eg, e)

pub along-is : (p a b : List Float) (ms : List ℕ) {k : ℕ} {d l : Float}
    → k ≡ length ms → d ≡ dot_to p a b ms k → l ≡ len_to a b ms k → foot_of d l ≡ along p a b ms
unfolding along
along-is p a b ms e hd hl = rw (hd, hl, e)

pub deviation_is : (p a b : List Float) (ms : List ℕ) {k : ℕ} {s t : Float}
    → k ≡ length ms → t ≡ along p a b ms → s ≡ dist_to p a b ms t k → s ≡ deviation2_of p a b ms
deviation_is p a b ms e ht hs = rw (hs, ht, e)

-- written out, for two and three channels
module _ (p a b : List Float) (ms : List ℕ) {x y : Gap} (ex : x ≡ gap_of p a b (get_or ms 0 0)) (ey : y ≡ gap_of p a b (get_or ms 1 0)) where
  pub two_is : length ms ≡ 2 → dist_two x y ≡ deviation2_of p a b ms
  unfolding dist_to along len_to dot_to
  two_is e = rw (e, ex, ey)

  pub three-is : {z : Gap} → z ≡ gap_of p a b (get_or ms 2 0) → length ms ≡ 3 → dist_three x y z ≡ deviation2_of p a b ms
  unfolding dist_to along len_to dot_to
  three-is ez e = rw (e, ex, ey, ez)

pub near-is : (ms : List ℕ) (tol : Float) (a b p : List Float) {s : Float} → s ≡ deviation2_of p a b ms → le (sqrt binary64 s) tol ≡ near ms tol a b p
unfolding near deviation_of
near-is ms tol a b p e = rw e
