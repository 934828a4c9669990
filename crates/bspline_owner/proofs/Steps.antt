-- LAWS. One more turn of the owner's loops. Assumes nothing.
use mathlib.Core.Path.{◌≡◌, refl}
use mathlib.Core.List.{List}
use mathlib.Core.Bool.{true, false}
use Prim.Native.Nat.{ℕ, suc, ◌+◌, ◌-◌, ◌<◌, ◌≤◌}
use native.Mathlib.Numerals.{add-one}
use native.Mathlib.Omega.{arith}
use lib.Ieee as Ieee
use lib.Ieee.{Float, nan}
use lib.ListN.{take, drop}
use lib.Seq.{get_or-take, get_or-drop}
use Rattle.floats.specs.Numbers.{◌⊕◌, f0, at}
use Rattle.bspline_tables.specs.Basis.{knot_sum}
use Rattle.bspline_tables.specs.Tables.{greville_at, advanced}

pub sum-none : (ks : List Float) (i : ℕ) → f0 ≡ knot_sum ks i 0
unfolding knot_sum
sum-none ks i = refl

-- knot k of those that are summed, which stand from i + 1 on
pub sum_more : (ks : List Float) (i n k : ℕ) {s : Float} → k < n → s ≡ knot_sum ks i k → s ⊕ at (take n (drop (i + 1) ks)) k ≡ knot_sum ks i (k + 1)
unfolding knot_sum
sum_more ks i n k h e = rw (get_or-take n (drop (i + 1) ks) k nan h, get_or-drop (i + 1) ks k nan, e, add-one k)

module _ (ks : List Float) (p : ℕ) (t : Float) (last o : ℕ) {g : Float} (is : g ≡ greville_at ks p o) where
  left_is : o < last → last - o ≡ suc (last - (o + 1))
  left_is h = omega arith

  pub advance_on : o < last → Ieee.lt g t ≡ true → advanced ks p t (last - o) o ≡ advanced ks p t (last - (o + 1)) (o + 1)
  unfolding advanced
  advance_on h e = rw (left_is h, ← is, e)

  pub advance_here : o < last → Ieee.lt g t ≡ false → advanced ks p t (last - o) o ≡ o
  unfolding advanced
  advance_here h e = rw (left_is h, ← is, e)

pub advance_end : (ks : List Float) (p : ℕ) (t : Float) (last o : ℕ) → last ≤ o → advanced ks p t (last - o) o ≡ o
unfolding advanced
advance_end ks p t last o h = let e : last - o ≡ 0 = omega arith in rw e
