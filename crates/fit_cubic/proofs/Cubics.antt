-- LAWS. One more row of each recurrence of `specs/Fit.antt`. j is i + 1. Assumes nothing.
use mathlib.Core.Path.{◌≡◌, refl, ◌∙◌}
use mathlib.Core.List.{List}
use Prim.Native.Nat.{ℕ, zero, suc, ◌+◌, ◌-◌, ◌<◌, ◌≤◌}
use native.Mathlib.Omega.{arith}
use lib.ListN.{set}
use lib.Seq.{get_or-set_other}
use native.Mathlib.Nat.{ne_of_lt}
use lib.Ieee.{Float, nan}
use borrow.Author.Tests.{lt-ltb, le-ltb}
use Rattle.floats.specs.Numbers.{◌⊕◌, ◌⊖◌, ◌⊗◌, ◌⊘◌, f0, f2, f6, at}
use Rattle.fit_slopes.specs.Slopes.{step, secant, sup, diag, rhs, bend_back, bend, bent}

-- the right sides below i are not spent yet
pub record Unspent (ts ys r : List Float) (i : ℕ) : Type 0 where
  pub is : (k : ℕ) → k < i → at r k ≡ rhs ts ys k

pub unspent_below : {ts ys r : List Float} {i n : ℕ} (j : ℕ) (v : Float) → Unspent ts ys r i → n ≤ i → n ≤ j → Unspent ts ys (set r j v) n
unspent_below {r = r} j v u low below = record {
  is = λ k h. get_or-set_other r j k v nan (ne_of_lt (omega arith)) ∙ u.is k (omega arith);
}

module _ (ts : List Float) where
  sup-pos : (j : ℕ) → 0 < j → sup ts j ≡ step ts j
  sup-pos zero h = absurd (omega arith)
  sup-pos (suc j) h = refl

module _ (ts ys : List Float) where
  -- from knot i back to the one before, j
  pub back_more : (m i j : ℕ) {h b r d : Float} → 0 < j → i ≡ j + 1 → i ≤ m → h ≡ step ts j → b ≡ bend_back ts ys m (m - i) → r ≡ rhs ts ys j → d ≡ diag ts j
      → (r ⊖ h ⊗ b) ⊘ d ≡ bend_back ts ys m (m - j)
  unfolding bend_back
  back_more m i j pos ei le eh eb er ed =
      let e : m - j ≡ suc (m - i) = omega arith in
      let f : m - suc (m - i) ≡ j = omega arith in
      rw (e, f, sup-pos ts j pos, eh, eb, er, ed)

  pub bend-is : (m j : ℕ) → 0 < j → bend ts ys m j ≡ bend_back ts ys m (m - j)
  unfolding bend
  bend-is m zero h = absurd (omega arith)
  bend-is m (suc j) h = refl

  pub bend-last : (m : ℕ) → 0 < m → f0 ≡ bend_back ts ys m (m - m)
  unfolding bend_back
  bend-last m h = let e : m - m ≡ 0 = omega arith in rw e

  pub slope_in : (m i : ℕ) {s h a b : Float} → i < m → s ≡ secant ts ys i → h ≡ step ts i → a ≡ bend ts ys m i → b ≡ bend ts ys m (i + 1)
      → s ⊖ h ⊗ (f2 ⊗ a ⊕ b) ⊘ f6 ≡ bent ts ys m i
  unfolding bent
  slope_in m i lt es eh ea eb = rw (lt-ltb i m lt, es, eh, ea, eb)

  pub slope_end : (m : ℕ) {s h a b : Float} → s ≡ secant ts ys (m - 1) → h ≡ step ts (m - 1) → a ≡ bend ts ys m (m - 1) → b ≡ bend ts ys m m
      → s ⊕ h ⊗ (a ⊕ f2 ⊗ b) ⊘ f6 ≡ bent ts ys m m
  unfolding bent
  slope_end m es eh ea eb = rw (le-ltb m m (omega arith), es, eh, ea, eb)
