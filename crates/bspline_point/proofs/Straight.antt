-- LAWS. The triangle of degrees 1 to 4, written out, is the curve's. Assumes nothing.
use mathlib.Core.Path.{◌≡◌, refl, sym, ap, ◌∙◌}
use mathlib.Core.List.{List}
use mathlib.Core.Logic.{◌⊎◌, inl, inr, ⊎_elim}
use Prim.Native.Nat.{ℕ, zero, suc, ◌+◌, ◌-◌, ◌*◌, ◌<◌, ◌≤◌}
use native.Mathlib.Omega.{arith}
use lib.ListN.{length}
use lib.Ieee.{Float}
use Rattle.floats.specs.Numbers.{◌⊘◌, f0, held_in, at}
use Rattle.floats.specs.Lists.{filled}
use Rattle.bspline_tables.specs.Basis.{share, levels}
use Rattle.bspline_tables.specs.Tables.{weighted, window, span_in, curve_at, Curve}
use Rattle.bspline_low.specs.Low.{SharesIn, mix_of, top1, top2, top3, top4, top_of, FourthIn}
use Rattle.bspline_low.specs.declared.four.Fourth.{Fourth}
use Rattle.bspline_low.specs.declared.low.Shares.{Shares}
use Rattle.bspline_low.specs.LowLaws.{by_one, by_two, by_three}
use Rattle.bspline_boor.specs.Levels.{level-at, window-at, window-length}
use Rattle.bspline_point.proofs.Curves.{curve-is}

-- ---- the rows of channel c in span k
module _ (ks cw : List Float) (n p : ℕ) (u : Float) (k c : ℕ) (in_span : p ≤ k) (under : k < n) (wide : length (window cw n p k c) ≡ p + 1) where
  abbrev lev : ℕ → ℕ → Float
  lev r j = at (levels ks u p k (window cw n p k c) r) j

  number_at : (j : ℕ) {i : ℕ} → j ≤ p → i ≡ c * n + (k - p) + j → at cw i ≡ lev 0 j
  unfolding levels
  number_at j h e = window-at cw n p k c j in_span under h e

  up : (r j : ℕ) {a x y : Float} → suc r ≤ j → j ≤ p → a ≡ share ks u p k (suc r) j → x ≡ lev r (j - 1) → y ≡ lev r j → mix_of a x y ≡ lev (suc r) j
  up r j h g ea ex ey = rw (ea, ex, ey) (sym (level-at ks u p k (window cw n p k c) r j wide (omega arith) h))

  abbrev i : ℕ
  i = c * n + (k - p)

  at_level : (q : ℕ) → p ≡ q → lev q q ≡ weighted ks cw n p u k c
  unfolding weighted
  at_level q e = ap (λ (z : ℕ). lev z z) (sym e)

  module _ (s : Shares) (sh : SharesIn ks u p k s) where
    one : 1 ≤ p → top1 s cw i ≡ lev 1 1
    one h = up 0 1 (omega arith) h sh.first1 (number_at 0 (omega arith) (omega arith)) (number_at 1 h refl)

    mid : 2 ≤ p → mix_of s.a2 (at cw (i + 1)) (at cw (i + 2)) ≡ lev 1 2
    mid h = up 0 2 (omega arith) h (sh.first2 h) (number_at 1 (omega arith) refl) (number_at 2 h refl)

    high : 3 ≤ p → mix_of s.a3 (at cw (i + 2)) (at cw (i + 3)) ≡ lev 1 3
    high h = up 0 3 (omega arith) h (sh.first3 h) (number_at 2 (omega arith) refl) (number_at 3 h refl)

    two : 2 ≤ p → top2 s cw i ≡ lev 2 2
    two h = up 1 2 (omega arith) h (sh.second2 h) (one (omega arith)) (mid h)

    three : 3 ≤ p → top3 s cw i ≡ lev 3 3
    three h = up 2 3 (omega arith) h (sh.third3 h) (two (omega arith)) (up 1 3 (omega arith) h (sh.second3 h) (mid (omega arith)) (high h))

    pub top-weighted : 1 ≤ p → p ≤ 3 → top_of s p cw (c * n + (k - p)) ≡ weighted ks cw n p u k c
    top-weighted h g = ⊎_elim
        (λ (e : p ≡ 1). by_one s p cw i e ∙ one h ∙ at_level 1 e)
        (⊎_elim
        (λ (e : p ≡ 2). by_two s p cw i e ∙ two (omega arith) ∙ at_level 2 e)
        (λ (e : p ≡ 3). by_three s p cw i (omega arith) ∙ three (omega arith) ∙ at_level 3 e))
        (which p h g)
      where
        which : (p : ℕ) → 1 ≤ p → p ≤ 3 → (p ≡ 1) ⊎ ((p ≡ 2) ⊎ (p ≡ 3))
        which zero h g = absurd (omega arith)
        which (suc zero) h g = inl refl
        which (suc (suc zero)) h g = inr (inl refl)
        which (suc (suc (suc zero))) h g = inr (inr refl)
        which (suc (suc (suc (suc q)))) h g = absurd (omega arith)

  module _ (s : Fourth) (sh : FourthIn ks u p k s) (deep : 4 ≤ p) where
    upper1 : mix_of s.high.a1 (at cw (i + 1)) (at cw (i + 1 + 1)) ≡ lev 1 2
    upper1 = up 0 2 (omega arith) (omega arith) sh.first2 (number_at 1 (omega arith) (omega arith)) (number_at 2 (omega arith) (omega arith))

    upper2 : mix_of s.high.a2 (at cw (i + 1 + 1)) (at cw (i + 1 + 2)) ≡ lev 1 3
    upper2 = up 0 3 (omega arith) (omega arith) sh.first3 (number_at 2 (omega arith) (omega arith)) (number_at 3 (omega arith) (omega arith))

    upper3 : mix_of s.high.a3 (at cw (i + 1 + 2)) (at cw (i + 1 + 3)) ≡ lev 1 4
    upper3 = up 0 4 (omega arith) (omega arith) sh.first4 (number_at 3 (omega arith) (omega arith)) (number_at 4 (omega arith) (omega arith))

    -- the triangle one row up
    upper : top3 s.high cw (i + 1) ≡ lev 3 4
    upper = up 2 4 (omega arith) (omega arith) sh.third4 (up 1 3 (omega arith) (omega arith) sh.second3 upper1 upper2)
        (up 1 4 (omega arith) (omega arith) sh.second4 upper2 upper3)

    pub fourth_weighted : p ≡ 4 → top4 s cw (c * n + (k - p)) ≡ weighted ks cw n p u k c
    fourth_weighted e = up 3 4 (omega arith) (omega arith) sh.fourth4 (three s.low sh.low (omega arith)) upper ∙ at_level 4 e

-- the whole evaluation
pub low-is : (ks cw : List Float) (n p ch : ℕ) (t : Float) (l : List Float) {u : Float} {k : ℕ} {s : Shares} {r : List Float}
    → Curve ks cw n p ch → p ≤ 3 → u ≡ held_in f0 (at ks n) t → k ≡ span_in n p u → p ≤ k → k < n → SharesIn ks u p k s
    → r ≡ filled (λ c. top_of s p cw (c * n + (k - p)) ⊘ top_of s p cw (ch * n + (k - p))) ch l
    → r ≡ filled (curve_at ks cw n p ch t) ch l
low-is ks cw n p ch t l {u} {k} {s} cu small eh ek h g sh er =
    curve-is ks cw n p ch t l (λ c. top_of s p cw (c * n + (k - p))) cu.top eh ek
    (λ c hc. top-weighted ks cw n p u k c h g (window-length cw n p ch k cu.controls h g c hc) s sh cu.some small) er

pub low-three : (ks cw : List Float) (n p ch : ℕ) (t : Float) (l : List Float) {u : Float} {k : ℕ} {s : Shares} {r : List Float}
    → Curve ks cw n p ch → p ≡ 3 → u ≡ held_in f0 (at ks n) t → k ≡ span_in n p u → p ≤ k → k < n → SharesIn ks u p k s
    → r ≡ filled (λ c. top_of s 3 cw (c * n + (k - 3)) ⊘ top_of s 3 cw (ch * n + (k - 3))) ch l
    → r ≡ filled (curve_at ks cw n p ch t) ch l
low-three ks cw n p ch t l cu e eh ek h g sh er = low-is ks cw n p ch t l cu (omega arith) eh ek h g sh (rw e er)

pub low-four : (ks cw : List Float) (n p ch : ℕ) (t : Float) (l : List Float) {u : Float} {k : ℕ} {s : Fourth} {r : List Float}
    → Curve ks cw n p ch → p ≡ 4 → u ≡ held_in f0 (at ks n) t → k ≡ span_in n p u → p ≤ k → k < n → FourthIn ks u 4 k s
    → r ≡ filled (λ c. top4 s cw (c * n + (k - 4)) ⊘ top4 s cw (ch * n + (k - 4))) ch l
    → r ≡ filled (curve_at ks cw n p ch t) ch l
low-four ks cw n p ch t l {u} {k} {s} cu e eh ek h g sh er =
    curve-is ks cw n p ch t l (λ c. top4 s cw (c * n + (k - p))) cu.top eh ek
    (λ c hc. fourth_weighted ks cw n p u k c h g (window-length cw n p ch k cu.controls h g c hc) s (rw e sh) (omega arith) e) (rw e er)
