-- DEFINITIONS. De Boor's triangle of degrees 1 to 4, written out. Assumes nothing.
use Rattle.std.specs.Prelude.{List, ◌≡◌, cond, ℕ, ◌+◌, ◌≤◌, eqb, ltb, Float}
use Rattle.floats.specs.Numbers.{◌⊕◌, ◌⊖◌, ◌⊗◌, ◌⊘◌, f0, f1, at}
use Rattle.bspline_tables.specs.Basis.{share}
use Rattle.bspline_low.specs.declared.four.Fourth.{Fourth}
use Rattle.bspline_low.specs.declared.low.Shares.{Shares}

-- s has the share of each row that counts in span k
pub record SharesIn (ks : List Float) (u : Float) (p k : ℕ) (s : Shares) : Type 0 where
  pub first1 : s.a1 ≡ share ks u p k 1 1
  pub first2 : 2 ≤ p → s.a2 ≡ share ks u p k 1 2
  pub first3 : 3 ≤ p → s.a3 ≡ share ks u p k 1 3
  pub second2 : 2 ≤ p → s.b2 ≡ share ks u p k 2 2
  pub second3 : 3 ≤ p → s.b3 ≡ share ks u p k 2 3
  pub third3 : 3 ≤ p → s.c3 ≡ share ks u p k 3 3

-- a row of the next level, from the row below it and itself
abbrev pub mix_of : Float → Float → Float → Float
mix_of a low high = (f1 ⊖ a) ⊗ low ⊕ a ⊗ high

-- the top over the rows of xs from i on
abbrev pub top1 : Shares → List Float → ℕ → Float
top1 s xs i = mix_of s.a1 (at xs i) (at xs (i + 1))

abbrev pub top2 : Shares → List Float → ℕ → Float
top2 s xs i = mix_of s.b2 (top1 s xs i) (mix_of s.a2 (at xs (i + 1)) (at xs (i + 2)))

abbrev pub top3 : Shares → List Float → ℕ → Float
top3 s xs i =
    mix_of s.c3 (top2 s xs i) (mix_of s.b3 (mix_of s.a2 (at xs (i + 1)) (at xs (i + 2))) (mix_of s.a3 (at xs (i + 2)) (at xs (i + 3))))

unfoldable pub top_of : Shares → ℕ → List Float → ℕ → Float
top_of s p xs i = cond (eqb p 1) (top1 s xs i) (cond (eqb p 2) (top2 s xs i) (top3 s xs i))

-- channel c's number by another; 0 where there is no channel
unfoldable pub placed : (ℕ → Float) → Float → ℕ → ℕ → Float
placed f by ch c = cond (ltb c ch) (f c ⊘ by) f0

-- s has the shares of degree 4 in span k: of the triangle of degree 3 at its foot, of that one row up, and of its top
pub record FourthIn (ks : List Float) (u : Float) (p k : ℕ) (s : Fourth) : Type 0 where
  pub low : SharesIn ks u p k s.low
  pub first2 : s.high.a1 ≡ share ks u p k 1 2
  pub first3 : s.high.a2 ≡ share ks u p k 1 3
  pub first4 : s.high.a3 ≡ share ks u p k 1 4
  pub second3 : s.high.b2 ≡ share ks u p k 2 3
  pub second4 : s.high.b3 ≡ share ks u p k 2 4
  pub third4 : s.high.c3 ≡ share ks u p k 3 4
  pub fourth4 : s.top ≡ share ks u p k 4 4

abbrev pub top4 : Fourth → List Float → ℕ → Float
top4 s xs i = mix_of s.top (top3 s.low xs i) (top3 s.high xs (i + 1))
