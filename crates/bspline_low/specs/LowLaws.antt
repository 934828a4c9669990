-- LAWS. The triangle written out: by the degree, and the channels at their places. Assumes nothing.
use Rattle.std.specs.Prelude.{◌≡◌, refl, List, ℕ, ◌<◌, ◌≤◌, replicate, Float}
use Rattle.std.proofs.Common.{sym, ap, ◌∙◌, arith}
use borrow.Author.Tests.{eq-eqb, ne_eqb, lt-ltb, le-ltb}
use Rattle.floats.specs.Numbers.{◌⊘◌, f0}
use Rattle.floats.specs.Lists.{upto, filled}
use Rattle.layout.specs.Layout.{axis_codes}
use Rattle.curve_metric.specs.Widest.{widest}
use Rattle.curve_metric.specs.Written.{padded}
use Rattle.bspline_low.specs.Low.{top1, top2, top3, top_of, placed}
use Rattle.bspline_low.specs.declared.low.Shares.{Shares}

-- ---- by the degree
module _ (s : Shares) (p : ℕ) (xs : List Float) (i : ℕ) where
  pub by_one : p ≡ 1 → top_of s p xs i ≡ top1 s xs i
  unfolding top_of
  by_one e = rw (eq-eqb p 1 e)

  pub by_two : p ≡ 2 → top_of s p xs i ≡ top2 s xs i
  unfolding top_of
  by_two e = rw (ne_eqb p 1 (λ z. omega arith), eq-eqb p 2 e)

  pub by_three : 3 ≤ p → top_of s p xs i ≡ top3 s xs i
  unfolding top_of
  by_three h = rw (ne_eqb p 1 (λ z. omega arith), ne_eqb p 2 (λ z. omega arith))

-- ---- the channels, written out
module _ (f : ℕ → Float) (by : Float) (ch c : ℕ) where
  pub placed_in : {x : Float} → c < ch → x ≡ f c → x ⊘ by ≡ placed f by ch c
  unfolding placed
  placed_in h e = rw (lt-ltb c ch h, e)

  pub placed-out : ch ≤ c → f0 ≡ placed f by ch c
  unfolding placed
  placed-out h = rw (le-ltb c ch h)

pub places_are : (f : ℕ → Float) (ch : ℕ) {by : Float} {r : List Float} → ch ≤ axis_codes → by ≡ f ch → r ≡ upto (placed f by ch) widest
    → r ≡ filled (λ c. f c ⊘ f ch) ch (replicate widest f0)
places_are f ch {by} few e er =
    er ∙ padded (λ c. f c ⊘ f ch) (placed f by ch) ch (omega arith)
    (λ c h. sym (placed_in f by ch c h refl) ∙ ap (λ (y : Float). f c ⊘ y) e)
    (λ c h. sym (placed-out f by ch c h))
