-- LAWS. Row i of words that are joined of whole rows, and the motion in force behind them. Assumes nothing.
use Prim.Native.Nat.{ℕ, zero, suc, ◌+◌, ◌-◌, ◌*◌, ◌<◌, ◌≤◌}
use Rattle.std.specs.Prelude.{◌≡◌, List, [], ◌++◌, length, take, drop, ltb}
use Rattle.std.proofs.Math.Path.{refl, ap, ap₂}
use Rattle.std.proofs.Common.{sym, ◌∙◌, subst, add-suc, length-drop, take_at, ltb-true, ltb-false}
use native.Mathlib.Omega.{arith}
use Rattle.std.proofs.Math.Seq.{take-nil, drop-nil, drop-append-add}
use Rattle.std.proofs.lemmas.List.{take-append-le, drop-append-le}
use Rattle.floats.specs.Truth.{by_bit}
use Rattle.floats.specs.Lists.{flatten}
use Rattle.layout.specs.Layout.{row_words}
use Rattle.demand_calls.specs.Every.{Every, nil, more}
use Rattle.demand_calls.specs.PlaceLaws.{Long}
use Rattle.still_curved.specs.Curved.{row_at, motion_after, motion_behind}
use Rattle.still_laws.specs.Straight.{behind-next}

-- ---- n whole rows a, and more words b behind them
module _ (a b : List ℕ) (n : ℕ) (whole : length a ≡ n * row_words) where
  pub row-early : (i : ℕ) → i < n → row_at (a ++ b) i ≡ row_at a i
  row-early i h =
      let d : length (drop (i * row_words) a) ≡ length a - i * row_words = length-drop (i * row_words) a in
      ap (take row_words) (drop-append-le (i * row_words) a b (omega arith)) ∙ take-append-le row_words (drop (i * row_words) a) b (omega (arith, d, whole))

  pub row-later : (i : ℕ) → row_at (a ++ b) (n + i) ≡ row_at b i
  row-later i =
      let e : (n + i) * row_words ≡ length a + i * row_words = omega arith in
      ap (λ (k : ℕ). take row_words (drop k (a ++ b))) e ∙ ap (take row_words) (drop-append-add a b (i * row_words))

  pub motion-early : (m i : ℕ) → i ≤ n → motion_behind m (a ++ b) i ≡ motion_behind m a i
  unfolding motion_behind
  motion-early m zero h = refl
  motion-early m (suc i) h = ap₂ motion_after (motion-early m i (omega arith)) (row-early i h)

  pub motion-later : (m i : ℕ) → motion_behind m (a ++ b) (n + i) ≡ motion_behind (motion_behind m a n) b i
  unfolding motion_behind
  motion-later m zero = let e : n + 0 ≡ n = omega arith in ap (motion_behind m (a ++ b)) e ∙ motion-early m n (omega arith)
  motion-later m (suc i) =
      ap (motion_behind m (a ++ b)) (add-suc n i) ∙ behind-next m (a ++ b) (n + i) ∙ ap₂ motion_after (motion-later m i) (row-later i)

  -- what holds of each row of both
  pub each-joined : (P : List ℕ → Type 0) → ((i : ℕ) → P (row_at a i)) → ((i : ℕ) → P (row_at b i)) → (i : ℕ) → P (row_at (a ++ b) i)
  each-joined P p q i =
      by_bit (ltb i n)
      (λ t. subst P (sym (row-early i (ltb-true i n t))) (p i))
      (λ f. let e : n + (i - n) ≡ i = (let h : n ≤ i = ltb-false i n f in omega arith) in
      subst (λ (k : ℕ). P (row_at (a ++ b) k)) e (subst P (sym (row-later (i - n))) (q (i - n))))

-- ---- rows one by one
pub row_first : (x ws : List ℕ) → length x ≡ row_words → row_at (x ++ ws) 0 ≡ x
row_first x ws e = take_at x ws row_words e

pub row_next : (x ws : List ℕ) → length x ≡ row_words → (i : ℕ) → row_at (x ++ ws) (suc i) ≡ row_at ws i
row_next x ws e i = let s : suc i ≡ 1 + i = omega arith in ap (row_at (x ++ ws)) s ∙ row-later x ws 1 (omega (arith, e)) i

-- no words past the end
row-none : (i : ℕ) → row_at [] i ≡ []
row-none i = ap (take row_words) (drop-nil (i * row_words)) ∙ take-nil row_words

-- what holds of each row, and of no words, holds of row i
pub every_row : (P : List ℕ → Type 0) → P [] → {rows : List (List ℕ)} → Every Long rows → Every P rows → (i : ℕ) → P (row_at (flatten rows) i)
unfolding flatten
every_row P z nil nil i = subst P (sym (row-none i)) z
every_row P z (more {x} {xs} l ls) (more p ps) zero = subst P (sym (row_first x (flatten xs) l.words)) p
every_row P z (more {x} {xs} l ls) (more p ps) (suc i) = subst P (sym (row_next x (flatten xs) l.words i)) (every_row P z ls ps i)
