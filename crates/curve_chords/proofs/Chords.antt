-- LAWS. One more channel of a chord, and one more chord. Assumes nothing.
use mathlib.Core.Path.{◌≡◌, sym, ap, ◌∙◌}
use mathlib.Core.List.{List}
use Prim.Native.Nat.{ℕ, zero, suc, ◌+◌, ◌*◌, ◌-◌, ◌≤◌, ◌<◌}
use native.Mathlib.Numerals.{add-one}
use native.Mathlib.Omega.{arith}
use lib.ListN.{length, get_or}
use lib.Ieee.{Float}
use Rattle.root.specs.Root.{root}
use Rattle.floats.specs.Numbers.{◌⊕◌, ◌⊖◌, ◌⊗◌, at}
use Rattle.floats.specs.Lists.{rows_of}
use Rattle.floats.specs.Parts.{part, length_part, part-row, next_row}
use Rattle.curve_metric.specs.Below.{Below}
use Rattle.curve_metric.specs.Metric.{len_to, chord_to, point_of}
use Rattle.curve_metric.specs.Points.{point-rows}

module _ (a b : List Float) (ms : List ℕ) (k : ℕ) where
  pub len_more : {s : Float} → s ≡ len_to a b ms k
      → s ⊕ (at b (get_or ms k 0) ⊖ at a (get_or ms k 0)) ⊗ (at b (get_or ms k 0) ⊖ at a (get_or ms k 0)) ≡ len_to a b ms (k + 1)
  unfolding len_to
  len_more e = rw (add-one, e)

pub parts-fit : (xs : List Float) (ms : List ℕ) (a n : ℕ) → Below ms n → a + n + n ≤ length xs
    → Below ms (length (part xs a n)) × (length (part xs a n) ≤ length (part xs (a + n) n))
parts-fit xs ms a n b h =
    let e : length (part xs a n) ≡ n = length_part xs a n (omega arith) in
    let e2 : length (part xs (a + n) n) ≡ n = length_part xs (a + n) n h in
    (rw e b, omega (arith, e, e2))

pub next_start : (k n a : ℕ) → 1 ≤ k → a ≡ (k - 1) * n → a + n ≡ (k + 1 - 1) * n
next_start k n a h e =
    let ek : k + 1 - 1 ≡ k - 1 + 1 = omega arith in
    rw ek (next_row (k - 1) n a e)

pub chord-more : (xs : List Float) (n m : ℕ) (ms : List ℕ) (k a : ℕ) {t g r : Float} → 1 ≤ k → k < m → a ≡ (k - 1) * n
    → t ≡ chord_to (rows_of xs n m) ms (k - 1) → g ≡ len_to (part xs a n) (part xs (a + n) n) ms (length ms) → r ≡ root g
    → t ⊕ r ≡ chord_to (rows_of xs n m) ms k
unfolding chord_to
chord-more xs n m ms zero a h lt e et eg er = absurd (omega arith)
chord-more xs n m ms (suc j) a h lt e et eg er =
    let ej : suc j - 1 ≡ j = omega arith in
    let ea : a ≡ j * n = e ∙ ap (λ (z : ℕ). z * n) ej in
    let first : point_of (rows_of xs n m) j ≡ part xs a n = point-rows xs n m j (omega arith) ∙ sym (part-row xs j n a ea) in
    let second : point_of (rows_of xs n m) (j + 1) ≡ part xs (a + n) n =
    point-rows xs n m (j + 1) (omega arith) ∙ sym (part-row xs (j + 1) n (a + n) (next_row j n a ea)) in
    rw (er, eg, et, ej, ← first, ← second)
