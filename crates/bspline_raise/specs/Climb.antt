-- CONTRACTS. De Boor's triangle in work memory: row h is that of the control point h before the last, number c channel c's. Assumes nothing.
use Rattle.std.specs.Prelude.{List, ◌≡◌, ℕ, ◌+◌, ◌*◌, ◌-◌, ◌/◌, ◌%◌, ◌≤◌, ◌<◌, length, Float}
use Rattle.floats.specs.Numbers.{at}
use Rattle.floats.specs.Lists.{upto}
use Rattle.layout.specs.Layout.{axis_codes}
use Rattle.bspline_tables.specs.Basis.{levels}
use Rattle.bspline_low.specs.Low.{mix_of}

-- rows are whole fours: so many numbers are raised at once
abbrev pub least_wide : ℕ
least_wide = 4

-- numbers of a row at most: every axis and the weights, in whole fours
abbrev pub most_wide : ℕ
most_wide = (axis_codes + least_wide) / least_wide * least_wide

pub record Width (wide : ℕ) : Type 0 where
  pub some : least_wide ≤ wide
  pub few : wide ≤ most_wide
  pub fours : wide % least_wide ≡ 0

-- of xs, which was l: the n numbers from i on are f 0, .., f (n - 1), and the others are as they were
pub record Put (f : ℕ → Float) (l xs : List Float) (i n : ℕ) : Type 0 where
  pub same : length xs ≡ length l
  pub done : (c : ℕ) → c < n → at xs (i + c) ≡ f c
  pub under : (j : ℕ) → j < i → at xs j ≡ at l j
  pub over : (j : ℕ) → i + n ≤ j → at xs j ≡ at l j

-- the n numbers from i on are those of the next level
pub record Raised (l xs : List Float) (i n wide : ℕ) (a : Float) : Type 0 where
  pub is : Put (λ c. mix_of a (at l (i + wide + c)) (at l (i + c))) l xs i n

-- the first h rows are those of the next level, by the shares a, and the others are as they were
pub record Level (l xs : List Float) (wide h : ℕ) (a : ℕ → Float) : Type 0 where
  pub same : length xs ≡ length l
  pub done : (g c : ℕ) → g < h → c < wide → at xs (g * wide + c) ≡ mix_of (a g) (at l (g * wide + wide + c)) (at l (g * wide + c))
  pub todo : (j : ℕ) → h * wide ≤ j → at xs j ≡ at l j

-- channel c of l, the first point first
abbrev pub column : List Float → ℕ → ℕ → ℕ → List Float
column l wide p c = upto (λ j. at l ((p - j) * wide + c)) (p + 1)

-- xs, which was l, holds the rows that count after r levels
pub record Climbed (ks : List Float) (u : Float) (p k wide : ℕ) (l xs : List Float) (r : ℕ) : Type 0 where
  pub same : length xs ≡ length l
  pub is : (c h : ℕ) → c < wide → h + r ≤ p → at xs (h * wide + c) ≡ at (levels ks u p k (column l wide p c) r) (p - h)

-- the first h rows of xs have the numbers from number k downwards of each channel, of n numbers each
pub record Loaded (cw xs : List Float) (n k ch wide h : ℕ) : Type 0 where
  pub is : (g c : ℕ) → g < h → c < ch + 1 → at xs (g * wide + c) ≡ at cw (c * n + (k - g))
