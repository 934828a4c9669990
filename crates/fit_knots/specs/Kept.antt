-- CONTRACTS. The kept points as code finds them. Assumes nothing.
use Rattle.std.specs.Prelude.{◌≡◌, Bool, cond, List, ◌++◌, ℕ, ◌+◌, ◌-◌, ◌<◌, ◌≤◌, length, get_or, drop, set, Float}
use Rattle.std.specs.Float.Ieee.{lt}
use Rattle.floats.specs.Numbers.{◌⊖◌, 1e-12, at}
use Rattle.fit_knots.specs.Fit.{kept_to}

-- the chord sum has grown from point j to point i
abbrev pub grown : List Float → ℕ → ℕ → Bool
grown ts j i = lt 1e-12 (at ts i ⊖ at ts j)

-- the last of ks
abbrev pub last_of : List ℕ → ℕ
last_of ks = get_or ks (length ks - 1) 0

-- of the first i + 1 points m are kept, and they stand at the front of xs, which was l
pub record Kept (ts : List Float) (i : ℕ) (l xs : List ℕ) (m : ℕ) : Type 0 where
  pub same : length xs ≡ length l
  pub count : m ≡ length (kept_to ts i)
  pub is : xs ≡ kept_to ts i ++ drop m l

-- m were kept in l, and now point i is judged: xs holds r
pub record Judged (ts : List Float) (i m : ℕ) (l xs : List ℕ) (r : ℕ) : Type 0 where
  pub is : xs ≡ cond (grown ts (get_or l (m - 1) 0) i) (set l m i) l
  pub count : r ≡ cond (grown ts (get_or l (m - 1) 0) i) (m + 1) m

-- a kept point is one of the points
pub record KeptIn (i : ℕ) (ks : List ℕ) : Type 0 where
  pub some : 1 ≤ length ks
  pub few : length ks ≤ i + 1
  pub below : (k : ℕ) → k < length ks → get_or ks k 0 ≤ i
