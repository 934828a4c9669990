-- CONTRACTS. Bytes moved to the front, and bytes read behind them. Assumes nothing.
use Rattle.std.specs.Prelude.{ℕ, ◌-◌, ◌≤◌, ◌≡◌, List, Result, Ok, Err, length, take}
use Rattle.text_cut.specs.Cut.{between}

-- the bytes of b from `at` up to `end` are the first r of b'
pub record AtFront (b : List ℕ) (at end : ℕ) (b' : List ℕ) (r : ℕ) : Type 0 where
  pub count : r ≡ end - at
  pub moved : take r b' ≡ between b at end
  pub same : length b' ≡ length b

-- how many bytes the buffer has then: as many as before where the input cannot be read
abbrev pub came : {E : Type 0} → ℕ → Result ℕ E → ℕ
came n (Ok m) = m
came n (Err e) = n

-- n bytes stood in b, and then m in b': those n stay
pub record More (b : List ℕ) (n : ℕ) (b' : List ℕ) (m : ℕ) : Type 0 where
  pub least : n ≤ m
  pub most : m ≤ length b
  pub kept : take n b' ≡ take n b
  pub same : length b' ≡ length b
