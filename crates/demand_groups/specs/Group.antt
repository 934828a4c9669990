-- DEFINITIONS. What the rows of a block's group are: rules 8.8 and 8.9. Assumes nothing.
use Rattle.std.specs.Prelude.{ℕ, ◌+◌, ◌-◌, ◌≤◌, ◌<◌, ◌≡◌, Bool, true, false, List, [], length, get_or}
use Rattle.std.proofs.Math.Option.{none, some}
use Rattle.std.specs.Float.Ieee.{eq}
use Rattle.floats.specs.Numbers.{num, f1}
use Rattle.floats.specs.Lists.{member}
use Rattle.layout.specs.Layout.{row_words, last_code}
use Rattle.row_cells.specs.Row.{line_of, motion_of, plane_of, mark_of, carry_of, cell}
use Rattle.spline_points.specs.Points.{weight_of}

-- row j of a group; of no words past its end
abbrev pub row_at : List (List ℕ) → ℕ → List ℕ
row_at g j = get_or g j []

abbrev pub last_row : List (List ℕ) → List ℕ
last_row g = row_at g (length g - 1)

-- a row of its full number of words, with a mark of 0 or 1
pub record Formed (row : List ℕ) : Type 0 where
  pub wide : length row ≡ row_words
  pub mark : mark_of row ≤ 1

-- 8.8: a later row has geometric cells alone
pub record Bare (gs row : List ℕ) : Type 0 where
  pub motion : motion_of row ≡ 0
  pub plane : plane_of row ≡ 0
  pub carry : carry_of row ≡ 0
  pub cells : (k : ℕ) → member k gs ≡ false → cell row k ≡ none

-- 8.8: what rides along stands on the first row: plane, carry, N F S D T and the axis cells outside the started list
pub record Carries (gs r row : List ℕ) : Type 0 where
  pub plane : plane_of row ≡ plane_of r
  pub carry : carry_of row ≡ carry_of r
  pub cells : (k : ℕ) → k ≤ last_code → member k gs ≡ false → cell row k ≡ cell r k

-- 8.9: each number that the row shows and the block programs is the programmed one, of all codes that a list may hold; -0 counts as 0
abbrev pub Shows : List ℕ → List ℕ → Type 0
Shows r row = (k v w : ℕ) → k ≤ last_code → cell r k ≡ some v → cell row k ≡ some w → eq (num w) (num v) ≡ true

-- 8.7 to 8.9: g is the group of block r; `last` says that r is a B-spline's last point, which is reached with weight 1
pub record Group (gs r : List ℕ) (last : Bool) (g : List (List ℕ)) : Type 0 where
  pub filled : 0 < length g
  pub formed : (j : ℕ) → j < length g → Formed (row_at g j)
  pub lines : (j : ℕ) → j < length g → line_of (row_at g j) ≡ line_of r
  pub carries : Carries gs r (row_at g 0)
  pub bare : (j : ℕ) → 0 < j → j < length g → Bare gs (row_at g j)
  pub marked : (j : ℕ) → j + 1 < length g → mark_of (row_at g j) ≡ 1
  pub ends : mark_of (last_row g) ≡ 0 → (last ≡ true → eq (weight_of r) f1 ≡ true) → Shows r (last_row g)
