-- DEFINITIONS. What is said of the rows of an output, which stand one after another: rules 10.2 and 10.4 to 10.6. Assumes nothing.
use Rattle.std.specs.Prelude.{ℕ, ◌+◌, ◌<◌, ◌≤◌, ◌≡◌, Bool, true, false, ◌&&◌, ◌||◌, List, ◌⊎◌, leb, ltb}
use Rattle.layout.specs.Layout.{axis_codes, c_offset, c_cr}
use Rattle.motion.specs.Motion.{g_one, last_motion, kind_of, is_spline}
use Rattle.motion.specs.declared.Kind.TheVariants.{Linear}
use Rattle.row_cells.specs.Bits.{has}
use Rattle.row_cells.specs.Row.{motion_of, mark_of, present_of, has_point}
use Rattle.still_curved.specs.Curved.{row_at, motion_after, motion_behind, shows, still_curved}

-- ---- 10.2: what the mask of a path says, code by code: the axes, and I J K CR
abbrev pub on_path : ℕ → Bool
on_path k = ltb k axis_codes || (leb c_offset k && leb k c_cr)

pub record Shown (row : List ℕ) : Type 0 where
  pub code : ℕ
  pub path : on_path code ≡ true
  pub present : has (present_of row) code ≡ true

abbrev pub ShowsSome : Type 0
ShowsSome = (row : List ℕ) → (shows row ≡ true → Shown row) × (Shown row → shows row ≡ true)

-- ---- 10.4: a motion is in force from the first row on
-- never none, and one of 1 to 31 where the rows' words are no more
abbrev pub NeverNone : Type 0
NeverNone = (rows : List ℕ) (n : ℕ) → motion_behind g_one rows n ≡ 0 → ⊥

abbrev pub AlwaysOne : Type 0
AlwaysOne =
    (rows : List ℕ) (n : ℕ) → ((k : ℕ) → k < n → motion_of (row_at rows k) ≤ last_motion)
    → (1 ≤ motion_behind g_one rows n) × (motion_behind g_one rows n ≤ last_motion)

-- ---- 10.5: a row that shows something stays curved or goes straight, and not both
abbrev pub CurvedOrStraight : Type 0
CurvedOrStraight =
    (m : ℕ) (row : List ℕ) → (m ≡ 0 → ⊥) → shows row ≡ true → (still_curved m row ≡ true) ⊎ (kind_of (motion_after m row) ≡ Linear)

abbrev pub NotBoth : Type 0
NotBoth = (m : ℕ) (row : List ℕ) → still_curved m row ≡ true → kind_of (motion_after m row) ≡ Linear → ⊥

-- .. row i of an output, whose rows begin under G1
abbrev pub EachRow : Type 0
EachRow =
    (rows : List ℕ) (i : ℕ) → shows (row_at rows i) ≡ true
    → (still_curved (motion_behind g_one rows i) (row_at rows i) ≡ true) ⊎ (kind_of (motion_behind g_one rows (i + 1)) ≡ Linear)

-- ---- 10.6: a marked row stays curved only behind a lone word
-- row i is marked and stays curved, where m was in force before the first row
pub record MarkedCurve (m : ℕ) (rows : List ℕ) (i : ℕ) : Type 0 where
  pub marked : mark_of (row_at rows i) ≡ 1
  pub curved : still_curved (motion_behind m rows i) (row_at rows i) ≡ true

-- an unmarked row that says a spline's word and shows no axis of the list gs
pub record LoneWord (gs row : List ℕ) : Type 0 where
  pub unmarked : mark_of row ≡ 0
  pub spline : is_spline (motion_of row) ≡ true
  pub pointless : has_point gs row ≡ false

-- one stands before row i, and no row behind it has a word, up to row i itself
pub record BehindLone (gs rows : List ℕ) (i : ℕ) : Type 0 where
  pub place : ℕ
  pub earlier : place < i
  pub lone : LoneWord gs (row_at rows place)
  pub wordless : (k : ℕ) → place < k → k ≤ i → motion_of (row_at rows k) ≡ 0

-- whatever was in force before these rows
abbrev pub OnlyBehindLone : List ℕ → List ℕ → Type 0
OnlyBehindLone gs rows = (m i : ℕ) → MarkedCurve m rows i → BehindLone gs rows i
