-- CONTRACTS. One row of an arc as the code makes it, and what making it asks. Assumes nothing.
use Rattle.std.specs.Prelude.{◌≡◌, ℕ, ◌+◌, ◌^◌, ◌<◌, Bool, true, false, List, length, ◌==◌, Float}
use Rattle.floats.specs.Numbers.{◌⊘◌, of_nat}
use Rattle.floats.specs.Lists.{upto}
use Rattle.layout.specs.Layout.{axis_codes, row_words}
use Rattle.motion.specs.Motion.{g_one}
use Rattle.row_cells.specs.Row.{shown, axes_of}
use Rattle.row_made.specs.Made.{made_row}
use Rattle.arc_numbers.specs.Arc.{Ends}
use Rattle.arc_numbers.specs.Types.{arc_is}
use Rattle.arc_words.specs.Words.{sample_word, last_word}
use Rattle.arc_made.specs.declared.Drawing.{Drawing}

-- row k of n, where n is a float, and the last row
unfoldable pub mid_row : List ℕ → List ℕ → ℕ → (Float → ℕ → ℕ) → Float → ℕ → List ℕ
mid_row gs r mask word n k = made_row gs r (k == 1) g_one true (shown mask (upto (word (of_nat k ⊘ n)) axis_codes))

abbrev pub mid_rows : List ℕ → List ℕ → ℕ → (Float → ℕ → ℕ) → ℕ → ℕ → List ℕ
mid_rows gs r mask word n j = mid_row gs r mask word (of_nat n) (j + 1)

unfoldable pub last_row : List ℕ → List ℕ → ℕ → (ℕ → ℕ) → Bool → List ℕ
last_row gs r mask word first = made_row gs r first g_one false (shown mask (upto word axis_codes))

-- the same by a drawing
abbrev pub mid : Drawing → List ℕ → List Float → List Float → Float → ℕ → List ℕ
mid d r starts spans n k = mid_row (axes_of d.gs) r d.mask (sample_word (arc_is d.c) d.u d.v starts spans) n k

abbrev pub mids : Drawing → List ℕ → List Float → List Float → ℕ → ℕ → List ℕ
mids d r starts spans n j = mid d r starts spans (of_nat n) (j + 1)

abbrev pub last : Drawing → List ℕ → Ends → Bool → List ℕ
last d r e first = last_row (axes_of d.gs) r d.mask (last_word e d.u d.v r) first

-- ---- what the code asks
pub record DrawingOf (r : List ℕ) (d : Drawing) : Type 0 where
  pub long : length r ≡ row_words
  pub axes : d.gs < 2 ^ axis_codes
  pub shows : d.mask < 2 ^ axis_codes
  pub on_u : d.u < axis_codes
  pub on_v : d.v < axis_codes

-- the ramps of all axes
pub record Ramps (starts spans : List Float) : Type 0 where
  pub from : length starts ≡ axis_codes
  pub by : length spans ≡ axis_codes
