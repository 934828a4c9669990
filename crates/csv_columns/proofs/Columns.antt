-- The codes of the columns, as `code_at` shifts them out of one number. Assumes nothing.
use Prim.Native.Nat.{ℕ, ◌+◌, ◌*◌, ◌/◌, ◌%◌, ◌^◌, ◌<◌}
use mathlib.Core.Path.{◌≡◌, refl}
use mathlib.Core.Bool.{true}
use lib.Dec.{eqb}
use borrow.Author.Tests.{eqb-true}
use Rattle.floats.specs.Lists.{all}
use Rattle.floats.specs.Truth.{all-at}
use Rattle.layout.specs.Layout.{axis_codes, c_offset, c_cr, c_turn, c_pw, c_sd}
use Rattle.csv_line.specs.LineText.{column_count, code_at}

-- as the code packs them
abbrev last_codes : ℕ
last_codes = ((((axis_codes + 1) * 32 + c_sd) * 32 + c_pw) * 32 + c_turn) * 32 + c_cr

abbrev later_codes : ℕ
later_codes = ((last_codes * 32 + c_offset + 2) * 32 + c_offset + 1) * 32 + c_offset

abbrev codes : ℕ
codes = ((later_codes * 32 + 2) * 32 + 1) * 32

all_codes : all column_count (λ (k : ℕ). eqb (codes / 2 ^ (5 * k) % 32) (code_at k)) ≡ true
unfolding all
all_codes = refl

pub code-shifted : (i : ℕ) → i < column_count → codes / 2 ^ (5 * i) % 32 ≡ code_at i
code-shifted i h =
    eqb-true (codes / 2 ^ (5 * i) % 32) (code_at i) (all-at column_count (λ (k : ℕ). eqb (codes / 2 ^ (5 * k) % 32) (code_at k)) i all_codes h)
