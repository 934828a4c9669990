-- DEFINITIONS. The columns of a night's table of tries: rule 11.14. Assumes nothing.
use Rattle.std.specs.Prelude.{ℕ, Bool, ◌||◌, eqb}

-- those that stand apart, and the first of each that stand together
abbrev pub columns : ℕ
columns = 28

abbrev pub c_job : ℕ
c_job = 0

abbrev pub c_file : ℕ
c_file = 1

abbrev pub c_checksum : ℕ
c_checksum = 2

abbrev pub c_tolerance : ℕ
c_tolerance = 4

abbrev pub c_closed : ℕ
c_closed = 5

abbrev pub c_refusal : ℕ
c_refusal = 9

abbrev pub c_line : ℕ
c_line = 10

abbrev pub c_warnings : ℕ
c_warnings = 11

-- the file and the tolerance are no numbers; the refusal and its line may be empty
unfoldable pub is_text : ℕ → Bool
is_text k = eqb k c_file || eqb k c_tolerance

unfoldable pub may_lack : ℕ → Bool
may_lack k = eqb k c_refusal || eqb k c_line
