-- DEFINITIONS. The array that a point stands in. Assumes nothing.
use Rattle.std.specs.Prelude.{ℕ, ◌+◌, ◌*◌, ◌/◌}
use Rattle.layout.specs.Layout.{axis_codes}

-- its numbers: whole sixteens
abbrev pub widest : ℕ
widest = (axis_codes + 15) / 16 * 16
