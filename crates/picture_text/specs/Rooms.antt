-- CONTRACTS. How long the parts of a picture's text are at most. Assumes nothing.
use Rattle.std.specs.Prelude.{ℕ, ◌+◌}

-- the two ends of a span, the box, and its fit in two parts
abbrev pub range_room : ℕ
range_room = 64

abbrev pub frame_room : ℕ
frame_room = 300

abbrev pub scales_room : ℕ
scales_room = 80

abbrev pub corner_room : ℕ
corner_room = 100

abbrev pub fit_room : ℕ
fit_room = 300

-- the parts of the end, and the end whole
abbrev pub legend_room : ℕ
legend_room = 400

abbrev pub known_room : ℕ
known_room = frame_room + fit_room

abbrev pub end_room : ℕ
end_room = 2048
