-- DEFINITIONS. The most room that an argument is read into. Assumes nothing.
use Rattle.std.specs.Prelude.{ℕ}

abbrev pub most_room : ℕ
most_room = 65536
