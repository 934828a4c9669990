-- CONTRACTS. How long the fixed parts of a picture's text are at most. Assumes nothing.
use Rattle.std.specs.Prelude.{ℕ}

abbrev pub start_room : ℕ
start_room = 1000

abbrev pub close_room : ℕ
close_room = 128
