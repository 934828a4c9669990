-- DEFINITIONS. How many files a night may have. Assumes nothing.
use Rattle.std.specs.Prelude.{ℕ}

abbrev pub most_files : ℕ
most_files = 65536
