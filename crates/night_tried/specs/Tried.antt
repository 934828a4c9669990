-- DEFINITIONS. How often a job of a night was tried, and by which file: rule 11.19. Assumes nothing.
use Rattle.std.specs.Prelude.{ℕ, ◌+◌, ◌*◌, ◌/◌, ◌%◌, ◌^◌, Bool, ◌||◌, eqb}

-- what is kept of a job's tries, in one word: the checksum of their file, below 2 ^ 32, and how many there are, below 32
abbrev pub sums : ℕ
sums = 2 ^ 32

abbrev pub counts : ℕ
counts = 32

unfoldable pub tried_word : ℕ → ℕ → ℕ
tried_word sum tries = sum % sums * counts + tries % counts

unfoldable pub tries_of : ℕ → ℕ
tries_of w = w % counts

-- 11.19: a further try of a job is one of the file that its first try read
unfoldable pub same_file : ℕ → ℕ → Bool
same_file w sum = eqb (w % counts) 0 || eqb (w / counts) sum
