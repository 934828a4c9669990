-- DEFINITIONS. The calls of a try that are told to its job's tally, and when a mark is what the tally's try word says. Assumes nothing.
use Rattle.std.specs.Prelude.{ℕ, ◌<◌, ◌≡◌, Bool, true, ◌&&◌, not, List, [], ◌∷◌, get_or}
use Rattle.row_cells.specs.Bits.{has}
use Rattle.tally_words.specs.Words.{b_closed, b_first, b_final}
use Rattle.tally_call.specs.declared.Call.{Call}
use Rattle.tally_call.specs.Calls.{closes, try_after}

-- calls none of which closes the try
unfoldable pub stay_open : List Call → Bool
stay_open [] = true
stay_open (c ∷ cs) = not (closes c) && stay_open cs

-- the try word of a job behind such calls
unfoldable pub word_behind : ℕ → List Call → ℕ
word_behind w [] = w
word_behind w (c ∷ cs) = word_behind (try_after w c) cs

-- a mark has the three bits of a try word (9.22)
pub record Agrees (m w : ℕ) : Type 0 where
  pub closed : has m b_closed ≡ has w b_closed
  pub first : has m b_first ≡ has w b_first
  pub last : has m b_final ≡ has w b_final

-- and so has each of the first n
abbrev pub AgreeUpto : ℕ → List ℕ → List ℕ → Type 0
AgreeUpto n marks words = (i : ℕ) → i < n → Agrees (get_or marks i 0) (get_or words i 0)
