-- CONTRACTS. What the text of a line says, as its cases in the definition of a try. Assumes nothing.
use Rattle.std.specs.Prelude.{ℕ, cond, List, eqb}
use Rattle.std.proofs.Math.Option.{Option, none, some}
use Rattle.csv_header.specs.Header.{header}
use Rattle.csv_words.specs.Words.{same}
use Rattle.night_block.specs.Block.{read_block}
use Rattle.night_text.specs.declared.LineIs.{LineIs}
use Rattle.night_text.specs.declared.LineIs.TheVariants as LineIs

pub data Says : Type 0 where
  nothing : Says
  heading : Says
  block : List ℕ → Says

-- what was found, with the row that was lent
abbrev pub says : LineIs → List ℕ → Says
says LineIs.Unread row = nothing
says LineIs.Header row = heading
says LineIs.Block row = block row

abbrev pub read_says : Option (List ℕ) → Says
read_says none = nothing
read_says (some row) = block row

-- the first line is the header, any other a block
unfoldable pub text_says : ℕ → List ℕ → Says
text_says physical text = cond (eqb physical 1) (cond (same header text) heading nothing) (read_says (read_block text))
