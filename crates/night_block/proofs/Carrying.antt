-- Laws of this crate's proof: a row that was read, with its carry, and one that was not. Assumes nothing.
use Prim.Native.Nat.{ℕ}
use mathlib.Core.Path.{◌≡◌, refl, sym, ap}
use mathlib.Core.Bool.{true, false, false≢true}
use mathlib.Core.List.{List}
use mathlib.Core.Option.{Option, none, some, get_or}
use Rattle.floats.specs.Lists.{is_some}
use Rattle.csv_read.specs.Reader.{read_row}
use Rattle.night_block.specs.Block.{carried, carried_if, read_block}

pub block_read : (text d row : List ℕ) → is_some (read_row text) ≡ true → row ≡ get_or (read_row text) d
    → (true ≡ is_some (read_block text)) × (carried row ≡ get_or (read_block text) d)
unfolding read_block
block_read text d row h e = go (read_row text) h e
  where
    go : (o : Option (List ℕ)) → is_some o ≡ true → row ≡ get_or o d → (true ≡ is_some (carried_if o)) × (carried row ≡ get_or (carried_if o) d)
    go none h e = absurd (false≢true h)
    go (some x) h e = (refl, ap carried e)

pub block_none : (text d row : List ℕ) → is_some (read_row text) ≡ false → row ≡ get_or (read_row text) d
    → (false ≡ is_some (read_block text)) × (row ≡ get_or (read_block text) d)
unfolding read_block
block_none text d row h e = go (read_row text) h e
  where
    go : (o : Option (List ℕ)) → is_some o ≡ false → row ≡ get_or o d → (false ≡ is_some (carried_if o)) × (row ≡ get_or (carried_if o) d)
    go none h e = (refl, e)
    go (some x) h e = absurd (false≢true (sym h))
