-- What the text of a line says, by its cases. Assumes nothing.
use Prim.Native.Nat.{ℕ}
use mathlib.Core.Path.{◌≡◌, refl, sym, ap}
use mathlib.Core.Bool.{true, false, false≢true}
use mathlib.Core.List.{List}
use mathlib.Core.Option.{Option, none, some, get_or}
use borrow.Author.Tests.{eq-eqb, ne_eqb}
use Rattle.floats.specs.Lists.{is_some}
use Rattle.csv_header.specs.Header.{header}
use Rattle.csv_words.specs.Words.{same}
use Rattle.night_block.specs.Block.{read_block}
use Rattle.night_text.specs.Text.{nothing, heading, block, read_says, text_says}

module _ (physical : ℕ) (text : List ℕ) where
  pub text_head : physical ≡ 1 → same header text ≡ true → heading ≡ text_says physical text
  unfolding text_says
  text_head h e = rw (eq-eqb physical 1 h, e)

  pub text_unhead : physical ≡ 1 → same header text ≡ false → nothing ≡ text_says physical text
  unfolding text_says
  text_unhead h e = rw (eq-eqb physical 1 h, e)

  pub text-block : (row d : List ℕ) → (physical ≡ 1 → ⊥) → is_some (read_block text) ≡ true → row ≡ get_or (read_block text) d
      → block row ≡ text_says physical text
  unfolding text_says
  text-block row d h j k = rw (ne_eqb physical 1 h) (go (read_block text) j k)
    where
      go : (o : Option (List ℕ)) → is_some o ≡ true → row ≡ get_or o d → block row ≡ read_says o
      go none j k = absurd (false≢true j)
      go (some x) j k = ap block k

  pub text_bad : (physical ≡ 1 → ⊥) → is_some (read_block text) ≡ false → nothing ≡ text_says physical text
  unfolding text_says
  text_bad h j = rw (ne_eqb physical 1 h) (go (read_block text) j)
    where
      go : (o : Option (List ℕ)) → is_some o ≡ false → nothing ≡ read_says o
      go none j = refl
      go (some x) j = absurd (false≢true (sym j))
