-- LAWS. What the leaves of the code say. Assumes nothing.
use Prim.Native.Nat.{ℕ}
use mathlib.Core.Path.{◌≡◌, sym}
use mathlib.Core.Bool.{Bool, true, false}
use mathlib.Core.List.{List, append-nil}
use lib.ListN.{get_or}
use borrow.Author.Tests.{eq-eqb, ne_eqb}
use Rattle.floats.specs.Lists.{upto, flatten}
use Rattle.row_cells.specs.Row.{out_row}
use Rattle.spline_places.specs.declared.frame.Frame.{Frame}
use Rattle.spline_places.specs.Sizes.{samples_of}
use Rattle.spline_sample.specs.Raw.{raw_row, bare_row}
use Rattle.spline_rows.specs.RawBlocks.{raw_group, raw_block}

pub samples-point : (point : Bool) (counts : List ℕ) (j : ℕ) → point ≡ true → get_or counts j 0 ≡ samples_of point counts j
unfolding samples_of
samples-point point counts j e = rw e

pub samples-none : (point : Bool) (counts : List ℕ) (j : ℕ) → point ≡ false → 0 ≡ samples_of point counts j
unfolding samples_of
samples-none point counts j e = rw e

-- ---- which rows a group and a block are
module _ (o : Frame) (places : List ℕ) (j c : ℕ) (r : List ℕ) (raw : ℕ → List ℕ) where
  pub group_bare : c ≡ 0 → bare_row o j r ≡ flatten (raw_group o places j c r raw)
  unfolding raw_group flatten
  group_bare e = rw (eq-eqb c 0 e) (sym (append-nil (bare_row o j r)))

  pub group_run : (c ≡ 0 → ⊥) → flatten (upto (raw_row o places j c r raw) c) ≡ flatten (raw_group o places j c r raw)
  unfolding raw_group
  group_run e = rw (ne_eqb c 0 e)

  pub block-point : (point : Bool) → point ≡ true → flatten (raw_group o places j c r raw) ≡ flatten (raw_block o places point j c r raw)
  unfolding raw_block
  block-point point e = rw e

  pub block_out : (point : Bool) → point ≡ false → out_row r ≡ flatten (raw_block o places point j c r raw)
  unfolding raw_block flatten
  block_out point e = rw e (sym (append-nil (out_row r)))
