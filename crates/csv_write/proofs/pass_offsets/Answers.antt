-- `csv_write::pass_offsets`: the answers to its goals. Assumes nothing.
use mathlib.Core.Path.{sym, ◌∙◌}
use Rattle.csv_write.specs.Writing.{skips_none, skips_offsets}
use Rattle.csv_write.proofs.pass_offsets.Goals as goal

pub returns-then-no_offsets : goal.returns-then-no_offsets
returns-then-no_offsets c =
    skips_offsets c.if-i-eq-I_COLUMN.true (sym c.if-no_offsets.true ∙ c.no_offsets.ensures) c.put_bytes-at.ensures

pub returns : goal.returns
returns c = skips_none _ _ _ _ c.requires.1.0
