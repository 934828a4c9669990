-- `night_text::text_is`: the answers to its goals. Assumes nothing.
use mathlib.Core.Path.{sym, ◌∙◌}
use Rattle.night_text.proofs.Texts.{text_head, text_unhead, text-block, text_bad}
use Rattle.night_text.proofs.text_is.Goals as goal

pub returns-then-is_header : goal.returns-then-is_header
returns-then-is_header c =
    let at-is-header = c in
    let at-if1 = at-is-header in
    text_head _ _ at-if1.if-physical-eq1.true (sym at-is-header.is_header.ensures ∙ c.if-is_header.true)

pub returns-then-physical-eq1 : goal.returns-then-physical-eq1
returns-then-physical-eq1 c =
    let at-is-header = c in
    let at-if1 = at-is-header in
    text_unhead _ _ at-if1.if-physical-eq1.true (sym at-is-header.is_header.ensures ∙ c.if-is_header.false)

pub returns-then-read_block : goal.returns-then-read_block
returns-then-read_block c =
    let at-read-block = c in
    let at-if1 = at-read-block in
    let read = at-read-block.read_block.ensures in
    text-block _ _ _ _ at-if1.if-physical-eq1.false (sym read.0 ∙ c.if-read_block.true) read.1

pub returns : goal.returns
returns c =
    let at-read-block = c in
    let at-if1 = at-read-block in
    text_bad _ _ at-if1.if-physical-eq1.false (sym at-read-block.read_block.ensures.0 ∙ c.if-read_block.false)
