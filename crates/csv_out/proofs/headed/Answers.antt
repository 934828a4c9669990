-- `csv_out::headed`: the answers to its goals. Assumes nothing.
use mathlib.Core.Path.{refl, sym, ◌∙◌}
use Rattle.csv_out.specs.SayLaws.{say_noted, say_header, heading-good, heading_bad}
use Rattle.csv_out.proofs.headed.Goals as goal

pub returns-then-is_header : goal.returns-then-is_header
returns-then-is_header c =
    let test = c in
    let good = heading-good _ _ (sym test.is_header.ensures ∙ test.if-is_header.true) in
    say_header good refl refl refl refl test.requires.0 c.put_header-n.ensures

pub returns : goal.returns
returns c =
    let test = c in
    let bad = heading_bad _ _ (sym test.is_header.ensures ∙ test.if-is_header.false) in
    say_noted bad refl refl c.refuse.ensures
