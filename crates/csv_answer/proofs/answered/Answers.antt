-- `csv_answer::answered`: the answers to its goals. Assumes nothing.
use mathlib.Core.Path.{◌≡◌, refl}
use native.Mathlib.Omega.{arith}
use Rattle.csv_out.specs.SayLaws.{say_noted}
use Rattle.csv_answer.specs.AnswerLaws.{say_rows, answer-refused, answer_bad, answer-done}
use Rattle.csv_write.specs.Trying.{tried_bad, tried-good}
use Rattle.csv_answer.proofs.answered.Goals as goal

pub returns-then-code-ne0 : goal.returns-then-code-ne0
returns-then-code-ne0 c =
    let code = c.args.code in
    say_noted (answer-refused _ _ _ _ _ (λ (z : code ≡ 0). omega arith)) refl refl c.refuse.ensures

pub write_rows-requires : goal.write_rows-requires
write_rows-requires c =
    let fits = c.requires in
    (fits.lent (omega arith), fits.outs (omega arith))

pub returns-in_default : goal.returns-in_default
returns-in_default c =
    let wrote = c.write_rows.ensures in
    let zero : c.args.code ≡ 0 = omega arith in
    let bad = answer_bad _ _ _ _ _ zero (tried_bad wrote c.in_default.is) in
    say_noted bad (wrote.kept c.args.run.out (omega arith)) wrote.same c.refuse-in_default.ensures

pub returns : goal.returns
returns c =
    let wrote = c.write_rows.ensures in
    let placed = c.in-Some.is in
    let zero : c.args.code ≡ 0 = omega arith in
    let room = c.requires.outs (omega arith) in
    say_rows _ _ _ _ (answer-done _ _ _ _ _ zero (tried-good wrote placed).0) wrote placed room
    (record { err = refl; physical = refl; source = refl }) c.warned.ensures
