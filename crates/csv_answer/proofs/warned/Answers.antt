-- `csv_answer::warned`: the answers to its goals. Assumes nothing.
use mathlib.Core.Path.{◌≡◌, refl}
use native.Mathlib.Omega.{arith}
use Rattle.csv_out.specs.SayLaws.{note, no_note, notice_short}
use Rattle.csv_answer.specs.AnswerLaws.{warning-none, warning-some}
use Rattle.csv_answer.proofs.warned.Goals as goal

pub returns-then-warning-eq0 : goal.returns-then-warning-eq0
returns-then-warning-eq0 c = no_note (warning-none _ _ (omega arith))

pub returns : goal.returns
returns c =
    let start = c in
    let some = warning-some _ _ (λ (z : start.args.warning ≡ 0). omega arith) in
    note some refl refl refl refl (notice_short _ _ _) start.requires c.put_notice-n.ensures
