-- `picture_move::put_move`: the answers to its goals. Assumes nothing.
use mathlib.Core.Path.{sym, ◌∙◌}
use native.Mathlib.Omega.{arith}
use Rattle.csv_figures.specs.OutLaws.{wrote_then}
use Rattle.picture_path.specs.PathText.{move_text}
use Rattle.picture_path.specs.PathLaws.{behind-end, behind_open}
use Rattle.picture_move.proofs.put_move.Goals as goal

pub returns-then-goes_on : goal.returns-then-goes_on
unfolding move_text
returns-then-goes_on c =
    let b4 = c in
    let b5 = b4 in
    rw (sym b5.goes_on.ensures ∙ b4.if-goes_on.true) c.put_line.ensures

pub put_open-b-requires : goal.put_open-b-requires
put_open-b-requires c = let h = behind-end _ c.put_path_end-a.ensures in omega arith

pub put_line-requires-2 : goal.put_line-requires-2
put_line-requires-2 c =
    let b3 = c in
    let b7 = b3 in
    let h = behind-end _ b7.put_path_end-a.ensures in let k = behind_open _ _ b3.put_open-b.ensures in omega arith

pub returns : goal.returns
unfolding move_text
returns c =
    let b6 = c in
    let b10 = b6 in
    let b12 = b10 in
    let b13 = b12 in
    rw (sym b13.goes_on.ensures ∙ b12.if-goes_on.false)
    (wrote_then b10.put_path_end-a.ensures (wrote_then b6.put_open-b.ensures c.put_line-2.ensures))
