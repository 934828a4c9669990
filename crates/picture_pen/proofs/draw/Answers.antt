-- `picture_pen::draw`: the answers to its goals. Assumes nothing.
use Rattle.picture_pen.proofs.Pens.{drew_move, drew_nothing}
use Rattle.picture_pen.proofs.draw.Goals as goal

pub returns-then-moves : goal.returns-then-moves
returns-then-moves c =
    let b3 = c in
    let b4 = b3 in
    let b8 = b4 in
    let b9 = b8 in
    let b10 = b9 in
    drew_move _ _ _ b10.pen_after-then.ensures b9.moves.ensures b8.if-moves.true b4.point_of.ensures b3.point_of-then-moves.ensures
    c.put_move-at.ensures

pub returns : goal.returns
returns c = drew_nothing _ _ _ c.pen_after-then.ensures c.moves.ensures c.if-moves.false
