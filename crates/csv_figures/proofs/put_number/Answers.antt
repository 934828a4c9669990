-- `csv_figures::put_number`: the answers to its goals. Assumes nothing.
use Rattle.csv_figures.specs.Writers.{refused, not-below, all-zeros, with-minus}
use Rattle.csv_figures.proofs.put_number.Goals as goal
use Rattle.csv_figures.proofs.put_number.Goals.{else-x-via-then-x+else-v-gt0, else-x-via-else-x}

pub returns-then-v-ge1000000000000000 : goal.returns-then-v-ge1000000000000000
returns-then-v-ge1000000000000000 c = refused _ _ _ _ c.in_millionths-v.ensures c.if-v-ge1000000000000000.true

pub returns-then-v-gt0 : goal.returns-then-v-gt0
returns-then-v-gt0 c =
    with-minus _ _ _ _ c.in_millionths-v.ensures c.if-v-ge1000000000000000.false c.if-v-gt0.true c.if-x.true c.put_byte-a.ensures c.put_millionths.ensures

pub returns : goal.returns
returns c =
    elim c.else-x.branch [
      | else-x-via-then-x+else-v-gt0 w ↦
          all-zeros _ _ _ _ c.in_millionths-v.ensures _ _ c.if-v-ge1000000000000000.false w.if-v-gt0.false w.if-x.true c.put_millionths-2.ensures
      | else-x-via-else-x w ↦ not-below _ _ _ _ c.in_millionths-v.ensures _ _ c.if-v-ge1000000000000000.false w.if-x.false c.put_millionths-2.ensures
    ]
