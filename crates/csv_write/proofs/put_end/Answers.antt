-- `csv_write::put_end`: the answers to its goals. Assumes nothing.
use Rattle.csv_write.specs.Writing.{unmarked, marked}
use Rattle.csv_write.proofs.put_end.Goals as goal

pub returns-then-row-eq0 : goal.returns-then-row-eq0
returns-then-row-eq0 c =
    unmarked _ c.if-row-eq0.true c.put_byte-a.ensures c.put_crlf.ensures

pub returns : goal.returns
returns c =
    marked _ c.if-row-eq0.false c.put_byte-a.ensures c.put_byte-b.ensures c.put_crlf-2.ensures
