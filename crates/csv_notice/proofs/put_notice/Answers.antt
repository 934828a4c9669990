-- `csv_notice::put_notice`: the answers to its goals. Assumes nothing.
use native.Mathlib.Omega.{arith}
use Rattle.csv_figures.specs.OutLaws.{wrote-length}
use Rattle.csv_notice.proofs.Notices.{warned, refused, whole-short}
use Rattle.csv_notice.proofs.put_notice.Goals as goal

pub put_byte-b-requires : goal.put_byte-b-requires
put_byte-b-requires c = let h = whole-short _ c.put_whole-a.ensures in omega arith

pub put_whole-c-requires : goal.put_whole-c-requires
put_whole-c-requires c =
    let h = whole-short _ c.put_whole-a.ensures in omega (arith, c.put_byte-b.ensures.next, wrote-length c.put_byte-b.ensures)

pub put_bytes-d-requires : goal.put_bytes-d-requires
put_bytes-d-requires c =
    let h = whole-short _ c.put_whole-a.ensures in let k = whole-short _ c.put_whole-c.ensures in omega
    (arith, c.put_byte-b.ensures.next, wrote-length c.put_byte-b.ensures)

pub put_crlf-requires : goal.put_crlf-requires
put_crlf-requires c =
    let h = whole-short _ c.put_whole-a.ensures in let k = whole-short _ c.put_whole-c.ensures in omega
    (arith, c.put_byte-b.ensures.next, wrote-length c.put_byte-b.ensures, c.put_bytes-d.ensures.next, wrote-length c.put_bytes-d.ensures)

pub returns-then-refused : goal.returns-then-refused
returns-then-refused c =
    rw c.if-refused.true
    (refused _ _ c.put_whole-a.ensures c.put_byte-b.ensures c.put_whole-c.ensures c.put_bytes-d.ensures c.put_crlf.ensures)

pub put_crlf-requires-2 : goal.put_crlf-requires-2
put_crlf-requires-2 c =
    let h = whole-short _ c.put_whole-a.ensures in let k = whole-short _ c.put_whole-c.ensures in omega
    (arith, c.put_byte-b.ensures.next, wrote-length c.put_byte-b.ensures)

pub returns : goal.returns
returns c =
    rw c.if-refused.false (warned _ _ c.put_whole-a.ensures c.put_byte-b.ensures c.put_whole-c.ensures c.put_crlf-2.ensures)
