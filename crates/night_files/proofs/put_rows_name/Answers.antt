-- `night_files::put_rows_name`: the answers to its goals. Assumes nothing.
use Rattle.std.proofs.Common.{◌≤◌, length, sym, arith, length-take-le}
use Rattle.csv_decimal.specs.Widths.{width-ten}
use Rattle.csv_figures.specs.OutLaws.{wrote-length}
use Rattle.csv_figures.specs.Writers.{whole_length}
use Rattle.night_files.proofs.put_rows_name.Goals as goal

pub put_bytes-requires : goal.put_bytes-requires
put_bytes-requires c = omega (
  arith,
  c.put_whole-c.ensures.next,
  wrote-length c.put_whole-c.ensures,
  whole_length c.args.number,
  width-ten c.args.number,
  c.put_bytes-b.ensures.next,
  wrote-length c.put_bytes-b.ensures,
  c.put_bytes-a.ensures.next,
  wrote-length c.put_bytes-a.ensures,
)

pub returns : goal.returns
returns c =
    let h : c.put_bytes.result ≤ length c.put_bytes.new.out = omega (
      arith,
      c.put_bytes.ensures.next,
      wrote-length c.put_bytes.ensures,
      c.put_whole-c.ensures.next,
      wrote-length c.put_whole-c.ensures,
      whole_length c.args.number,
      width-ten c.args.number,
      c.put_bytes-b.ensures.next,
      wrote-length c.put_bytes-b.ensures,
      c.put_bytes-a.ensures.next,
      wrote-length c.put_bytes-a.ensures,
    ) in (h, sym (length-take-le _ _ h))
