-- `picture_path::put_line`: the answers to its goals. Assumes nothing.
use Rattle.csv_figures.specs.OutLaws.{wrote_then}
use Rattle.picture_path.specs.PathText.{line_text}
use Rattle.picture_path.proofs.put_line.Goals as goal

pub returns : goal.returns
unfolding line_text
returns c =
    let b6 = c in
    wrote_then b6.put_bytes-a.ensures c.put_point.ensures
