-- `arc_made::put_mid_row`: the answers to its goals. Assumes nothing.
use Rattle.arc_made.specs.Drawn.{mid_row}
use Rattle.arc_made.proofs.put_mid_row.Goals as goal

pub returns : goal.returns
unfolding mid_row
returns c =
    let put-sample = c.put_sample in
    let nearest-u64-to-f64 = c.nearest_u64_to_f64 in
    rw (← nearest-u64-to-f64.ensures, ← put-sample.ensures) c.put_made.ensures
