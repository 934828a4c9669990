-- `root_bound::normal_at_most`: the answers to its goals. Assumes nothing.
use Rattle.root_bound.proofs.Bound.{by-power, by_digits}
use Rattle.root_bound.proofs.normal_at_most.Goals as goal

pub returns-then-k-j : goal.returns-then-k-j
returns-then-k-j c = by-power c.args.x c.args.y (record {
  x_lo = c.requires.bound.0;
  x_hi = c.requires.bound.1;
  y_lo = c.requires.bound_2.0;
  y_hi =
      c.requires.bound_2.1;
}) c.if-k-j.true

pub returns : goal.returns
returns c =
    rw (c.taken.ensures, c.greatest.ensures)
    (by_digits c.args.x c.args.y
    (record { x_lo = c.requires.bound.0; x_hi = c.requires.bound.1; y_lo = c.requires.bound_2.0; y_hi = c.requires.bound_2.1 }) c.if-k-j.false)
