-- `bspline_tables::degree_of`: the answers to its goals. Assumes nothing.
use native.Mathlib.Omega.{arith}
use Rattle.bspline_tables.specs.Basis.{degree_of}
use Rattle.bspline_tables.proofs.degree_of.Goals as goal

pub returns : goal.returns
unfolding degree_of
returns c = omega arith
