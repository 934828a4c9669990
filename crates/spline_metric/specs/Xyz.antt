-- CONTRACTS. The places of the X, Y and Z channels, as the code gathers them. Assumes nothing.
use Rattle.std.specs.Prelude.{ℕ, Bool, List, leb, length, get_or}
use Rattle.floats.specs.Lists.{upto, keep}
use Rattle.spline_metric.specs.Metric.{last_xyz}

-- the channel at place i is X, Y or Z
unfoldable pub is_xyz : List ℕ → ℕ → Bool
is_xyz cs i = leb (get_or cs i 0) last_xyz

abbrev pub xyz_of : List ℕ → List ℕ
xyz_of cs = keep (is_xyz cs) (upto (λ (i : ℕ). i) (length cs))
