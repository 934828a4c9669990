-- LAWS. What the leaves of the code say of the metric's places. Assumes nothing.
use Prim.Native.Nat.{ℕ, ◌≤◌, ◌<◌}
use mathlib.Core.Path.{◌≡◌}
use mathlib.Core.Bool.{true, false}
use mathlib.Core.List.{List}
use borrow.Author.Tests.{le-leb, lt-leb, eq-eqb, ne_eqb}
use lib.ListN.{length, get_or}
use Rattle.floats.specs.Lists.{upto}
use Rattle.spline_metric.specs.Metric.{metric_of, last_xyz}
use Rattle.spline_metric.specs.Xyz.{is_xyz, xyz_of}

pub xyz-yes : (cs : List ℕ) (i : ℕ) → get_or cs i 0 ≤ last_xyz → is_xyz cs i ≡ true
unfolding is_xyz
xyz-yes cs i h = le-leb (get_or cs i 0) last_xyz h

pub xyz-no : (cs : List ℕ) (i : ℕ) → last_xyz < get_or cs i 0 → is_xyz cs i ≡ false
unfolding is_xyz
xyz-no cs i h = lt-leb (get_or cs i 0) last_xyz h

pub metric-xyz : (cs : List ℕ) → (length (xyz_of cs) ≡ 0 → ⊥) → xyz_of cs ≡ metric_of cs
unfolding metric_of is_xyz
metric-xyz cs h = rw (ne_eqb (length (xyz_of cs)) 0 h)

pub metric-all : (cs : List ℕ) → length (xyz_of cs) ≡ 0 → upto (λ (i : ℕ). i) (length cs) ≡ metric_of cs
unfolding metric_of is_xyz
metric-all cs h = rw (eq-eqb (length (xyz_of cs)) 0 h)
