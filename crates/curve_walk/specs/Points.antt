-- LAWS. A point is the first ch of an array's numbers. Assumes nothing.
use Rattle.std.specs.Prelude.{◌≡◌, List, ℕ, ◌≤◌, length, take, drop, replicate, Float}
use Rattle.std.proofs.Common.{ap, ◌∙◌, arith, take_at}
use Rattle.floats.specs.Numbers.{f0}
use Rattle.floats.specs.Lists.{upto, filled}
use Rattle.floats.specs.Fill.{length-upto, length-filled}
use Rattle.layout.specs.Layout.{axis_codes}
use Rattle.curve_metric.specs.Widest.{widest}

module _ (f : ℕ → Float) (ch : ℕ) {q : List Float} (eq : q ≡ filled f ch (replicate widest f0)) where
  pub point-is : take ch q ≡ upto f ch
  point-is = ap (take ch) eq ∙ take_at (upto f ch) (drop ch (replicate widest f0)) ch (length-upto f ch)

  pub point-length : length (take ch q) ≡ ch
  point-length = ap length point-is ∙ length-upto f ch

  pub point-room : ch ≤ axis_codes → length q ≡ widest
  point-room h = ap length eq ∙ length-filled f (replicate widest f0) ch (omega arith)
