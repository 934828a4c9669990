-- LAWS. The points that were kept are what the fit asks for. Assumes nothing.
use mathlib.Core.Path.{◌≡◌, sym, ◌∙◌, ap}
use mathlib.Core.List.{List}
use Prim.Native.Nat.{ℕ, ◌-◌, ◌≤◌}
use native.Mathlib.Omega.{arith}
use lib.ListN.{length, take, drop}
use lib.Seq.{take_at}
use lib.Ieee.{Float}
use Rattle.curve_metric.specs.Below.{Below}
use Rattle.fit_knots.specs.Fit.{kept_to}
use Rattle.fit_knots.specs.Kept.{Kept}
use Rattle.fit_knots.proofs.KeptLaws.{kept_in, kept-rising}
use Rattle.fit_knots.specs.Prepare.{TimesRise}

module _ {ts : List Float} {n : ℕ} {l xs : List ℕ} {m : ℕ} (some : 1 ≤ n) (q : Kept ts (n - 1) l xs m) where
  pub kept-few : m ≤ n
  kept-few = omega (arith, q.count, (kept_in ts (n - 1)).few)

  pub kept-front : take m xs ≡ kept_to ts (n - 1)
  kept-front = rw q.is (take_at (kept_to ts (n - 1)) (drop m l) m (sym q.count))

  pub kept-length : length (take m xs) ≡ m
  kept-length = ap length kept-front ∙ sym q.count

  pub kept-below : Below (take m xs) n
  unfolding Below
  kept-below k h = rw kept-front (omega (arith, (kept_in ts (n - 1)).below k (omega (arith, ap length kept-front))))

  pub kept-rise : TimesRise ts (take m xs)
  unfolding TimesRise
  kept-rise k h = rw kept-front (kept-rising ts (n - 1) k (rw kept-front at h))
