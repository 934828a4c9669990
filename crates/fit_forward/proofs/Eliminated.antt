-- One more row of each recurrence of the forward pass (specs/Slopes.antt of fit_slopes). j is i + 1. Assumes nothing.
use mathlib.Core.Path.{◌≡◌}
use mathlib.Core.List.{List}
use Prim.Native.Nat.{ℕ, suc}
use lib.Ieee.{Float}
use Rattle.floats.specs.Numbers.{◌⊕◌, ◌⊖◌, ◌⊗◌, ◌⊘◌, f2, f6}
use Rattle.fit_slopes.specs.Slopes.{step, secant, sup, diag, rhs}

module _ (ts : List Float) where
  pub sup-more : {i j : ℕ} {h : Float} → j ≡ suc i → h ≡ step ts j → h ≡ sup ts j
  sup-more ej e = rw (e, ej)

  pub diag-more : {i j : ℕ} {h g d u : Float} → j ≡ suc i → h ≡ step ts i → g ≡ step ts j → d ≡ diag ts i → u ≡ sup ts i
      → f2 ⊗ (h ⊕ g) ⊖ h ⊘ d ⊗ u ≡ diag ts j
  unfolding diag
  diag-more ej eh eg ed eu = rw (eh, eg, ed, eu, ej)

module _ (ts ys : List Float) where
  pub rhs-more : {i j : ℕ} {h d s t r : Float} → j ≡ suc i → h ≡ step ts i → d ≡ diag ts i → s ≡ secant ts ys i → t ≡ secant ts ys j → r ≡ rhs ts ys i
      → f6 ⊗ (t ⊖ s) ⊖ h ⊘ d ⊗ r ≡ rhs ts ys j
  unfolding rhs
  rhs-more ej eh ed es et er = rw (eh, ed, es, et, er, ej)
