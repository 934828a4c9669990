-- LAWS. The point of either form, and a stretch that is flat or not. Assumes nothing.
use mathlib.Core.Path.{◌≡◌, sym, ap, ◌∙◌}
use mathlib.Core.List.{List, ◌++◌}
use mathlib.Core.Bool.{Bool, true, false}
use Prim.Native.Nat.{ℕ}
use lib.ListN.{drop}
use lib.Ieee.{Float}
use Rattle.floats.specs.Numbers.{◌⊕◌, ◌⊖◌, ◌⊗◌, f¼, f¾}
use Rattle.floats.specs.Lists.{filled}
use Rattle.floats.specs.Fill.{upto-same}
use Rattle.curve_metric.specs.Walk.{near, flat}
use Rattle.bspline_tables.specs.Tables.{curve_at}
use Rattle.curve_walk.specs.declared.Form.{Form}
use Rattle.curve_walk.specs.declared.Form.TheVariants.{Basis, Fit}
use Rattle.curve_walk.specs.declared.Kept.{Kept}
use Rattle.curve_walk.specs.declared.Shape.{Shape}
use Rattle.curve_walk.specs.Walks.{form_at, point_at}

-- ---- the two forms

module _ (s : Shape) (ks cs : List Float) (t : Float) (l : List Float) {r : List Float} where
  pub basis-point : {p : ℕ} → s.form ≡ Basis p → r ≡ filled (curve_at ks cs s.n p s.ch t) s.ch l → r ≡ filled (point_at s ks cs t) s.ch l
  unfolding form_at
  basis-point e h = h ∙ ap (λ (z : List Float). z ++ drop s.ch l) (upto-same _ _ (λ c. rw e) s.ch)

  pub fit-point : {k : Kept} → s.form ≡ Fit k → r ≡ filled (form_at (Fit k) s.n s.ch ks cs t) s.ch l → r ≡ filled (point_at s ks cs t) s.ch l
  fit-point e h = h ∙ ap (λ (f : Form). filled (form_at f s.n s.ch ks cs t) s.ch l) (sym e)

module _ (ev : Float → List Float) (ms : List ℕ) (tol t0 : Float) (p0 : List Float) (t1 : Float) (p1 pm : List Float) where
  pub flat-no : {a : Bool} → a ≡ near ms tol p0 p1 pm → a ≡ false → false ≡ flat ev ms tol t0 p0 t1 p1 pm
  unfolding flat
  flat-no e h = rw (sym e ∙ h)

  pub flat_no_2 : {a b : Bool} → a ≡ near ms tol p0 p1 pm → a ≡ true → b ≡ near ms tol p0 p1 (ev (t0 ⊕ f¼ ⊗ (t1 ⊖ t0))) → b ≡ false
      → false ≡ flat ev ms tol t0 p0 t1 p1 pm
  unfolding flat
  flat_no_2 e h g k = rw (sym e ∙ h, sym g ∙ k)

  pub flat-last : {a b z : Bool} → a ≡ near ms tol p0 p1 pm → a ≡ true → b ≡ near ms tol p0 p1 (ev (t0 ⊕ f¼ ⊗ (t1 ⊖ t0))) → b ≡ true
      → z ≡ near ms tol p0 p1 (ev (t0 ⊕ f¾ ⊗ (t1 ⊖ t0))) → z ≡ flat ev ms tol t0 p0 t1 p1 pm
  unfolding flat
  flat-last e h g k m = rw (sym e ∙ h, sym g ∙ k) m
