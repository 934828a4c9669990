-- LAWS. The tables of a curve whose form is known, and of a stretch between other points. Assumes nothing.
use Rattle.std.specs.Prelude.{◌≡◌, List, ℕ, length, Float}
use Rattle.std.proofs.Common.{subst}
use Rattle.bspline_tables.specs.Tables.{Curve}
use Rattle.curve_walk.specs.declared.Form.{Form}
use Rattle.curve_walk.specs.declared.Form.TheVariants.{Basis, Fit}
use Rattle.curve_walk.specs.declared.Kept.{Kept}
use Rattle.curve_walk.specs.declared.Shape.{Shape}
use Rattle.curve_walk.specs.Asks.{Formed, Tables, Stretch}

module _ (s : Shape) {ks cs : List Float} where
  pub basis-tables : {p : ℕ} → s.form ≡ Basis p → Tables s ks cs → Curve ks cs s.n p s.ch
  basis-tables e t = subst (λ (f : Form). Formed f s.n s.ch ks cs) e t.formed

  pub fit-tables : {k : Kept} → s.form ≡ Fit k → Tables s ks cs → Formed (Fit k) s.n s.ch ks cs
  fit-tables e t = subst (λ (f : Form). Formed f s.n s.ch ks cs) e t.formed

-- between other points
pub stretch-at : {s : Shape} {ms : List ℕ} {ks cs p0 p1 q0 q1 : List Float} → Stretch s ms ks cs p0 p1 → length q0 ≡ s.ch → length q1 ≡ s.ch
    → Stretch s ms ks cs q0 q1
stretch-at w e0 e1 = record { tables = w.tables; metric = w.metric; first = e0; end = e1 }
