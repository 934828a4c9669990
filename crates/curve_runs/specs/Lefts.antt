-- DEFINITIONS. What the count of a whole curve remembers for its writing. Assumes nothing.
use Rattle.std.specs.Prelude.{cond, List, [], ℕ, ◌-◌, ltb, Float}
use Rattle.curve_walk.specs.declared.Form.{Form}
use Rattle.curve_walk.specs.declared.Form.TheVariants.{Basis, Fit}
use Rattle.curve_walk.specs.declared.Shape.{Shape}
use Rattle.curve_walk.specs.Lefts.{joined}
use Rattle.curve_spans.specs.Lefts.{spline_lefts}
use Rattle.curve_segments.specs.Lefts.{fit_lefts}

-- of the whole curve: nothing of a fit that kept its start alone
unfoldable pub form_lefts : Form → Shape → List ℕ → List Float → List Float → List Float → List ℕ
form_lefts (Basis p) s ms pts ks cs = spline_lefts s p ms ks cs
form_lefts (Fit k) s ms pts ks cs =
    let stretches = joined (fit_lefts s ms pts ks cs) (s.n - 1) in
    cond (ltb k.points 2) [] stretches

abbrev pub curve_lefts : Shape → List ℕ → List Float → List Float → List Float → List ℕ
curve_lefts s ms pts ks cs = form_lefts s.form s ms pts ks cs
