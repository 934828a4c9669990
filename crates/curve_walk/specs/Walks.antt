-- DEFINITIONS. A curve as its tables give it, and what the two walks over a stretch of it count and write. Assumes nothing.
use Rattle.std.specs.Prelude.{List, [], ◌∷◌, map, ℕ, ◌+◌, ◌-◌, ◌*◌, get_or, set, Float}
use Rattle.floats.specs.Numbers.{bits}
use Rattle.floats.specs.Lists.{upto, flatten}
use Rattle.curve_metric.specs.Walk.{Sample, samples}
use Rattle.fit_knots.specs.Memory.{fit_at, fit_times, fit_points, fit_slopes}
use Rattle.bspline_tables.specs.Tables.{curve_at, advanced}
use Rattle.curve_walk.specs.declared.Form.{Form}
use Rattle.curve_walk.specs.declared.Form.TheVariants.{Basis, Fit}
use Rattle.curve_walk.specs.declared.Interval.{Interval}
use Rattle.curve_walk.specs.declared.Shape.{Shape}

-- channel c at t of n points of ch numbers, in each form
unfoldable pub form_at : Form → ℕ → ℕ → List Float → List Float → Float → ℕ → Float
form_at (Basis p) n ch ks cs t c = curve_at ks cs n p ch t c
form_at (Fit k) n ch ks cs t c = fit_at (fit_times n ks) (fit_points (n * ch) cs) (fit_slopes (n * ch) cs) k.points ch t c

abbrev pub point_at : Shape → List Float → List Float → Float → ℕ → Float
point_at s ks cs t c = form_at s.form s.n s.ch ks cs t c

abbrev pub eval_of : Shape → List Float → List Float → Float → List Float
eval_of s ks cs t = upto (point_at s ks cs t) s.ch

-- the owner of a sample at t, where o owns the one before: in a fit the point that the stretch ends at
unfoldable pub own_in : Form → ℕ → List Float → ℕ → Float → ℕ
own_in (Basis p) n ks o t = advanced ks p t (n - 1 - o) o
own_in (Fit k) n ks o t = o

abbrev pub own_of : Shape → List Float → ℕ → Float → ℕ
own_of s ks o t = own_in s.form s.n ks o t

-- the samples of a stretch between the points p0 and p1
abbrev pub samples_in : Shape → Interval → List ℕ → List Float → List Float → List Float → List Float → List Sample
samples_in s h ms ks cs p0 p1 = samples (eval_of s ks cs) ms s.tol h.left h.t0 p0 h.t1 p1

-- ---- counting: the owner after the samples ss, and the counts l with each sample added to its owner's

unfoldable pub end_owner : (ℕ → Float → ℕ) → ℕ → List Sample → ℕ
end_owner own o [] = o
end_owner own o (s ∷ ss) = end_owner own (own o s.time) ss

abbrev pub bumped : List ℕ → ℕ → List ℕ
bumped l i = set l i (get_or l i 0 + 1)

unfoldable pub counted : (ℕ → Float → ℕ) → ℕ → List Sample → List ℕ → List ℕ
counted own o [] l = l
counted own o (s ∷ ss) l = counted own (own o s.time) ss (bumped l (own o s.time - 1))

-- ---- writing: points as words, one after another

unfoldable pub encode : List (List Float) → List ℕ
encode ps = flatten (map (map bits) ps)

abbrev pub points_of : List Sample → List (List Float)
points_of ss = map (λ (s : Sample). s.point) ss
