-- CONTRACTS. What evaluating, counting and writing a stretch of a curve ask, and what they leave. Assumes nothing.
use Rattle.std.specs.Prelude.{◌≡◌, List, ℕ, ◌+◌, ◌-◌, ◌*◌, ◌^◌, ◌<◌, ◌≤◌, length, get_or, Float}
use Rattle.std.proofs.lemmas.List.Edits.{sets}
use Rattle.floats.specs.Lists.{spliced}
use Rattle.layout.specs.Layout.{axis_codes, most_points}
use Rattle.curve_metric.specs.Below.{Below}
use Rattle.curve_metric.specs.Walk.{Sample, depth}
use Rattle.fit_knots.specs.Memory.{Prepared, fit_times, fit_points, fit_slopes}
use Rattle.bspline_tables.specs.Tables.{Curve}
use Rattle.curve_walk.specs.declared.Form.{Form}
use Rattle.curve_walk.specs.declared.Form.TheVariants.{Basis, Fit}
use Rattle.curve_walk.specs.declared.Shape.{Shape}
use Rattle.curve_walk.specs.Walks.{end_owner, bumped, counted, encode}

-- the tables are of this form
abbrev pub Formed : Form → ℕ → ℕ → List Float → List Float → Type 0
Formed (Basis p) n ch ks cs = Curve ks cs n p ch
Formed (Fit k) n ch ks cs = Prepared (fit_times n ks) (fit_points (n * ch) cs) (fit_slopes (n * ch) cs) k.points ch

-- what an evaluation asks
pub record Tables (s : Shape) (ks cs : List Float) : Type 0 where
  pub narrow : s.ch ≤ axis_codes
  pub few : s.n ≤ most_points
  pub knots : 2 * s.n ≤ length ks
  pub controls : 2 * (s.n * s.ch) ≤ length cs
  pub formed : Formed s.form s.n s.ch ks cs

-- what the owner's advance asks of a B-spline's knots
pub record Knotted (p n : ℕ) (ks : List Float) : Type 0 where
  pub one : 1 ≤ n
  pub knots : n - 1 + p ≤ length ks
  pub low : p ≤ most_points

abbrev pub Advances : Form → ℕ → List Float → Type 0
Advances (Basis p) n ks = Knotted p n ks
Advances (Fit k) n ks = Unit

-- what the owner's advance from o asks
pub record Owners (s : Shape) (ks : List Float) (o : ℕ) : Type 0 where
  pub owned : o ≤ s.n - 1
  pub advances : Advances s.form s.n ks

-- what a walk asks of the stretch from p0 to p1
pub record Stretch (s : Shape) (ms : List ℕ) (ks cs p0 p1 : List Float) : Type 0 where
  pub tables : Tables s ks cs
  pub metric : Below ms s.ch
  pub first : length p0 ≡ s.ch
  pub end : length p1 ≡ s.ch

-- ---- counting

-- a sample at t is counted for its owner
abbrev pub Bumped : (ℕ → Float → ℕ) → ℕ → Float → List ℕ → ℕ → List ℕ → Type 0
Bumped own o t l r xs = (r ≡ own o t) × (xs ≡ bumped l (own o t - 1))

pub record Counted (own : ℕ → Float → ℕ) (o : ℕ) (ss : List Sample) (l : List ℕ) (r : ℕ) (xs : List ℕ) : Type 0 where
  pub owner : r ≡ end_owner own o ss
  pub is : xs ≡ counted own o ss l

-- an owner in place, and room for the samples of `left` more halvings
pub record Counts (s : Shape) (o left : ℕ) (l : List ℕ) : Type 0 where
  pub some : 1 ≤ o
  pub owned : o ≤ s.n - 1
  pub table : s.n - 1 ≤ length l
  pub room : (k : ℕ) → k < s.n - 1 → get_or l k 0 + 2 ^ left ≤ 2 ^ 60

-- the counts that a whole curve starts from
pub record Fresh (s : Shape) (l : List ℕ) : Type 0 where
  pub table : s.n - 1 ≤ length l
  pub none : (k : ℕ) → k < s.n - 1 → get_or l k 0 ≡ 0

-- ---- writing: the points' words spliced in from i on, and the place after them

pub record Written (l : List ℕ) (i : ℕ) (ps : List (List Float)) (r : ℕ) (xs : List ℕ) : Type 0 where
  pub end : r ≡ i + length (encode ps)
  pub is : xs ≡ spliced l i (encode ps)

-- ---- remembering

-- the list xs stored over l from c on, as far as l reaches, and the cursor after it
pub record Stored (l : List ℕ) (c : ℕ) (xs : List ℕ) (r : ℕ) (ys : List ℕ) : Type 0 where
  pub end : r ≡ c + length xs
  pub is : ys ≡ sets l c xs

-- the memory l has the list xs from c on, as far as it reaches
pub record Recalls (l : List ℕ) (c : ℕ) (xs : List ℕ) : Type 0 where
  pub is : (i : ℕ) → i < length xs → c + i < length l → get_or l (c + i) 0 ≡ get_or xs i 0

-- room for the samples of `left` more halvings
pub record Cursor (c left : ℕ) : Type 0 where
  pub low : left ≤ depth
  pub room : c + 2 ^ left ≤ 2 ^ 60
