-- LAWS. What is gathered of the held blocks: channels, the metric's places, points. Assumes nothing.
use Rattle.std.specs.Prelude.{ℕ, zero, suc, ◌+◌, ◌*◌, ◌≤◌, ◌<◌, ◌≡◌, Bool, true, false, cond, leb, eqb, length, get_or, take, Float}
use Rattle.std.proofs.Common.{◌∙◌, ap, mul-le-mul_left, mul-le-mul_right, le_trans, arith}
use mathlib.Core.List.{List, [], ◌∷◌, ◌++◌}
use Rattle.std.proofs.Math.Option.{Option}
use Rattle.std.proofs.Math.Dec.{ltb}
use Rattle.floats.specs.Lists.{upto, keep, member}
use Rattle.floats.specs.Fill.{length-upto}
use Rattle.layout.specs.Layout.{axis_codes, most_held}
use Rattle.row_cells.specs.Codes.{geometric_of}
use Rattle.row_cells.specs.Row.{has_point}
use Rattle.curve_metric.specs.Below.{Below}
use Rattle.curve_runs.specs.Asks.{Controls}
use Rattle.spline_channels.specs.Channels.{channels_from}
use Rattle.spline_metric.specs.Metric.{metric_of}
use Rattle.spline_channels.specs.Gathers.{Appended, Once, Codes}
use Rattle.spline_points.specs.Gathers.{PointsAre}
use Rattle.spline_channels.proofs.ChannelLaws.{Good, channels-good, channels-few, geometric-few, once-distinct, distinct-keep, none-good}
use Rattle.spline_channels.specs.Keeps.{keep-upto-most, keep-most, member-at}
use Rattle.spline_job.specs.declared.Curve.{Curve}
use Rattle.spline_job.specs.declared.Job.{Job}
use Rattle.curve_drawing.specs.declared.Drawing.{Drawing}
use Rattle.spline_curve.specs.Asks.{Gathered, Curved}
use Rattle.spline_job.specs.Jobs.{drawing_of}

-- ---- the channels of listed axes
module _ (axes : List ℕ) (blocks : List (List ℕ)) (o : Once axes) where
  chan_good : Good (geometric_of axes) (channels_from (geometric_of axes) [] blocks)
  unfolding geometric_of
  chan_good =
      channels-good (geometric_of axes) [] blocks (distinct-keep (λ (k : ℕ). ltb k axis_codes) axes (once-distinct axes o)) (none-good (geometric_of axes))

  pub chan_below : (k : ℕ) → member k (channels_from (geometric_of axes) [] blocks) ≡ true → k < axis_codes
  chan_below k m = geometric-few axes k (chan_good.inside k m)

  pub chan_codes : (cs : List ℕ) → cs ≡ channels_from (geometric_of axes) [] blocks → Codes cs
  chan_codes cs e =
      let all : List ℕ = channels_from (geometric_of axes) [] blocks in
      record { axis = λ c l. rw e (chan_below (get_or all c 0) (member-at all c (rw e at l))) }

-- ---- the metric's places lie within a point
unfoldable AllBelow : ℕ → List ℕ → Type 0
AllBelow n [] = Unit
AllBelow n (x ∷ xs) = (x < n) × AllBelow n xs

all_keep : (n : ℕ) (p : ℕ → Bool) (xs : List ℕ) → AllBelow n xs → AllBelow n (keep p xs)
unfolding AllBelow keep
all_keep n p [] a = tt
all_keep n p (x ∷ xs) a = one (p x) (all_keep n p xs a.1)
  where
    one : (b : Bool) → AllBelow n (keep p xs) → AllBelow n (cond b (x ∷ keep p xs) (keep p xs))
    one true h = (a.0, h)
    one false h = h

all_append : (n : ℕ) (xs ys : List ℕ) → AllBelow n xs → AllBelow n ys → AllBelow n (xs ++ ys)
unfolding AllBelow
all_append n [] ys a b = b
all_append n (x ∷ xs) ys a b = (a.0, all_append n xs ys a.1 b)

all-upto : (n c : ℕ) → c ≤ n → AllBelow n (upto (λ (i : ℕ). i) c)
unfolding AllBelow upto
all-upto n zero h = tt
all-upto n (suc c) h = all_append n (upto (λ (i : ℕ). i) c) (c ∷ []) (all-upto n c (omega arith)) (omega arith, tt)

all-below : (n : ℕ) (xs : List ℕ) → AllBelow n xs → Below xs n
unfolding AllBelow Below
all-below n [] a k h = absurd (omega arith)
all-below n (x ∷ xs) a zero h = a.0
all-below n (x ∷ xs) a (suc k) h = all-below n xs a.1 k (omega arith)

pick : {A : Type 0} (P : A → Type 0) (b : Bool) (x y : A) → P x → P y → P (cond b x y)
pick P true x y p q = p
pick P false x y p q = q

metric-below : (cs : List ℕ) → Below (metric_of cs) (length cs)
unfolding metric_of
metric-below cs =
    let every : List ℕ = upto (λ (i : ℕ). i) (length cs) in
    let p : ℕ → Bool = λ i. leb (get_or cs i 0) 2 in
    let a : AllBelow (length cs) every = all-upto (length cs) (length cs) (omega arith) in
    let b : Below (keep p every) (length cs) = all-below (length cs) (keep p every) (all_keep (length cs) p every a) in
    pick (λ (l : List ℕ). Below l (length cs)) (eqb (length (keep p every)) 0) every (keep p every) (all-below (length cs) every a) b

metric-most : (cs : List ℕ) → length (metric_of cs) ≤ length cs
unfolding metric_of
metric-most cs =
    let every : List ℕ = upto (λ (i : ℕ). i) (length cs) in
    let p : ℕ → Bool = λ i. leb (get_or cs i 0) 2 in
    let e : length every ≡ length cs = length-upto (λ (i : ℕ). i) (length cs) in
    pick (λ (l : List ℕ). length l ≤ length cs) (eqb (length (keep p every)) 0) every (keep p every) (omega arith) (omega (arith, keep-most p every))

-- ---- what is gathered
module _ (axes : List ℕ) (blocks : List (List ℕ)) (xs ys : List ℕ) (n : ℕ) (o : Once axes)
    (a : Appended (channels_from (geometric_of axes) [] blocks) 0 xs ys n) where
  pub chan_long : axis_codes ≤ length xs → n ≤ length ys
  chan_long h = omega (arith, a.same, a.count, channels-few axes blocks o)

  pub chan_short : length (take n ys) ≤ axis_codes
  chan_short = rw a.is (channels-few axes blocks o)

pub gathered-is : (axes : List ℕ) (start : ℕ → Option ℕ) (blocks : List (List ℕ)) (chans0 chans ms0 ms : List ℕ) (pts ws : List Float) (ch m n : ℕ)
    → Once axes → axis_codes ≤ length ms0
    → Appended (channels_from (geometric_of axes) [] blocks) 0 chans0 chans ch → Appended (metric_of (take ch chans)) 0 ms0 ms m
    → PointsAre (geometric_of axes) start blocks (take ch chans) pts ws n
    → Gathered (geometric_of axes) start blocks (record { ch = ch; metric = m; n = n }) chans ms pts ws
gathered-is axes start blocks chans0 chans ms0 ms pts ws ch m n o wide a b c =
    let cs : List ℕ = channels_from (geometric_of axes) [] blocks in
    let e : take ch chans ≡ cs = a.is in
    let q : ch ≡ length cs = a.count ∙ zero_plus (length cs) in
    let few : length cs ≤ axis_codes = channels-few axes blocks o in
    let bm : take m ms ≡ metric_of cs = b.is ∙ ap metric_of e in
    let cm : m ≡ length (metric_of cs) = b.count ∙ zero_plus (length (metric_of (take ch chans))) ∙ ap (λ (l : List ℕ). length (metric_of l)) e in
    record {
      ch = q;
      narrow = omega arith;
      listed = e;
      metric = bm;
      places = omega (arith, b.same, metric-most cs);
      count = c.count;
      drawn = rw (q) (rw e at c.points);
      weights = c.weights;
    }
  where
    zero_plus : (k : ℕ) → 0 + k ≡ k
    zero_plus k = omega arith

-- a curve of held blocks has at most a point for each, and the start
pub curve-few : (gs : List ℕ) (start : ℕ → Option ℕ) (f : ℕ → List ℕ) (held : ℕ) (g : Curve) (chans ms : List ℕ) (pts ws : List Float)
    → Gathered gs start (upto f held) g chans ms pts ws → g.n ≤ held + 1
curve-few gs start f held g chans ms pts ws h = omega (arith, h.count, keep-upto-most (has_point gs) f held)

module _ (gs : List ℕ) (start : ℕ → Option ℕ) (f : ℕ → List ℕ) (held : ℕ) (job : Job) (g : Curve) (d : Drawing) (chans ms : List ℕ) (pts ws : List Float)
    (ed : d ≡ drawing_of job g) (h : Gathered gs start (upto f held) g chans ms pts ws) where
  pub draws_few : d.n ≤ held + 1
  draws_few = rw ed (curve-few gs start f held g chans ms pts ws h)

  -- the numbers of its points
  cells-few : g.n ≤ held + 1 → g.n * g.ch ≤ (held + 1) * length (channels_from gs [] (upto f held))
  cells-few n = rw h.ch (mul-le-mul_right (length (channels_from gs [] (upto f held))) n)

  -- room for the tables of as many points as may be is room for those there are
  pub draws_within : (cs : List Float) → Controls (held + 1) (length (channels_from gs [] (upto f held))) cs → Controls d.n d.ch cs
  draws_within cs r =
      let n : g.n ≤ held + 1 = curve-few gs start f held g chans ms pts ws h in
      let few = cells-few n in
      let wide : (g.ch + 1) * g.n ≤ (g.ch + 1) * (held + 1) = mul-le-mul_left (g.ch + 1) n in
      rw ed (record { fit = omega (arith, few, r.fit); basis = le_trans wide (rw h.ch r.basis) })

  pub curved-is : held ≤ most_held → (held + 1) * length (channels_from gs [] (upto f held)) ≤ length pts → held + 1 ≤ length ws
      → Curved d (take g.metric ms) pts ws
  curved-is many lp lw =
      let n : g.n ≤ held + 1 = curve-few gs start f held g chans ms pts ws h in
      rw ed (record {
        some = omega (arith, h.count);
        few = omega arith;
        narrow = h.narrow;
        metric = rw (h.metric, h.ch) (metric-below (channels_from gs [] (upto f held)));
        points = le_trans (cells-few n) lp;
        weights = omega arith;
      })

  -- in lists that stayed as long as they were
  pub curved-kept : (ps qs : List Float) → held ≤ most_held
      → length pts ≡ length ps → (held + 1) * length (channels_from gs [] (upto f held)) ≤ length ps
      → length ws ≡ length qs → held + 1 ≤ length qs → Curved d (take g.metric ms) pts ws
  curved-kept ps qs many ep lp eq lq = curved-is many (omega (arith, ep, lp)) (omega (arith, eq, lq))
