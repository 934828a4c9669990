-- LAWS. Where an evaluation looks first changes nothing of a stretch. Assumes nothing.
use mathlib.Core.Path.{◌≡◌, refl, ap}
use mathlib.Core.List.{List}
use Prim.Native.Nat.{ℕ, ◌*◌}
use lib.Ieee.{Float}
use Rattle.fit_knots.specs.Memory.{Prepared, fit_times, fit_points, fit_slopes}
use Rattle.curve_walk.specs.declared.Form.TheVariants.{Fit}
use Rattle.curve_walk.specs.declared.Kept.{Kept}
use Rattle.curve_walk.specs.declared.Shape.{Shape}
use Rattle.curve_walk.specs.Walks.{form_at}
use Rattle.curve_walk.specs.Forms.{fit-tables}
use Rattle.curve_segments.specs.Stretches.{in_piece, fit_run_at}
use Rattle.curve_segments.specs.Lefts.{fit_lefts}
use Rattle.curve_segments.specs.Asks.{Pieces, Segments, FreshAt}

module _ (s : Shape) {k : Kept} (kind : s.form ≡ Fit k) where
  prepared : {ms : List ℕ} {pts ks cs : List Float} → Segments s ms pts ks cs
      → Prepared (fit_times s.n ks) (fit_points (s.n * s.ch) cs) (fit_slopes (s.n * s.ch) cs) k.points s.ch
  prepared g = fit-tables s kind g.tables

  pub pieces_of : {ms : List ℕ} {pts ks cs : List Float} → Segments s ms pts ks cs → Pieces s k ks
  pieces_of g =
      let p = prepared g in
      record { two = p.two; times = p.times; rising = p.rising; few = g.tables.few; knots = g.tables.knots }

  module _ {r : Shape} {w : ℕ} (e : r ≡ in_piece s k w) where
    pub count_as : r.n ≡ s.n
    count_as = ap (λ (z : Shape). z.n) e

    pub segments_as : {ms : List ℕ} {pts ks cs : List Float} → Segments s ms pts ks cs → Segments r ms pts ks cs
    segments_as g =
        let t = g.tables in
        rw e (record {
          kind = tt;
          tables = record { narrow = t.narrow; few = t.few; knots = t.knots; controls = t.controls; formed = prepared g };
          metric = g.metric;
          two = g.two;
          points = g.points;
        })

    pub fresh_as : {i : ℕ} {l : List ℕ} → FreshAt s i l → FreshAt r i l
    fresh_as f = rw e (record { here = f.here; table = f.table; none = f.none; small = f.small })

    pub run_as : (ms : List ℕ) (pts ks cs : List Float) (i : ℕ) → fit_run_at r ms pts ks cs i ≡ fit_run_at s ms pts ks cs i
    unfolding fit_run_at form_at
    run_as ms pts ks cs i = rw (e, kind) refl

    pub lefts_as : (ms : List ℕ) (pts ks cs : List Float) (i : ℕ) → fit_lefts r ms pts ks cs i ≡ fit_lefts s ms pts ks cs i
    unfolding fit_lefts form_at
    lefts_as ms pts ks cs i = rw (e, kind) refl
