-- LAWS. What is written where a fit is prepared is the fit. Assumes nothing.
use Rattle.std.specs.Prelude.{◌≡◌, refl, Bool, ℕ, zero, suc, ◌+◌, ◌*◌, ◌-◌, ◌<◌, ◌≤◌, get_or, take, drop, Float}
use Rattle.std.proofs.Math.Path.{sym}
use Rattle.std.proofs.Common.{◌∙◌, ap, arith, ext_get_or, take_at}
use mathlib.Core.List.{List, [], ◌∷◌, map}
use Rattle.std.proofs.Math.ListN.{length, length-map}
use Rattle.std.specs.Float.Ieee.{nan}
use Rattle.floats.specs.Numbers.{at}
use Rattle.floats.specs.Lists.{upto, row, rows_of, filled}
use Rattle.floats.specs.Fill.{length-upto, at-upto, at-filled}
use Rattle.curve_metric.specs.Below.{Below}
use Rattle.curve_metric.specs.Metric.{point_of}
use Rattle.curve_metric.specs.Points.{point-rows, row_fits_lem, length-row, at_row}
use Rattle.fit_knots.specs.Fit.{fit_of}
use Rattle.fit_knots.specs.Memory.{FitIs}
use Rattle.fit_knots.specs.Blocks.{Blocks}
use Rattle.fit_knots.specs.Prepare.{slope_of, time_at, number_at, column_of, channel_at}

pub at_map : {A B : Type 0} (f : A → B) (l : List A) (k : ℕ) (d : A) (e : B) → k < length l → get_or (map f l) k e ≡ f (get_or l k d)
at_map f [] k d e h = absurd (omega arith)
at_map f (x ∷ xs) zero d e h = refl
at_map f (x ∷ xs) (suc k) d e h = at_map f xs k d e (omega arith)

pub upto-map : {A B : Type 0} (f : A → B) (l : List A) (d : A) (e : B) (n : ℕ) (g : ℕ → B) → n ≡ length l → ((k : ℕ) → k < n → g k ≡ f (get_or l k d))
    → upto g n ≡ map f l
upto-map f l d e n g en h = ext_get_or e (upto g n) (map f l) (length-upto g n ∙ en ∙ sym (length-map l f)) (λ k lt.
    let m : k < n = omega (arith, length-upto g n) in
    at-upto g n k e m ∙ h k m ∙ sym (at_map f l k d e (omega arith)))

at_table : (f : ℕ → ℕ → Float) (b n c w : ℕ) → c < b → w < n → at (get_or (upto (λ (c : ℕ). upto (f c) n) b) c []) w ≡ f c w
at_table f b n c w h g = ap (λ (l : List Float). at l w) (at-upto (λ (c : ℕ). upto (f c) n) b c [] h) ∙ at-upto (f c) n w nan g

pub take-filled : (f : ℕ → Float) (n : ℕ) (l : List Float) → take n (filled f n l) ≡ upto f n
take-filled f n l = take_at (upto f n) (drop n l) n (length-upto f n)

module _ (cubic : Bool) (pts ts : List Float) (ch n : ℕ) (ks : List ℕ) (l : List Float) {fts fps slopes : List Float} {m : ℕ}
    (some : 1 ≤ n) (room : n * ch ≤ length pts) (below : Below ks n) (count : m ≡ length ks)
    (times : fts ≡ filled (time_at ts ks) m l) (wide : m * ch ≤ length fps) (points : Blocks (number_at pts ch ks) ch m fps)
    (bends : Blocks (channel_at cubic fts fps ch m) m ch slopes) where
  kept : (w : ℕ) → w < m → get_or ks w 0 < n
  unfolding Below
  kept w h = below w (omega arith)

  rows-width : (i : ℕ) → i < n → length (point_of (rows_of pts ch n) i) ≡ ch
  rows-width i h = rw (point-rows pts ch n i h) (length-row pts ch i (row_fits_lem i n ch (length pts) h room))

  times_are : take m fts ≡ map (at ts) ks
  times_are = rw times (take-filled (time_at ts ks) m l ∙ upto-map (at ts) ks 0 nan m (time_at ts ks) count (λ k h. refl))

  point-is : (w c : ℕ) → w < m → c < ch → at fps (w * ch + c) ≡ at (point_of (rows_of pts ch n) (get_or ks w 0)) c
  point-is w c h g = points.is w c h g ∙ rw (point-rows pts ch n (get_or ks w 0) (kept w h)) (sym (at_row pts ch (get_or ks w 0) c g))

  column-is : (c : ℕ) → c < ch → column_of fps ch m c ≡ map (λ (p : List Float). at p c) (map (point_of (rows_of pts ch n)) ks)
  column-is c g =
      let picked = point_of (rows_of pts ch n) in
      upto-map (λ (p : List Float). at p c) (map picked ks) [] nan m (λ (w : ℕ). at fps (w * ch + c)) (count ∙ sym (length-map ks picked)) (λ w h.
      point-is w c h g ∙ ap (λ (p : List Float). at p c) (sym (at_map (point_of (rows_of pts ch n)) ks w 0 [] (omega arith))))

  bend-is : (c w : ℕ) → c < ch → w < m
      → slope_of cubic (map (at ts) ks) (map (λ (p : List Float). at p c) (map (point_of (rows_of pts ch n)) ks)) (length ks) w ≡ at slopes (c * m + w)
  bend-is c w g h = rw (← column-is c g, ← times_are, ← count) (sym (bends.is c w g h))

  row_is : (w : ℕ) → w < m → point_of (rows_of pts ch n) (get_or ks w 0) ≡ row fps ch w
  row_is w h =
      let width : length (row fps ch w) ≡ ch = length-row fps ch w (row_fits_lem w m ch (length fps) h wide) in
      let given : length (point_of (rows_of pts ch n) (get_or ks w 0)) ≡ ch = rows-width (get_or ks w 0) (kept w h) in
      ext_get_or nan (point_of (rows_of pts ch n) (get_or ks w 0)) (row fps ch w) (given ∙ sym width) (λ c l.
      let g : c < ch = omega arith in
      sym (point-is w c h g) ∙ sym (at_row fps ch w c g))

  pub fit_is : FitIs (fit_of cubic (rows_of pts ch n) ts ks) fts fps slopes m ch
  unfolding fit_of
  fit_is = record {
    count = length-map ks (at ts) ∙ sym count;
    times = λ k h. at_map (at ts) ks k 0 nan (omega arith) ∙ rw times (sym (at-filled (time_at ts ks) l m k nan h));
    points = λ w h. at_map (point_of (rows_of pts ch n)) ks w 0 [] (omega arith) ∙ row_is w h;
    bends = λ c w g h.
        let e : length (point_of (rows_of pts ch n) 0) ≡ ch = rows-width 0 some in
        at_table
        (λ (c : ℕ). slope_of cubic (map (at ts) ks) (map (λ (p : List Float). at p c) (map (point_of (rows_of pts ch n)) ks)) (length ks))
        (length (point_of (rows_of pts ch n) 0)) (length ks) c w (omega arith) (omega arith)
        ∙ bend-is c w g h;
  }
