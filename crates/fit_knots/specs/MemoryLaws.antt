-- LAWS. The fit in memory is evaluated as the fit. Assumes nothing.
use Rattle.std.specs.Prelude.{◌≡◌, refl, Bool, true, false, cond, List, [], ℕ, zero, suc, ◌+◌, ◌*◌, ◌-◌, ◌<◌, ◌≤◌, length, get_or, Float}
use Rattle.std.proofs.Common.{◌∙◌}
use native.Mathlib.Omega.{arith}
use Rattle.std.specs.Float.Ieee.{le}
use Rattle.floats.specs.Numbers.{at}
use Rattle.floats.specs.Lists.{upto}
use Rattle.floats.specs.Fill.{upto-below}
use Rattle.curve_metric.specs.Metric.{point_of}
use Rattle.curve_metric.specs.Points.{row_fits_lem, length-row, at_row}
use Rattle.fit_knots.specs.Fit.{Fit, piece_from, piece_of, eval_fit}
use Rattle.fit_knots.specs.Memory.{FitHeld, piece_at, fit_at}

-- number j of row i of m, of n each
pub cell-fits : (i m n j len : ℕ) → i < m → j < n → m * n ≤ len → i * n + j < len
cell-fits i m n j len h l r = omega (arith, row_fits_lem i m n len h r)

-- the piece found is one of the n - 1
piece_in : (ts : List Float) (t : Float) (f w : ℕ) → piece_from ts t f w ≤ w + f
unfolding piece_from
piece_in ts t zero w = omega arith
piece_in ts t (suc f) w = go (le t (at ts (w + 1))) (piece_in ts t f (w + 1))
  where
    go : (b : Bool) → piece_from ts t f (w + 1) ≤ w + 1 + f → cond b w (piece_from ts t f (w + 1)) ≤ w + suc f
    go true h = omega arith
    go false h = omega arith

pub piece_below : (ts : List Float) (n : ℕ) (t : Float) → 2 ≤ n → piece_of ts n t + 1 < n
unfolding piece_of
piece_below ts n t h = omega (arith, piece_in ts t (n - 2) 0)

-- the search reads only the times up to the last piece's end
piece_same : (ts us : List Float) (t : Float) (f w n : ℕ) → w + f + 1 < n → ((k : ℕ) → k < n → at ts k ≡ at us k) → piece_from ts t f w ≡ piece_from us t f w
unfolding piece_from
piece_same ts us t zero w n h e = refl
piece_same ts us t (suc f) w n h e = rw (e (w + 1) (omega arith), piece_same ts us t f (w + 1) n (omega arith) e)

pieces-same : (ts us : List Float) (t : Float) (n : ℕ) → 2 ≤ n → ((k : ℕ) → k < n → at ts k ≡ at us k) → piece_of ts n t ≡ piece_of us n t
unfolding piece_of
pieces-same ts us t n h e = piece_same ts us t (n - 2) 0 n (omega arith) e

-- eval_fit, with the piece named
eval_piece : Fit → ℕ → Float → ℕ → Float
eval_piece fit w t c =
    let m = get_or fit.slopes c [] in
    piece_at t (at fit.times w) (at fit.times (w + 1)) (at (point_of fit.points w) c) (at m w) (at (point_of fit.points (w + 1)) c) (at m (w + 1))

eval-piece : (fit : Fit) (t : Float) →
    let w = piece_of fit.times (length fit.times) t in
    eval_fit fit t ≡ upto (eval_piece fit w t) (length (point_of fit.points w))
unfolding eval_fit eval_piece piece_at
eval-piece fit t = refl

module _ {fit : Fit} {fts fps slopes : List Float} {m ch : ℕ} (held : FitHeld fit fts fps slopes m ch) where
  at_piece : (t : Float) (w : ℕ) → w + 1 < m → (c : ℕ) → c < ch
      → eval_piece fit w t c ≡ piece_at t (at fts w) (at fts (w + 1)) (at fps (w * ch + c)) (at slopes (c * m + w)) (at fps ((w + 1) * ch + c))
      (at slopes (c * m + (w + 1)))
  unfolding eval_piece
  at_piece t w h c l =
      let is = held.is in
      let g : w < m = omega arith in
      rw (
        is.times w g,
        is.times (w + 1) h,
        is.points w g,
        is.points (w + 1) h,
        at_row fps ch w c l,
        at_row fps ch (w + 1) c l,
        is.bends c w l g,
        is.bends c (w + 1) l h,
      )

  wide : (w : ℕ) → w < m → length (point_of fit.points w) ≡ ch
  wide w h = rw (held.is.points w h) (length-row fps ch w (row_fits_lem w m ch (length fps) h held.room.points))

  pub eval_is : (t : Float) → eval_fit fit t ≡ upto (fit_at fts fps slopes m ch t) ch
  unfolding fit_at
  eval_is t =
      let found : piece_of fit.times (length fit.times) t ≡ piece_of fts m t =
      rw held.is.count (pieces-same fit.times fts t m held.room.two held.is.times) in
      let h = piece_below fts m t held.room.two in
      eval-piece fit t
      ∙ rw (found, wide (piece_of fts m t) (omega arith)) (upto-below (eval_piece fit (piece_of fts m t) t) _ ch (λ c l. at_piece t (piece_of fts m t) h c l))
