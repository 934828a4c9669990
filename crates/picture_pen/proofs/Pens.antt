-- The pen behind a row and what the row draws, from what each step found. Assumes nothing.
use Prim.Native.Nat.{ℕ}
use mathlib.Core.Path.{◌≡◌, refl, sym, ◌∙◌}
use mathlib.Core.Bool.{Bool, true, false}
use mathlib.Core.List.{List}
use native.Mathlib.Nat.{add-zero}
use Rattle.csv_figures.specs.Out.{Wrote}
use Rattle.picture_point.specs.declared.Point.{Point}
use Rattle.picture_path.specs.PathText.{move_text}
use Rattle.picture_span.specs.declared.Plane.{Plane}
use Rattle.picture_pen.specs.declared.Pen.{Pen}
use Rattle.picture_pen.specs.Pen.{moves_in, pen_after, point_of, row_drawn}
use Rattle.picture_pen.specs.Drawing.{Drew}

module _ (pen : Pen) (row : List ℕ) (plane : Plane) where
  pub drew_move : {o o' : List ℕ} {n r : ℕ} {then : Pen} {a b : Point} {m : Bool} → then ≡ pen_after pen row plane → m ≡ moves_in pen row plane → m ≡ true
      → a ≡ point_of pen → b ≡ point_of then → Wrote o n (move_text pen.path then.path.letter a b) o' r
      → Drew pen row plane o n o' (record { pen = then; at = r })
  unfolding row_drawn
  drew_move {o} {o'} {n} {r} {then} {a} {b} {m} e k t p q w =
      let v : Wrote o n (move_text pen.path then.path.letter (point_of pen) (point_of then)) o' r = rw q at (rw p at w) in
      record { pen = e; text = rw (sym k ∙ t, ← e) v }

  pub drew_nothing : {o : List ℕ} {n : ℕ} {then : Pen} {m : Bool} → then ≡ pen_after pen row plane → m ≡ moves_in pen row plane → m ≡ false
      → Drew pen row plane o n o (record { pen = then; at = n })
  unfolding row_drawn
  drew_nothing {o} {n} {then} {m} e k t = record { pen = e; text = rw (sym k ∙ t) (record { next = sym (add-zero n); text = refl }) }
