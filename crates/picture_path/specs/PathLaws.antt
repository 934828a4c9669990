-- LAWS. How long the pieces of a path are, and what they are together. Assumes nothing.
use Rattle.std.specs.Prelude.{ℕ, ◌+◌, ◌≤◌, ◌≡◌, Bool, true, false, cond, List, [], ◌∷◌, ◌++◌, eqb, length}
use Rattle.std.proofs.Common.{arith, length-append}
use Rattle.csv_figures.specs.Out.{Wrote}
use Rattle.csv_figures.specs.OutLaws.{wrote_then, wrote-length}
use Rattle.csv_words.specs.Text.{bytes}
use Rattle.picture_point.specs.declared.Point.{Point}
use Rattle.picture_point.specs.PointText.{point_text}
use Rattle.picture_point.specs.PointLaws.{point-short}
use Rattle.picture_path.specs.declared.Path.{Path}
use Rattle.picture_path.specs.PathText.{move_room, line_text, open_text, end_text, goes_on, move_text}

pub open_wrote : {o o₁ o₂ o₃ o₄ : List ℕ} {n a b c r : ℕ} (letter : ℕ) (p : Point) → Wrote o n (bytes "<path class='") o₁ a
    → Wrote o₁ a (letter ∷ []) o₂ b → Wrote o₂ b (bytes "' d='M") o₃ c → Wrote o₃ c (point_text p) o₄ r → Wrote o n (open_text letter p) o₄ r
unfolding open_text
open_wrote letter p x y z w = wrote_then x (wrote_then y (wrote_then z w))

pub open_short : (letter : ℕ) (p : Point) → length (open_text letter p) ≤ 55
unfolding open_text
open_short letter p = omega (arith, point-short p)

pub end_short : (path : Path) → length (end_text path) ≤ 4
unfolding end_text
end_short path = go (eqb path.letter 0)
  where
    go : (b : Bool) → length {A = ℕ} (cond b [] (39 ∷ 47 ∷ 62 ∷ 10 ∷ [])) ≤ 4
    go true = omega arith
    go false = omega arith

pub behind-end : {o o' : List ℕ} {n r : ℕ} (path : Path) → Wrote o n (end_text path) o' r → (r ≤ n + 4) × (length o' ≡ length o)
behind-end path w = (omega (arith, w.next, end_short path), wrote-length w)

pub behind_open : {o o' : List ℕ} {n r : ℕ} (letter : ℕ) (p : Point) → Wrote o n (open_text letter p) o' r → (r ≤ n + 55) × (length o' ≡ length o)
behind_open letter p w = (omega (arith, w.next, open_short letter p), wrote-length w)

line-short : (p : Point) → length (line_text p) ≤ 37
unfolding line_text
line-short p = omega (arith, point-short p)

pub move_short : (path : Path) (letter : ℕ) (from to : Point) → length (move_text path letter from to) ≤ move_room
unfolding move_text
move_short path letter from to = go (goes_on path letter)
  where
    go : (b : Bool) → length (cond b (line_text to) (end_text path ++ (open_text letter from ++ line_text to))) ≤ move_room
    go true = omega (arith, line-short to)
    go false =
        let a = length-append (end_text path) (open_text letter from ++ line_text to) in
        let b = length-append (open_text letter from) (line_text to) in
        omega (arith, end_short path, open_short letter from, line-short to)
