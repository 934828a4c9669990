-- LAWS. How long the text of a point is, and what it is by its pieces. Assumes nothing.
use Rattle.std.specs.Prelude.{ℕ, ◌+◌, ◌≤◌, ◌≡◌, List, [], ◌∷◌, length}
use Rattle.std.proofs.Common.{arith, length-append}
use Rattle.csv_figures.specs.Out.{Wrote}
use Rattle.csv_figures.specs.OutLaws.{wrote_then, wrote-length}
use Rattle.picture_place.specs.Place.{place_text, place_room}
use Rattle.picture_place.specs.PlaceLaws.{place_short}
use Rattle.picture_point.specs.declared.Point.{Point}
use Rattle.picture_point.specs.PointText.{point_text}

-- what is left of the room behind a place
pub behind-place : {o o' : List ℕ} {n r : ℕ} (p : ℕ) → Wrote o n (place_text p) o' r → (r ≤ n + place_room) × (length o' ≡ length o)
behind-place p w = (omega (arith, w.next, place_short p), wrote-length w)

pub point-wrote : {o o₁ o₂ o₃ : List ℕ} {n a b r : ℕ} (p : Point) → Wrote o n (place_text p.across) o₁ a → Wrote o₁ a (32 ∷ []) o₂ b
    → Wrote o₂ b (place_text p.up) o₃ r → Wrote o n (point_text p) o₃ r
unfolding point_text
point-wrote p x y z = wrote_then x (wrote_then y z)

pub point-short : (p : Point) → length (point_text p) ≤ 35
unfolding point_text
point-short p =
    let e = length-append (place_text p.across) (32 ∷ place_text p.up) in
    omega (arith, place_short p.across, place_short p.up)
