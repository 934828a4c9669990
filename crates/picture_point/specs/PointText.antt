-- DEFINITIONS. The text of a point. Assumes nothing.
use Rattle.std.specs.Prelude.{ℕ, List, ◌∷◌, ◌++◌}
use Rattle.picture_place.specs.Place.{place_text}
use Rattle.picture_point.specs.declared.Point.{Point}

-- its two coordinates, with a blank between them
unfoldable pub point_text : Point → List ℕ
point_text p = place_text p.across ++ (32 ∷ place_text p.up)
