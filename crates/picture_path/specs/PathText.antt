-- DEFINITIONS. The text of a path: moves of one class after another, each a line to a point. Assumes nothing.
use Rattle.std.specs.Prelude.{ℕ, ◌+◌, Bool, false, cond, List, [], ◌∷◌, ◌++◌, eqb, ltb}
use Rattle.csv_words.specs.Text.{bytes}
use Rattle.picture_point.specs.declared.Point.{Point}
use Rattle.picture_point.specs.PointText.{point_text}
use Rattle.picture_path.specs.declared.Path.{Path}

-- a move is never longer
abbrev pub move_room : ℕ
move_room = 128

unfoldable pub line_text : Point → List ℕ
line_text p = (10 ∷ 76 ∷ []) ++ point_text p

-- a path of a class begins at a point
unfoldable pub open_text : ℕ → Point → List ℕ
open_text letter p = bytes "<path class='" ++ ((letter ∷ []) ++ (bytes "' d='M" ++ point_text p))

-- the end of the path that is open
unfoldable pub end_text : Path → List ℕ
end_text path = cond (eqb path.letter 0) [] (39 ∷ 47 ∷ 62 ∷ 10 ∷ [])

-- a move goes on with the open path of its class, up to so many points
abbrev pub longest : ℕ
longest = 1000

unfoldable pub goes_on : Path → ℕ → Bool
goes_on path letter = cond (eqb path.letter letter) (ltb path.points longest) false

unfoldable pub one_more : ℕ → ℕ
one_more points = cond (ltb points longest) (points + 1) points

unfoldable pub path_after : Path → ℕ → Path
path_after path letter = cond (goes_on path letter) (record { letter = letter; points = one_more path.points }) (record { letter = letter; points = 2 })

-- a move of a class from one point to another: a line more, or a new path behind the end of the open one
unfoldable pub move_text : Path → ℕ → Point → Point → List ℕ
move_text path letter from to = cond (goes_on path letter) (line_text to) (end_text path ++ (open_text letter from ++ line_text to))
