-- Where the code names some findings and leaves the rest to `_`: what each arm answers, by the places of its findings. Assumes nothing.
use Prim.Native.Nat.{ℕ}
use mathlib.Core.Path.{◌≡◌, refl}
use mathlib.Core.List.{List, [], ◌∷◌}
use types.Run.{OneOf, miss}
use denote.Enum.Declared.{tag_of}
use Rattle.csv_status.specs.Status.{goes_on}
use Rattle.text_lines.specs.declared.Found.{Found}
use Rattle.text_lines.specs.declared.Found.TheVariants.{Line, More, Ended, Full, Failed}
use Rattle.text_lines.specs.declared.Turn.{Turn}
use Rattle.text_lines.specs.contracts.Found.{the_type}
use Rattle.night_reading.specs.Reading.{over_of, from_of}

abbrev rest-over-places : List ℕ
rest-over-places = 0 ∷ 1 ∷ 3 ∷ []

pub rest_over : (f : Found) → OneOf rest-over-places (tag_of the_type f) → goes_on ≡ over_of f
rest_over Line h = refl
rest_over More h = refl
rest_over Ended h = absurd (miss rest-over-places 2 tt h)
rest_over Full h = refl
rest_over Failed h = absurd (miss rest-over-places 4 tt h)

abbrev rest-from-places : List ℕ
rest-from-places = 0 ∷ 1 ∷ 2 ∷ 4 ∷ []

pub rest_from_lem : (f : Found) (t : Turn) → OneOf rest-from-places (tag_of the_type f) → t.at ≡ from_of f t
rest_from_lem Line t h = refl
rest_from_lem More t h = refl
rest_from_lem Ended t h = refl
rest_from_lem Full t h = absurd (miss rest-from-places 3 tt h)
rest_from_lem Failed t h = refl
