-- DEFINITIONS. How many rows, samples and point blocks lie before a block. Assumes nothing.
use Rattle.std.specs.Prelude.{ℕ, zero, suc, ◌+◌, ◌-◌, Bool, true, false, cond, List, eqb, get_or}
use Rattle.row_cells.specs.Row.{has_point}
use Rattle.spline_places.specs.declared.place.Place.{Place}

-- the rows of a block with c samples: one where it has none
unfoldable pub size_of : ℕ → ℕ
size_of c = cond (eqb c 0) 1 c

-- the samples of a block before which j point blocks lie
unfoldable pub samples_of : Bool → List ℕ → ℕ → ℕ
samples_of point counts j = cond point (get_or counts j 0) 0

-- behind a block, and back
unfoldable pub moved : Bool → List ℕ → Place → Place
moved false counts p = record { rows = p.rows + 1; samples = p.samples; points = p.points }
moved true counts p =
    let c : ℕ = get_or counts p.points 0 in
    record { rows = p.rows + size_of c; samples = p.samples + c; points = p.points + 1 }

unfoldable pub unmoved : Bool → List ℕ → Place → Place
unmoved false counts p = record { rows = p.rows - 1; samples = p.samples; points = p.points }
unmoved true counts p =
    let c : ℕ = get_or counts (p.points - 1) 0 in
    record { rows = p.rows - size_of c; samples = p.samples - c; points = p.points - 1 }

-- what lies before block i, where f gives the blocks and counts the samples of each point block
unfoldable pub place_to : List ℕ → List ℕ → (ℕ → List ℕ) → ℕ → Place
place_to gs counts f zero = record { rows = 0; samples = 0; points = 0 }
place_to gs counts f (suc i) = moved (has_point gs (f i)) counts (place_to gs counts f i)
