-- DEFINITIONS. The rows of a held block, of samples whose words stand one after another: its group, as the code writes it. Assumes nothing.
use Rattle.std.specs.Prelude.{ℕ, ◌+◌, Bool, cond, List, [], ◌∷◌, eqb, get_or}
use Rattle.floats.specs.Lists.{upto, flatten}
use Rattle.row_cells.specs.Row.{has_point, out_row}
use Rattle.spline_places.specs.declared.frame.Frame.{Frame}
use Rattle.spline_places.specs.declared.place.Place.{Place}
use Rattle.spline_places.specs.Sizes.{place_to}
use Rattle.spline_sample.specs.Raw.{raw_at, raw_row, bare_row}

unfoldable pub raw_group : Frame → List ℕ → ℕ → ℕ → List ℕ → (ℕ → List ℕ) → List (List ℕ)
raw_group o places j c r raw = cond (eqb c 0) (bare_row o j r ∷ []) (upto (raw_row o places j c r raw) c)

unfoldable pub raw_block : Frame → List ℕ → Bool → ℕ → ℕ → List ℕ → (ℕ → List ℕ) → List (List ℕ)
raw_block o places point j c r raw = cond point (raw_group o places j c r raw) (out_row r ∷ [])

-- of block i, and its words where the samples stand in xs
unfoldable pub raw_held : Frame → List ℕ → List ℕ → List ℕ → (ℕ → List ℕ) → (ℕ → List ℕ) → ℕ → List (List ℕ)
raw_held o places gs counts raw f i =
    let p : Place = place_to gs counts f i in
    raw_block o places (has_point gs (f i)) p.points (get_or counts p.points 0) (f i) (λ (t : ℕ). raw (p.samples + t))

unfoldable pub held_words : Frame → List ℕ → List ℕ → List ℕ → (ℕ → List ℕ) → List ℕ → ℕ → List ℕ
held_words o gs places counts f xs i = flatten (raw_held o places gs counts (raw_at o.ch xs) f i)
