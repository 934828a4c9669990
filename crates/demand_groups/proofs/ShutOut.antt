-- LAWS. 8.12: two wrong programs that 8.7 shuts out by itself, whatever else they do. Assumes nothing.
use Rattle.std.specs.Prelude.{ℕ, ◌*◌, ◌≤◌, ◌<◌, ◌≡◌, get_or}
use Rattle.std.proofs.Common.{sym, ◌∙◌}
use Rattle.std.proofs.Math.Path.{ap}
use mathlib.Core.List.{List, [], ◌∷◌}
use native.Mathlib.Omega.{arith}
use Rattle.std.proofs.Math.ListN.{length, length-append}
use Rattle.std.proofs.lemmas.List.{length-map}
use Rattle.floats.specs.Lists.{flatten}
use Rattle.floats.specs.Joins.{flatten_append}
use Rattle.layout.specs.Layout.{row_words}
use Rattle.demand_calls.specs.Every.{Every, nil, more}
use Rattle.demand_groups.specs.Group.{row_at}
use Rattle.demand_groups.specs.Written.{Piece, groups, Grouped, Written}

-- whatever program wrote `out` for these events, if it is as the demand says
each-wide : {gs : List ℕ} (p : Piece) → Grouped gs p → row_words ≤ length (flatten p.rows)
unfolding flatten
each-wide p g = first-wide p.rows g.filled (g.formed 0 g.filled).wide
  where
    first-wide : (rows : List (List ℕ)) → 0 < length rows → length (row_at rows 0) ≡ row_words → row_words ≤ length (flatten rows)
    first-wide [] h e = absurd (omega arith)
    first-wide (x ∷ xs) h e = omega (arith, e, length-append x (flatten xs))

all-wide : {gs : List ℕ} (ps : List Piece) → Every (Grouped gs) ps → length ps * row_words ≤ length (flatten (flatten (groups ps)))
unfolding flatten
all-wide [] nil = omega arith
all-wide (p ∷ ps) (more g gs) =
    omega (
      arith,
      each-wide p g,
      all-wide ps gs,
      ap length (flatten_append p.rows (flatten (groups ps))),
      length-append (flatten p.rows) (flatten (flatten (groups ps))),
    )

module _ {gs : List ℕ} {blocks : List (List ℕ)} {ps : List Piece} {out : List ℕ} (w : Written gs blocks ps out) where
  as_many : length ps ≡ length blocks
  as_many = sym (length-map ps (λ (p : Piece). p.block)) ∙ ap length w.order

  -- each block has a row at least
  a-row-each : length blocks * row_words ≤ length out
  a-row-each = rw (w.groups, sym as_many) (all-wide ps w.each)

  -- writing nothing
  pub nothing_written : 0 < length blocks → out ≡ [] → ⊥
  nothing_written h e = omega (arith, a-row-each, ap length e)

  -- writing only the first block's rows
  pub only-first-written : 1 < length blocks → out ≡ flatten (get_or (groups ps) 0 []) → ⊥
  unfolding flatten
  only-first-written h e = first_alone ps w.each (omega (arith, as_many)) (sym w.groups ∙ e)
    where
      first_alone : (ps : List Piece) → Every (Grouped gs) ps → 1 < length ps → flatten (flatten (groups ps)) ≡ flatten (get_or (groups ps) 0 []) → ⊥
      first_alone [] nil l q = omega arith
      first_alone (p ∷ ps) (more g gs) l q =
          omega (
            arith,
            all-wide ps gs,
            ap length q,
            ap length (flatten_append p.rows (flatten (groups ps))),
            length-append (flatten p.rows) (flatten (flatten (groups ps))),
          )
