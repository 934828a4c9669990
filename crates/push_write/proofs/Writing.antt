-- A block's own rows, written by what the code has at hand. Assumes nothing.
use Prim.Native.Nat.{ℕ, ◌+◌, ◌*◌, ◌≤◌, ◌<◌}
use mathlib.Core.Path.{◌≡◌, sym, ◌∙◌, ap}
use mathlib.Core.List.{List, [], ◌∷◌}
use native.Mathlib.Omega.{arith}
use lib.ListN.{length}
use Rattle.floats.specs.Lists.{flatten, spliced}
use Rattle.floats.specs.Splice.{spliced-none}
use Rattle.layout.specs.Layout.{row_words}
use Rattle.row_cells.specs.Row.{axes_of, out_row}
use Rattle.arc_rows.specs.Plan.{plan_rows, way_rows, WriteOf}
use Rattle.arc_sample.specs.Rowing.{flatten-one}
use mathlib.Core.Option.{Option}
use Rattle.std.specs.Prelude.{None}
use Rattle.arc_rows.specs.declared.Plan.{Plan}
use Rattle.saved_state.specs.State.{position, geometric_mask}
use Rattle.push_resolve.specs.Blocks.{plane_then}
use Rattle.push_rows.specs.Own.{OwnPlanned, own_rows}
use Rattle.push_rows.specs.OwnLaws.{own_write, own-rows, own-no-rows}

-- ---- a block's own rows, written by what the code has at hand
module _ (st r : List ℕ) (p : Plan) (gs plane : ℕ) (pos : ℕ → Option ℕ) (eg : gs ≡ geometric_mask st) (ep : plane ≡ plane_then st r) (es : pos ≡ position st)
  where
    pub write_at : (rows : List ℕ) (from : ℕ) → OwnPlanned st r p → 0 < p.count → from + p.count * row_words ≤ length rows
        → WriteOf (axes_of gs) plane pos r rows from p
    write_at rows from h l room = rw (eg, ep, es) (own_write st r p rows from h (λ e. omega arith) room)

    pub written : (rows : List ℕ) (from : ℕ) (u : List ℕ) → 0 < p.count → u ≡ spliced rows from (flatten (plan_rows (axes_of gs) plane pos r p))
        → u ≡ spliced rows from (flatten (own_rows st r p))
    written rows from u l e =
        e ∙ ap (λ (o : List (List ℕ)). spliced rows from (flatten o)) (rw (eg, ep, es) (own-rows st r p (λ z. omega arith)))

-- a row that passes
pub passed_on : (st r : List ℕ) (p : Plan) (rows : List ℕ) (from : ℕ) (u : List ℕ) → 0 < p.count → p.way ≡ None → u ≡ spliced rows from (out_row r)
    → u ≡ spliced rows from (flatten (own_rows st r p))
unfolding way_rows
passed_on st r p rows from u l w e =
    let o : own_rows st r p ≡ out_row r ∷ [] = sym (own-rows st r p (λ z. omega arith)) ∙ rw w in
    e ∙ ap (spliced rows from) (sym (ap flatten o ∙ flatten-one (out_row r)))

pub unwritten : (st r : List ℕ) (p : Plan) (rows : List ℕ) (from : ℕ) → p.count ≤ 0 → rows ≡ spliced rows from (flatten (own_rows st r p))
unfolding flatten
unwritten st r p rows from l =
    let e : p.count ≡ 0 = omega arith in
    spliced-none rows from ∙ ap (λ (o : List (List ℕ)). spliced rows from (flatten o)) (sym (own-no-rows st r p e))
