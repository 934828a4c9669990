-- CONTRACTS. What the code plans for a block's own rows, with the laws that it is the definition's answer. Assumes nothing.
use Rattle.std.specs.Prelude.{ℕ, ◌+◌, ◌*◌, ◌<◌, ◌≤◌, ◌≡◌, Bool, cond, List, [], None, length, get_or, eqb}
use Rattle.layout.specs.Layout.{axis_masks, row_words, w_known}
use Rattle.row_cells.specs.Row.{axes_of}
use Rattle.arc_answer.specs.Arc.{arc_answer}
use Rattle.arc_rows.specs.declared.Plan.{Plan}
use Rattle.arc_rows.specs.Plan.{plan_rows, Planned}
use Rattle.saved_state.specs.State.{geometric, tolerance, position, geometric_mask}
use Rattle.push_resolve.specs.Blocks.{plane_then}
use Rattle.call_answer.specs.Answer.{own_answer}
use Rattle.push_resolve.specs.Asks.{Block}
use Rattle.push_resolve.specs.BlockLaws.{block}
use Rattle.push_resolve.specs.declared.Resolved.{Resolved}
use Rattle.push_resolve.specs.Resolved.{resolved}

-- ---- a block's own plan
pub record Ready (st r : List ℕ) (b : Resolved) : Type 0 where
  pub block : Block st r
  pub told : b ≡ resolved st r
  pub known : get_or st w_known 0 < axis_masks

-- no row
abbrev pub none_plan : Plan
none_plan = record { count = 0; warning = 0; wanted = 0; held = 0; way = None }

-- the rows that a plan stands for
unfoldable pub own_rows : List ℕ → List ℕ → Plan → List (List ℕ)
own_rows st r p = cond (eqb p.count 0) [] (plan_rows (axes_of (geometric_mask st)) (plane_then st r) (position st) r p)

pub record OwnPlanned (st r : List ℕ) (p : Plan) : Type 0 where
  pub rows : own_rows st r p ≡ (own_answer st r).rows
  pub count : p.count ≡ length (own_answer st r).rows
  pub warning : p.warning ≡ (own_answer st r).warning
  pub wanted : p.wanted ≡ (own_answer st r).wanted
  pub held : p.held ≡ (own_answer st r).held

-- a planned block's rows have room from word `from` on
pub record Writes (st r : List ℕ) (b : Resolved) (p : Plan) (rows : List ℕ) (from : ℕ) : Type 0 where
  pub ready : Ready st r b
  pub planned : OwnPlanned st r p
  pub room : from + p.count * row_words ≤ length rows

-- an arc's plan, of this state
abbrev pub TurnPlanned : List ℕ → List ℕ → Bool → Plan → Type 0
TurnPlanned st r cw p =
    Planned (axes_of (geometric_mask st)) (plane_then st r) (position st) r (arc_answer (tolerance st) (geometric st) (plane_then st r) cw (position st) r) p
