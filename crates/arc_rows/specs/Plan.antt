-- CONTRACTS. What the code plans for an arc block, and what planning and writing it ask. Assumes nothing.
use Rattle.std.specs.Prelude.{ℕ, ◌+◌, ◌*◌, ◌<◌, ◌≤◌, ◌≡◌, Bool, cond, List, [], ◌∷◌, length, ltb, Float}
use Rattle.std.proofs.Math.Option.{Option}
use Rattle.std.specs.Prelude as Std
use Rattle.floats.specs.Lists.{upto, flatten}
use Rattle.layout.specs.Layout.{axis_codes, axis_masks, row_words}
use Rattle.row_cells.specs.Row.{shown, axes_of, out_row}
use Rattle.arc_centre.specs.Types.{ends_is}
use Rattle.arc_numbers.specs.Types.{arc_is}
use Rattle.arc_centre.specs.declared.Ends as EndsOf
use Rattle.arc_numbers.specs.declared.Arc as ArcOf
use Rattle.arc_sample.specs.declared.Setting.{Setting}
use Rattle.arc_rows.specs.declared.Plan.{Plan}
use Rattle.arc_answer.specs.Arc.{most_arc_rows, Answer, Ends, Arc, Centre, wanted_of, count_of, arc_row, from_centre, arc_answer}

-- ---- what the code asks
pub record BlockOf (r : List ℕ) (gs : ℕ) (at : List ℕ) : Type 0 where
  pub long : length r ≡ row_words
  pub axes : gs < axis_masks
  pub wide : axis_codes ≤ length at

-- ---- the code's plans
abbrev pub pass_plan : ℕ → Plan
pass_plan warning = record { count = 1; warning = warning; wanted = 0; held = 0; way = Std.None }

unfoldable pub along_plan : EndsOf.Ends → ArcOf.Arc → ℕ → Plan
along_plan e c held =
    let wanted = wanted_of (arc_is c) in
    record {
      count = count_of wanted;
      warning = cond (ltb most_arc_rows wanted) 6 0;
      wanted = cond (ltb most_arc_rows wanted) wanted 0;
      held = held;
      way = Std.Some (e, c);
    }

unfoldable pub way_rows : List ℕ → ℕ → (ℕ → Option ℕ) → List ℕ → ℕ → Std.Option (EndsOf.Ends × ArcOf.Arc) → List (List ℕ)
way_rows gs plane pos r n Std.None = out_row r ∷ []
way_rows gs plane pos r n (Std.Some (e, c)) = upto (λ (k : ℕ). arc_row gs plane pos r (ends_is e) (arc_is c) n (k + 1)) n

-- the rows that a plan stands for
abbrev pub plan_rows : List ℕ → ℕ → (ℕ → Option ℕ) → List ℕ → Plan → List (List ℕ)
plan_rows gs plane pos r p = way_rows gs plane pos r p.count p.way

-- their words, one row after another
abbrev pub plan_out : List ℕ → ℕ → (ℕ → Option ℕ) → List ℕ → Plan → List ℕ
plan_out gs plane pos r p = flatten (plan_rows gs plane pos r p)

-- a plan is that of an answer: the same numbers, and rows that it writes
pub record Planned (gs : List ℕ) (plane : ℕ) (pos : ℕ → Option ℕ) (r : List ℕ) (a : Answer) (p : Plan) : Type 0 where
  pub rows : plan_rows gs plane pos r p ≡ a.rows
  pub count : p.count ≡ length a.rows
  pub warning : p.warning ≡ a.warning
  pub wanted : p.wanted ≡ a.wanted
  pub held : p.held ≡ a.held
  pub least : 1 ≤ p.count

-- the plan of a block, and by its ends and centre, wherever its positions are
abbrev pub PlanOf : Float → List ℕ → ℕ → Bool → (ℕ → Option ℕ) → List ℕ → Plan → Type 0
PlanOf tol gs plane cw pos r p = Planned gs plane pos r (arc_answer tol gs plane cw pos r) p

unfoldable pub PlannedFrom : Float → Bool → Setting → List ℕ → Ends → Centre → Plan → Type 0
PlannedFrom tol cw f r e m p =
    (at : List ℕ) →
    let gs = axes_of f.gs in
    let pos = shown f.known at in
    Planned gs f.plane pos r (from_centre tol gs f.plane cw pos r e m) p

-- a plan of these inputs, and room for its rows
pub record WriteOf (gs : List ℕ) (plane : ℕ) (pos : ℕ → Option ℕ) (r rows : List ℕ) (from : ℕ) (p : Plan) : Type 0 where
  pub count : p.count ≡ length (plan_rows gs plane pos r p)
  pub least : 1 ≤ p.count
  pub room : from + p.count * row_words ≤ length rows
