-- LAWS. Demand 3 holds of the four calls. Assumes nothing.
use Rattle.std.specs.Prelude.{ℕ, ◌≡◌, refl, true, List, [], ◌∷◌, ◌++◌, map, length, eqb}
use Rattle.std.proofs.Common.{sym, ◌∙◌, ap, subst, arith}
use Rattle.layout.specs.Layout.{state_words}
use Rattle.row_cells.specs.Codes.{geometric_of}
use Rattle.floats.specs.Truth.{by_bit}
use Rattle.saved_state.specs.State.{tol_ok, codes_ok}
use Rattle.call_start.specs.Start.{fresh, start_spec}
use Rattle.call_answer.specs.Close.{close_spec}
use Rattle.demand_calls.specs.Runs.{Event, seed, block, closed, blocks_of, wrote, run}
use Rattle.demand_groups.specs.Written.{Piece, Written, groups}
use Rattle.demand_state.specs.Fresh.{small-axes}
use Rattle.demand_standing.specs.Standing.{Standing, at_first, with_block, with_seed, with_close}
use Rattle.demand_standing.proofs.Stands.{Stands, fresh-stands}
use Rattle.demands.specs.Demands.{Demand3, answer}
use Rattle.demands.specs.Each.{ranged_first, each_group}
use Rattle.demands.specs.Pending.{to_come, come_empty}
use Rattle.demands.specs.Pieces.{piece_of, pieces_from, pieces}
use Rattle.demands.specs.Sound.{sound-run}
use Rattle.demands.specs.Steps.{words, run-groups}

-- an accepted start
pub started : (old : List ℕ) (tol : ℕ) (axes : List ℕ) → (start_spec old tol axes).reply.code ≡ 0
    → (codes_ok axes ≡ true) × ((start_spec old tol axes).state ≡ fresh tol axes)
unfolding start_spec
started old tol axes =
    by_bit (eqb (length old) state_words)
    (λ a. by_bit (tol_ok tol)
    (λ b. by_bit (codes_ok axes)
    (λ c. rw (a, b, c) (λ z. (refl, refl)))
    (λ c. rw (a, b, c) (λ z. absurd (omega arith))))
    (λ b. rw (a, b) (λ z. absurd (omega arith))))
    (λ a. rw a (λ z. absurd (omega arith)))

-- 8.7: one group for each block, in block order
in_order : (tol : ℕ) (gs : List ℕ) (s : Standing) (es : List Event) → map (λ (p : Piece). p.block) (pieces_from tol gs s es) ≡ blocks_of es
unfolding pieces_from piece_of blocks_of
in_order tol gs s [] = refl
in_order tol gs s (seed c x ∷ es) = in_order tol gs (with_seed gs s c x) es
in_order tol gs s (block r ∷ es) = ap (λ (l : List (List ℕ)). r ∷ l) (in_order tol gs (with_block gs s r) es)
in_order tol gs s (closed ∷ es) = in_order tol gs (with_close s) es

at_first_lem : (tol : ℕ) (axes : List ℕ) (es : List Event) → to_come tol (geometric_of axes) at_first es ≡ map (λ (p : Piece). p.rows) (pieces tol axes es)
unfolding pieces at_first
at_first_lem tol axes es = come_empty tol (geometric_of axes) at_first es refl

pub demand3 : Demand3
unfolding pieces
demand3 old tol axes store cs rows z =
    let ok : (codes_ok axes ≡ true) × ((start_spec old tol axes).state ≡ fresh tol axes) = started old tol axes z in
    let t : Stands tol (geometric_of axes) at_first (fresh tol axes) store = fresh-stands tol axes ok.0 store in
    subst
    (λ (st : List ℕ).
    let y = run answer st store cs in
    let last = close_spec y.state y.store rows in
    last.reply.code ≡ 0 → Written (geometric_of axes) (blocks_of y.events) (pieces tol axes y.events) (y.out ++ wrote last))
    (sym ok.1)
    (λ d. record {
      groups = run-groups cs rows t d ∙ ap words (at_first_lem tol axes (run answer (fresh tol axes) store cs).events);
      order = in_order tol (geometric_of axes) at_first (run answer (fresh tol axes) store cs).events;
      each = each_group tol (geometric_of axes) (small-axes axes) (ranged_first (geometric_of axes)) (sound-run cs rows t d);
    })
