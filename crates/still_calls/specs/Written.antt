-- LAWS. The rows of a spline that a state holds, of a push and of a close. Assumes nothing.
use Prim.Native.Nat.{ℕ, ◌<◌}
use Rattle.std.specs.Prelude.{◌≡◌, ◌&&◌, ◌||◌, ◌⊎◌, length, get_or}
use Rattle.std.proofs.Common.{sym, ◌∙◌, ap, arith}
use Rattle.std.proofs.Math.Path.{subst}
use Rattle.std.proofs.Math.Bool.{true}
use mathlib.Core.List.{List, [], ◌++◌}
use Rattle.std.proofs.Math.Logic.{inl, inr, ⊎_elim}
use Rattle.std.proofs.Math.Dec.{eqb}
use borrow.Author.Tests.{eqb-true}
use Rattle.floats.specs.Truth.{by_bit, all-at, and_left, and_right, or_f}
use Rattle.floats.specs.Lists.{flatten}
use Rattle.floats.specs.Joins.{flatten_append}
use Rattle.floats.specs.Fill.{length-upto, at-upto}
use Rattle.motion.specs.Motion.{is_spline}
use Rattle.row_cells.specs.Row.{motion_of}
use Rattle.row_check.specs.Check.{row_check}
use Rattle.row_check.specs.CheckLaws.{check-motion, check-shape, shape-present}
use Rattle.saved_state.specs.State.{geometric, motion_now, held, held_row, held_rows, held_row_ok}
use Rattle.spline_answer.specs.Emission.{spline_groups}
use Rattle.spline_answer.specs.Runs.{runs_of}
use Rattle.spline_answer.specs.Held.{held_spline, emission}
use Rattle.spline_put.specs.EmittedLaws.{emission-words}
use Rattle.push_resolve.specs.Blocks.{emits}
use Rattle.call_answer.specs.Answer.{own_answer}
use Rattle.call_answer.specs.Push.{push_rows}
use Rattle.call_answer.specs.Close.{close_rows}
use Rattle.demand_calls.specs.Laws.{cond_both, every_append, every_imp}
use Rattle.demand_state.specs.Accepted.{Saved, held-spline}
use Rattle.demands.specs.RowLengths.{emission-long}
use Rattle.still_laws.specs.Statements.{OnlyBehindLone}
use Rattle.still_laws.specs.Joined.{lone-joined}
use Rattle.still_calls.specs.Words.{Holdable, Rows, rows_none, rows-led, rows-unmarked}
use Rattle.still_calls.specs.Splines.{groups-fit, groups_lead}
use Rattle.still_calls.specs.Own.{own-rows}

-- ---- what is held
module _ (st store : List ℕ) (p : Saved st store) where
  -- a block that 9 does not refuse has no word or the state's, which is a spline's
  row_holdable : (i : ℕ) → i < held st → Holdable (held_row store i)
  unfolding held_row_ok
  row_holdable i h =
      let r : List ℕ = held_row store i in
      let ok : (eqb (row_check r) 0 && (eqb (motion_of r) 0 || eqb (motion_of r) (motion_now st))) ≡ true =
      all-at (held st) (held_row_ok st store) i p.rows h in
      let c : row_check r ≡ 0 = eqb-true _ 0 (and_left (eqb (row_check r) 0) _ ok) in
      let w : (eqb (motion_of r) 0 || eqb (motion_of r) (motion_now st)) ≡ true = and_right (eqb (row_check r) 0) _ ok in
      record {
        word = by_bit (eqb (motion_of r) 0)
            (λ t. inl (eqb-true _ 0 t))
            (λ f. inr (ap is_spline (eqb-true _ _ (sym (or_f (eqb (motion_of r) (motion_now st)) f) ∙ w)) ∙ held-spline st p.state (λ z. omega (arith, z))));
        low = record { word = check-motion r c };
        small = shape-present r (check-shape r c);
      }

  block_holdable : (i : ℕ) → i < length (held_spline st store).blocks → Holdable (get_or (held_spline st store).blocks i [])
  unfolding held_spline held_rows
  block_holdable i h =
      let l : i < held st = subst (λ (n : ℕ). i < n) (length-upto (held_row store) (held st)) h in
      subst Holdable (sym (at-upto (held_row store) (held st) i [] l)) (row_holdable i l)

  emission-rows : Rows (geometric st) (emission st store)
  unfolding emission spline_groups held_spline
  emission-rows =
      let fit = groups-fit (held_spline st store) (runs_of (held_spline st store)) block_holdable in
      ⊎_elim
      (λ u. rows-unmarked (geometric st) (emission-long st store) u (every_imp (λ x f. f.low) fit))
      (rows-led (geometric st) (emission-long st store) fit)
      (groups_lead (held_spline st store) (runs_of (held_spline st store)) block_holdable)

  -- ---- a push and a close that are not refused
  both-rows : (out : List (List ℕ)) → Rows (geometric st) out → Rows (geometric st) (emission st store ++ out)
  both-rows out own =
      let gs : List ℕ = geometric st in
      let first : List (List ℕ) = emission st store in
      record {
        only = subst (OnlyBehindLone gs) (sym (flatten_append first out))
            (lone-joined gs (flatten first) (flatten out) (length first) (emission-words st store) emission-rows.only own.only);
        low = every_append emission-rows.low own.low;
      }

  pub push-rows : (r : List ℕ) → row_check r ≡ 0 → Rows (geometric st) (push_rows st store r)
  unfolding push_rows
  push-rows r c =
      let own : Rows (geometric st) (own_answer st r).rows = own-rows st r (record { word = check-motion r c }) in
      cond_both (Rows (geometric st)) (emits st r) (both-rows (own_answer st r).rows own) own

  pub close-rows : Rows (geometric st) (close_rows st store)
  unfolding close_rows
  close-rows = cond_both (Rows (geometric st)) (eqb (held st) 0) (rows_none (geometric st)) emission-rows
