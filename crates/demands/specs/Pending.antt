-- LAWS. The groups that are still to be written when some events are to come: those of the open spline's blocks, then those of the events. Assumes nothing.
use Rattle.std.specs.Prelude.{ℕ, suc, ◌+◌, ◌≡◌, true, false, get_or, eqb}
use Rattle.std.proofs.Math.Path.{refl, sym, ap, ap₂}
use Rattle.std.proofs.Common.{◌∙◌, arith, add-one}
use mathlib.Core.List.{List, [], ◌∷◌, ◌++◌, map, append-nil}
use Rattle.std.proofs.Math.ListN.{length, take, length-append}
use Rattle.std.proofs.lemmas.List.{length-map}
use Rattle.std.proofs.Math.Seq.{take-suc, take-length, append_snoc}
use borrow.Author.Tests.{eqb-true, eqb-false, ne_eqb}
use Rattle.floats.specs.Numbers.{num}
use Rattle.floats.specs.Fill.{length-upto}
use Rattle.motion.specs.Motion.{is_spline, kind_of}
use Rattle.saved_state.specs.State.{plain_degree}
use Rattle.row_cells.specs.Row.{out_row}
use Rattle.floats.specs.Truth.{by_bit, cond-t, cond-f}
use Rattle.spline_answer.specs.Words.{Spline, spline_groups}
use Rattle.call_answer.specs.Answer.{answer_as}
use Rattle.demand_calls.specs.Runs.{Event, seed, block, closed}
use Rattle.demand_groups.specs.Written.{groups}
use Rattle.demand_standing.specs.Standing.{Standing, motion_with, goes_on, with_block, with_seed, with_close, degree_from, together}
use Rattle.demands.specs.Pieces.{spline_with, piece_of, pieces_from}
use Rattle.demand_standing.specs.Together.{close-ends, ends-here, goes_on_lem}

pub spline-length : (sp : Spline) → length (spline_groups sp) ≡ length sp.blocks
unfolding spline_groups
spline-length sp = length-upto _ _

with-length : (tol : ℕ) (gs : List ℕ) (s : Standing) (rs : List (List ℕ)) → length (spline_groups (spline_with tol gs s rs)) ≡ length rs
unfolding spline_with
with-length tol gs s rs = spline-length (spline_with tol gs s rs) ∙ length-map rs out_row

-- the groups of the open spline's blocks so far, if es are to come
unfoldable pub pending : ℕ → List ℕ → Standing → List Event → List (List (List ℕ))
pending tol gs s es = take (length s.curve) (spline_groups (spline_with tol gs s (s.curve ++ together s.motion es)))

unfoldable pub to_come : ℕ → List ℕ → Standing → List Event → List (List (List ℕ))
to_come tol gs s es = pending tol gs s es ++ groups (pieces_from tol gs s es)

-- the groups of the open spline as it stands
unfoldable pub opened : ℕ → List ℕ → Standing → List (List (List ℕ))
opened tol gs s = spline_groups (spline_with tol gs s s.curve)

-- the group of a block of no spline
unfoldable pub own_rows : ℕ → List ℕ → Standing → List ℕ → List (List ℕ)
own_rows tol gs s r = (answer_as (kind_of (motion_with s r)) (num tol) gs (with_block gs s r).plane s.place r).rows

module _ (tol : ℕ) (gs : List ℕ) where
  -- where the spline ends
  pending-ends : (s : Standing) (es : List Event) → together s.motion es ≡ [] → pending tol gs s es ≡ opened tol gs s
  unfolding pending opened
  pending-ends s es e =
      ap (λ (rs : List (List ℕ)). take (length s.curve) (spline_groups (spline_with tol gs s (s.curve ++ rs)))) e
      ∙ ap (λ (rs : List (List ℕ)). take (length s.curve) (spline_groups (spline_with tol gs s rs))) (append-nil s.curve)
      ∙ ap (λ (n : ℕ). take n (spline_groups (spline_with tol gs s s.curve))) (sym (with-length tol gs s s.curve))
      ∙ take-length (spline_groups (spline_with tol gs s s.curve))

  pub come_none : (s : Standing) → to_come tol gs s [] ≡ opened tol gs s
  unfolding to_come pieces_from together
  come_none s = append-nil (pending tol gs s []) ∙ pending-ends s [] refl

  pub come_seed : (s : Standing) (c x : ℕ) (es : List Event) → to_come tol gs s (seed c x ∷ es) ≡ to_come tol gs (with_seed gs s c x) es
  unfolding to_come pending pieces_from together with_seed spline_with
  come_seed s c x es = refl

  -- where none is open
  pub come_empty : (s : Standing) (es : List Event) → s.curve ≡ [] → to_come tol gs s es ≡ groups (pieces_from tol gs s es)
  unfolding to_come pending
  come_empty s es e =
      ap (λ (n : ℕ). take n (spline_groups (spline_with tol gs s (s.curve ++ together s.motion es))) ++ groups (pieces_from tol gs s es)) (ap length e)

  pub come_closed : (s : Standing) (es : List Event) → to_come tol gs s (closed ∷ es) ≡ opened tol gs s ++ to_come tol gs (with_close s) es
  unfolding to_come pieces_from together with_close
  come_closed s es =
      ap (λ (l : List (List (List ℕ))). l ++ groups (pieces_from tol gs (with_close s) es)) (pending-ends s (closed ∷ es) (close-ends s.motion es))
      ∙ ap (λ (l : List (List (List ℕ))). opened tol gs s ++ l) (sym (come_empty (with_close s) es refl))

  -- ---- a block, and what comes after it
  module _ (s : Standing) (r : List ℕ) (es : List Event) where
    later : List (List (List ℕ))
    later = groups (pieces_from tol gs (with_block gs s r) es)

    its : List (List ℕ)
    its = (piece_of tol gs s r es).rows

    come_block : to_come tol gs s (block r ∷ es) ≡ pending tol gs s (block r ∷ es) ++ (its ∷ later)
    unfolding to_come pieces_from its later
    come_block = refl

    -- all groups of the block's spline
    spline : List (List (List ℕ))
    spline = spline_groups (spline_with tol gs (with_block gs s r) ((with_block gs s r).curve ++ together (with_block gs s r).motion es))

    spline_size : length spline ≡ length (with_block gs s r).curve + length (together (with_block gs s r).motion es)
    unfolding spline
    spline_size = with-length tol gs (with_block gs s r) _ ∙ length-append (with_block gs s r).curve (together (with_block gs s r).motion es)

    module _ (y : is_spline (motion_with s r) ≡ true) where
      its_group : its ≡ get_or spline (length (goes_on s r)) []
      unfolding its spline piece_of with_block
      its_group = cond-t _ _ y

      curve-is : (with_block gs s r).curve ≡ goes_on s r ++ (r ∷ [])
      unfolding with_block
      curve-is = cond-t _ [] y

      curve-length : length (with_block gs s r).curve ≡ suc (length (goes_on s r))
      curve-length = ap length curve-is ∙ length-append (goes_on s r) (r ∷ []) ∙ add-one (length (goes_on s r))

      -- the blocks so far and this one
      pending-with : pending tol gs (with_block gs s r) es ≡ take (length (goes_on s r)) spline ++ (its ∷ [])
      unfolding pending spline
      pending-with =
          let n : length spline ≡ length (with_block gs s r).curve + length (together (with_block gs s r).motion es) = spline_size in
          ap (λ (n : ℕ). take n spline) curve-length
          ∙ take-suc spline (length (goes_on s r)) [] (omega (arith, n, curve-length))
          ∙ ap (λ (g : List (List ℕ)). take (length (goes_on s r)) spline ++ (g ∷ [])) (sym its_group)

      with-block : to_come tol gs (with_block gs s r) es ≡ take (length (goes_on s r)) spline ++ (its ∷ later)
      unfolding to_come later
      with-block = ap (λ (l : List (List (List ℕ))). l ++ later) pending-with ∙ append_snoc (take (length (goes_on s r)) spline) its later

      -- the motion goes on, and with it the open spline
      module _ (e : eqb (motion_with s r) s.motion ≡ true) where
        on-is : goes_on s r ≡ s.curve
        unfolding goes_on
        on-is = cond-t s.curve [] e

        same-motion : (with_block gs s r).motion ≡ s.motion
        unfolding with_block
        same-motion = eqb-true _ _ e

        same_start : (length s.curve ≡ 0 → ⊥) → (with_block gs s r).start ≡ s.start
        unfolding with_block
        same_start d = cond-f s.place s.start (ne_eqb _ 0 (λ z. d (ap length (sym on-is) ∙ z)))

        same_blocks : s.curve ++ together s.motion (block r ∷ es) ≡ (with_block gs s r).curve ++ together (with_block gs s r).motion es
        same_blocks =
            ap (λ (l : List (List ℕ)). s.curve ++ l) (goes_on_lem s r es e)
            ∙ sym (append_snoc s.curve r (together s.motion es))
            ∙ ap₂ (λ (a : List (List ℕ)) (m : ℕ). a ++ together m es) (ap (λ (l : List (List ℕ)). l ++ (r ∷ [])) (sym on-is) ∙ sym curve-is) (sym same-motion)

        same-spline : (length s.curve ≡ 0 → ⊥) → spline_groups (spline_with tol gs s (s.curve ++ together s.motion (block r ∷ es))) ≡ spline
        unfolding spline spline_with
        same-spline d = ap spline_groups (λ i. record {
          motion = sym same-motion i;
          power = degree_from plain_degree (same_blocks i);
          tol = num tol;
          axes = gs;
          start = sym (same_start d) i;
          blocks = map out_row (same_blocks i);
        })

        pending-on : pending tol gs s (block r ∷ es) ≡ take (length (goes_on s r)) spline
        unfolding pending
        pending-on =
            by_bit (eqb (length s.curve) 0)
            (λ b. let z : length s.curve ≡ 0 = eqb-true _ 0 b in
            ap (λ (n : ℕ). take n (spline_groups (spline_with tol gs s (s.curve ++ together s.motion (block r ∷ es))))) z
            ∙ sym (ap (λ (n : ℕ). take n spline) (ap length on-is ∙ z)))
            (λ b. ap₂ (λ (n : ℕ) (g : List (List (List ℕ))). take n g) (ap length (sym on-is)) (same-spline (eqb-false _ 0 b)))

        pub come_on : to_come tol gs s (block r ∷ es) ≡ to_come tol gs (with_block gs s r) es
        come_on = come_block ∙ ap (λ (l : List (List (List ℕ))). l ++ (its ∷ later)) pending-on ∙ sym with-block

      -- it changes: the open spline ends
      module _ (e : eqb (motion_with s r) s.motion ≡ false) where
        on_none : goes_on s r ≡ []
        unfolding goes_on
        on_none = cond-f s.curve [] e

        pub come_other : to_come tol gs s (block r ∷ es) ≡ opened tol gs s ++ to_come tol gs (with_block gs s r) es
        come_other =
            come_block
            ∙ ap (λ (l : List (List (List ℕ))). l ++ (its ∷ later)) (pending-ends s (block r ∷ es) (ends-here s r es e))
            ∙ ap (λ (l : List (List (List ℕ))). opened tol gs s ++ l) (sym (with-block ∙ ap (λ (n : ℕ). take n spline ++ (its ∷ later)) (ap length on_none)))

    -- the block is no spline's
    module _ (f : is_spline (motion_with s r) ≡ false) where
      its_own : its ≡ own_rows tol gs s r
      unfolding its piece_of own_rows with_block
      its_own = cond-f _ _ f

      no-curve : (with_block gs s r).curve ≡ []
      unfolding with_block
      no-curve = cond-f _ [] f

      after-own : its ∷ later ≡ own_rows tol gs s r ∷ to_come tol gs (with_block gs s r) es
      unfolding later
      after-own = ap₂ (λ (a : List (List ℕ)) (b : List (List (List ℕ))). a ∷ b) its_own (sym (come_empty (with_block gs s r) es no-curve))

      pub come_own : (length s.curve ≡ 0) → to_come tol gs s (block r ∷ es) ≡ own_rows tol gs s r ∷ to_come tol gs (with_block gs s r) es
      unfolding pending
      come_own z =
          come_block
          ∙ ap (λ (n : ℕ). take n (spline_groups (spline_with tol gs s (s.curve ++ together s.motion (block r ∷ es)))) ++ (its ∷ later)) z
          ∙ after-own

      pub come_own-other : eqb (motion_with s r) s.motion ≡ false
          → to_come tol gs s (block r ∷ es) ≡ opened tol gs s ++ (own_rows tol gs s r ∷ to_come tol gs (with_block gs s r) es)
      come_own-other e =
          come_block
          ∙ ap (λ (l : List (List (List ℕ))). l ++ (its ∷ later)) (pending-ends s (block r ∷ es) (ends-here s r es e))
          ∙ ap (λ (l : List (List (List ℕ))). opened tol gs s ++ l) after-own
