-- LAWS. Each group of a sound sequence of events is as demand 3 asks. Assumes nothing.
use Prim.Native.Nat.{ℕ, ◌+◌, ◌≤◌, ◌<◌}
use Rattle.std.specs.Prelude.{◌≡◌, refl, Bool, true, false, ◌&&◌, get_or}
use Rattle.std.proofs.Common.{sym, ◌∙◌, arith}
use Rattle.std.proofs.Math.Path.{ap, subst}
use mathlib.Core.List.{List, [], ◌∷◌, ◌++◌, map, map-append}
use Rattle.std.proofs.Math.Option.{Option, none, some}
use Rattle.std.proofs.Math.ListN.{length, length-append, length-map}
use Rattle.std.proofs.Math.Dec.{eqb}
use Rattle.std.proofs.Math.Seq.{append_snoc}
use Rattle.floats.specs.Numbers.{num}
use Rattle.floats.specs.Lists.{member}
use Rattle.floats.specs.Fill.{at-upto}
use Rattle.layout.specs.Layout.{axis_codes, most_held}
use Rattle.motion.specs.Motion.{is_spline}
use Rattle.row_cells.specs.Bits.{has}
use Rattle.row_cells.specs.Row.{cell, present_of, out_row}
use Rattle.row_numbers.specs.RowNumbers.{within}
use Rattle.floats.specs.Truth.{by_bit, and_left, cond-t, cond-f}
use Rattle.row_check.specs.CheckLaws.{check-shape, out-check, check-cell-within}
use Rattle.spline_answer.specs.Words.{Spline, spline_groups, held_group, runs_of}
use Rattle.demand_calls.specs.Every.{Every, nil, more}
use Rattle.demand_calls.specs.Laws.{some_same, none-some, cond_both, every_append}
use Rattle.demand_calls.specs.Runs.{Event}
use Rattle.demand_groups.specs.Group.{Group}
use Rattle.demand_state.specs.Accepted.{Fine}
use Rattle.demand_standing.specs.Standing.{Standing, at_first, moved_by_block, moved_by_seed, motion_with, goes_on, with_block, with_seed, with_close, together}
use Rattle.demands.specs.ArcGroups.{own_shaped}
use Rattle.demands.specs.Pieces.{spline_with, piece_of, pieces_from}
use Rattle.demands.specs.Sound.{Sound, over, by-seed, by-block, by-close, together-fine}
use Rattle.demands.specs.SplineGroups.{held_shaped}
use Rattle.demand_groups.proofs.Shapes.{came_shaped}
use Rattle.demand_groups.specs.Written.{Grouped}
use Rattle.demand_standing.specs.Together.{last-point}

-- ---- what stands, of rows and numbers that no refusal is due for
pub record Ranged (gs : List ℕ) (s : Standing) : Type 0 where
  pub off : (k : ℕ) → member k gs ≡ false → s.place k ≡ none
  pub place : (k x : ℕ) → s.place k ≡ some x → within x ≡ true
  pub start : (k x : ℕ) → s.start k ≡ some x → within x ≡ true
  pub curve : Every Fine s.curve

pub ranged_first : (gs : List ℕ) → Ranged gs at_first
unfolding at_first
ranged_first gs = record { off = λ k m. refl; place = λ k x e. absurd (none-some e); start = λ k x e. absurd (none-some e); curve = nil }

module _ (gs : List ℕ) (small : (k : ℕ) → member k gs ≡ true → k < axis_codes) where
  ranged_block : (s : Standing) (r : List ℕ) → Fine r → Ranged gs s → Ranged gs (with_block gs s r)
  unfolding with_block moved_by_block goes_on
  ranged_block s r f q = record {
    off = λ k m. cond-f _ (s.place k) (ap (λ (b : Bool). b && has (present_of r) k) m) ∙ q.off k m;
    place = λ k x e. by_bit (member k gs && has (present_of r) k)
        (λ b. let h : k < axis_codes = small k (and_left (member k gs) (has (present_of r) k) b) in
        check-cell-within r f k x (omega arith) (sym (cond-t (cell r k) (s.place k) b) ∙ e))
        (λ b. q.place k x (sym (cond-f (cell r k) (s.place k) b) ∙ e));
    start = λ k x. cond_both (λ (g : ℕ → Option ℕ). g k ≡ some x → within x ≡ true) (eqb (length (goes_on s r)) 0) (q.place k x) (q.start k x);
    curve = cond_both (Every Fine) (is_spline (motion_with s r))
        (every_append (cond_both (Every Fine) (eqb (motion_with s r) s.motion) q.curve nil) (more f nil)) nil;
  }

  ranged_seed : (s : Standing) (c x : ℕ) → within x ≡ true → Ranged gs s → Ranged gs (with_seed gs s c x)
  unfolding with_seed moved_by_seed
  ranged_seed s c x w q = record {
    off = λ k m. cond-f _ (s.place k) (ap (λ (b : Bool). b && eqb c k) m) ∙ q.off k m;
    place = λ k v e. by_bit (member k gs && eqb c k)
        (λ b. subst (λ (i : ℕ). within i ≡ true) (some_same (sym (cond-t (some x) (s.place k) b) ∙ e)) w)
        (λ b. q.place k v (sym (cond-f (some x) (s.place k) b) ∙ e));
    start = q.start;
    curve = q.curve;
  }

  ranged_close : (s : Standing) → Ranged gs s → Ranged gs (with_close s)
  unfolding with_close
  ranged_close s q = record { off = q.off; place = q.place; start = q.start; curve = nil }

-- ---- a row as the store holds it
out-fine : (r : List ℕ) → Fine r → Fine (out_row r)
out-fine r f = out-check r (check-shape r f) ∙ f

outs-fine : (rs : List (List ℕ)) → Every Fine rs → Every Fine (map out_row rs)
outs-fine [] nil = nil
outs-fine (r ∷ rs) (more f fs) = more (out-fine r f) (outs-fine rs fs)

-- ---- one piece
module _ (tol : ℕ) (gs : List ℕ) (small : (k : ℕ) → member k gs ≡ true → k < axis_codes) where
  module _ (s : Standing) (r : List ℕ) (es : List Event) (q : Ranged gs s) (f : Fine r) where
    own_group : is_spline (with_block gs s r).motion ≡ false → Grouped gs (piece_of tol gs s r es)
    unfolding piece_of
    own_group n =
        subst (Group gs r _) (sym (cond-f _ _ n)) (own_shaped gs r f small _ s.place q.off (num tol) (with_block gs s r).motion n)

    -- a block of a spline, with the blocks of it that come after
    module _ (y : is_spline (with_block gs s r).motion ≡ true) (rest : Every Fine (together (with_block gs s r).motion es))
        (few : length (with_block gs s r).curve + length (together (with_block gs s r).motion es) ≤ most_held) where
      now : Standing
      now = with_block gs s r

      later : List (List ℕ)
      later = together (with_block gs s r).motion es

      whole : Spline
      whole = spline_with tol gs now (now.curve ++ later)

      curve-is : (with_block gs s r).curve ≡ goes_on s r ++ (r ∷ [])
      unfolding with_block
      curve-is = cond-t _ [] y

      blocks_are : whole.blocks ≡ map out_row (goes_on s r) ++ (out_row r ∷ map out_row later)
      unfolding whole spline_with now
      blocks_are =
          ap (λ (l : List (List ℕ)). map out_row (l ++ later)) curve-is
          ∙ ap (map out_row) (append_snoc (goes_on s r) r later)
          ∙ map-append out_row (goes_on s r) (r ∷ later)

      all-fine : Every Fine whole.blocks
      unfolding whole spline_with now later
      all-fine = outs-fine (now.curve ++ later) (every_append (ranged_block gs small s r f q).curve rest)

      few-blocks : length whole.blocks ≤ most_held
      unfolding whole spline_with now later
      few-blocks = omega (arith, length-map (now.curve ++ later) out_row, length-append now.curve later)

      group_is : get_or (spline_groups whole) (length (goes_on s r)) [] ≡ held_group whole (runs_of whole) (length (map out_row (goes_on s r)))
      unfolding spline_groups
      group_is =
          at-upto (held_group whole (runs_of whole)) (length whole.blocks) (length (goes_on s r)) []
          (omega (arith, ap length blocks_are, length-append (map out_row (goes_on s r)) (out_row r ∷ map out_row later), length-map (goes_on s r) out_row))
          ∙ ap (held_group whole (runs_of whole)) (sym (length-map (goes_on s r) out_row))

      spline_group : Grouped gs (piece_of tol gs s r es)
      unfolding piece_of whole spline_with now later
      spline_group =
          subst (Group gs r _) (sym (cond-t _ _ y ∙ group_is))
          (came_shaped gs r
          (held_shaped whole (map out_row (goes_on s r)) (out_row r) (map out_row later) blocks_are all-fine (ranged_block gs small s r f q).start small
          few-blocks
          (last-point gs (with_block gs s r).motion r (together (with_block gs s r).motion es) f rest)))

  -- every piece
  pub each_group : {s : Standing} {es : List Event} → Ranged gs s → Sound gs s es → Every (Grouped gs) (pieces_from tol gs s es)
  unfolding pieces_from
  each_group q over = nil
  each_group {s} q (by-seed c x w rest) = each_group (ranged_seed gs small s c x w q) rest
  each_group {s} q (by-block {es = es} r f few rest) =
      more
      (by_bit (is_spline (with_block gs s r).motion)
      (λ y. spline_group s r es q f y (together-fine (with_block gs s r).motion rest) (few y))
      (λ n. own_group s r es q f n))
      (each_group (ranged_block gs small s r f q) rest)
  each_group {s} q (by-close rest) = each_group (ranged_close gs small s q) rest
