-- LAWS. The groups of one row and of made rows, and the row that goes out unchanged. Assumes nothing.
use Rattle.std.specs.Prelude.{ℕ, ◌+◌, ◌-◌, ◌≤◌, ◌<◌, ◌≡◌, refl, Bool, true, false, cond, List, [], ◌∷◌, length, leb, Float}
use Rattle.std.proofs.Common.{sym, ◌∙◌, subst, ⊎_elim, arith}
use Rattle.std.proofs.Math.Path.{ap}
use Rattle.std.proofs.Math.Option.{Option, none, some, get_or}
use borrow.Author.Tests.{le-leb}
use Rattle.std.specs.Float.Ieee.{eq, lt}
use Rattle.floats.specs.Numbers.{num, f1, 1e-4}
use Rattle.floats.specs.Lists.{upto, member, opt, is_some}
use Rattle.floats.specs.Fill.{length-upto, at-upto, lt_or_le}
use Rattle.layout.specs.Layout.{cells, last_code, c_pw}
use Rattle.row_cells.specs.Bits.{has, mask_sum}
use Rattle.row_cells.specs.Row.{cell, number, line_of, plane_of, mark_of, carry_of, present_of, row_of, out_row}
use Rattle.spline_points.specs.Points.{weight_of}
use Rattle.row_made.specs.Made.{rides, with_riders, made_row, made_cell}
use Rattle.row_numbers.specs.RowNumbers.{within}
use Rattle.row_check.specs.Check.{row_check}
use Rattle.floats.specs.Truth.{by_bit, cond-t, cond-f}
use Rattle.row_cells.specs.Masks.{mask_lt, has-past}
use Rattle.row_cells.proofs.RowLaws.{length-out, out-mark, row-present, out_line, out-plane, out-carry, out-cell}
use Rattle.row_made.specs.MadeLaws.{made-is, length-made, made-cell}
use Rattle.row_check.specs.CheckLaws.{check-cell-within}
use Rattle.demand_calls.specs.Laws.{none-some}
use Rattle.demand_groups.specs.InRange.{shown-same}
use Rattle.demand_groups.specs.Group.{Formed, Bare, Carries, Shows, Group, row_at, last_row}

module _ {gs r : List ℕ} {last : Bool} where
  -- a group of one row
  pub one_shaped : (row : List ℕ) → Formed row → line_of row ≡ line_of r → Carries gs r row
      → ((last ≡ true → eq (weight_of r) f1 ≡ true) → Shows r row) → Group gs r last (row ∷ [])
  one_shaped row f e c ends = record {
    filled = omega arith;
    formed = λ j h. subst (λ (i : ℕ). Formed (row_at (row ∷ []) i)) (none-else j h) f;
    lines = λ j h. subst (λ (i : ℕ). line_of (row_at (row ∷ []) i) ≡ line_of r) (none-else j h) e;
    carries = c;
    bare = λ j p h. absurd (omega arith);
    marked = λ j h. absurd (omega arith);
    ends = λ u. ends;
  }
    where
      none-else : (j : ℕ) → j < 1 → 0 ≡ j
      none-else j h = omega arith

  -- a group of n rows, by its rows
  pub upto_shaped : (row : ℕ → List ℕ) (n : ℕ) → 0 < n
      → ((i : ℕ) → i < n → Formed (row i))
      → ((i : ℕ) → i < n → line_of (row i) ≡ line_of r)
      → Carries gs r (row 0)
      → ((i : ℕ) → 0 < i → i < n → Bare gs (row i))
      → ((i : ℕ) → i + 1 < n → mark_of (row i) ≡ 1)
      → (mark_of (row (n - 1)) ≡ 0 → (last ≡ true → eq (weight_of r) f1 ≡ true) → Shows r (row (n - 1))) → Group gs r last (upto row n)
  upto_shaped row n p formed lines c bare marked ends =
      let l : length (upto row n) ≡ n = length-upto row n in
      let z : row_at (upto row n) (n - 1) ≡ row (n - 1) = at-upto row n (n - 1) [] (omega arith) in
      let y : last_row (upto row n) ≡ row (n - 1) = ap (λ (i : ℕ). row_at (upto row n) (i - 1)) l ∙ z in
      record {
        filled = omega arith;
        formed = λ j h. subst (λ (x : List ℕ). Formed x) (sym (at-upto row n j [] (omega arith))) (formed j (omega arith));
        lines = λ j h. ap line_of (at-upto row n j [] (omega arith)) ∙ lines j (omega arith);
        carries = subst (λ (x : List ℕ). Carries gs r x) (sym (at-upto row n 0 [] p)) c;
        bare = λ j q h. subst (λ (x : List ℕ). Bare gs x) (sym (at-upto row n j [] (omega arith))) (bare j q (omega arith));
        marked = λ j h. ap mark_of (at-upto row n j [] (omega arith)) ∙ marked j (omega arith);
        ends = λ u a k v w m pv cw. ends (ap mark_of (sym y) ∙ u) a k v w m pv (ap (λ (x : List ℕ). cell x k) (sym y) ∙ cw);
      }

-- ---- a row that goes out unchanged is formed, and a made row
out-formed : (r : List ℕ) → Formed (out_row r)
out-formed r = record { wide = length-out r; mark = rw (out-mark r) (omega arith) }

mark-small : (b : Bool) → cond b 1 0 ≤ 1
mark-small true = omega arith
mark-small false = omega arith

-- ---- a made row
module _ (gs r : List ℕ) (first : Bool) (motion : ℕ) (marked : Bool) (f : ℕ → Option ℕ) where
  pub made-line : line_of (made_row gs r first motion marked f) ≡ line_of r
  unfolding row_of
  made-line = ap line_of (made-is gs r first motion marked f)

  pub made-mark : mark_of (made_row gs r first motion marked f) ≡ cond marked 1 0
  unfolding row_of
  made-mark = ap mark_of (made-is gs r first motion marked f)

  pub made-formed : Formed (made_row gs r first motion marked f)
  made-formed = record { wide = length-made gs r first motion marked f; mark = rw made-mark (mark-small marked) }

  -- no cell past the last
  made-past : (k : ℕ) → cells ≤ k → cell (made_row gs r first motion marked f) k ≡ none
  unfolding cell
  made-past k l =
      let e : present_of (made_row gs r first motion marked f) ≡ mask_sum (λ (k : ℕ). is_some (made_cell gs r first f k)) cells =
      ap present_of (made-is gs r first motion marked f)
      ∙ row-present (line_of r) (cond first motion 0) (cond first (plane_of r) 0) (cond marked 1 0) (cond first (carry_of r) 0) (made_cell gs r first f) cells
      in
      cond-f _ none (ap (λ (p : ℕ). has p k) e ∙ has-past (mask_sum (λ (k : ℕ). is_some (made_cell gs r first f k)) cells) cells k (mask_lt _ cells) l)

  -- a listed axis shows its own number
  made-listed : (k : ℕ) → k < cells → member k gs ≡ true → cell (made_row gs r first motion marked f) k ≡ f k
  unfolding made_cell with_riders rides
  made-listed k h m =
      made-cell gs r first motion marked f k h
      ∙ by_bit first
      (λ a. rw (a, m) (by_bit (leb k last_code) (λ b. rw b) (λ b. rw b)))
      (λ a. rw a)

pub made-bare : (gs r : List ℕ) (motion : ℕ) (marked : Bool) (f : ℕ → Option ℕ) → ((k : ℕ) → member k gs ≡ false → f k ≡ none)
    → Bare gs (made_row gs r false motion marked f)
unfolding made_row row_of made_cell
made-bare gs r motion marked f off = record {
  motion = refl;
  plane = refl;
  carry = refl;
  cells = λ k m. ⊎_elim
      (λ (h : k < cells). made-cell gs r false motion marked f k h ∙ off k m)
      (λ (h : cells ≤ k). made-past gs r false motion marked f k h)
      (lt_or_le k cells);
}

-- what rides on a first row
pub made-carries : (gs r : List ℕ) (motion : ℕ) (marked : Bool) (f : ℕ → Option ℕ) → Carries gs r (made_row gs r true motion marked f)
unfolding made_row row_of made_cell with_riders rides
made-carries gs r motion marked f = record {
  plane = refl;
  carry = refl;
  cells = λ k h m. made-cell gs r true motion marked f k (omega arith) ∙ rw (le-leb k last_code h, m);
}

out-carries : (gs r : List ℕ) → Carries gs r (out_row r)
out-carries gs r = record { plane = out-plane r; carry = out-carry r; cells = λ k h m. out-cell r k (omega arith) }

-- ---- a row of numbers that refusal 3 lets pass
module _ (gs r : List ℕ) (fine : row_check r ≡ 0) where
  pub programmed : (k v : ℕ) → k ≤ last_code → cell r k ≡ some v → within v ≡ true
  programmed k v h e = check-cell-within r fine k v (omega arith) e

  pub same_number : Shows r r
  same_number k v w h e f = let q : w ≡ v = cc in ap (λ (x : ℕ). eq (num x) (num v)) q ∙ shown-same v (programmed k v h e)

  -- it goes out unchanged
  pub out_shaped : {last : Bool} → Group gs r last (out_row r ∷ [])
  out_shaped =
      one_shaped (out_row r) (out-formed r) (out_line r) (out-carries gs r) (λ a k v w h pv cw. same_number k v w h pv (sym (out-cell r k (omega arith)) ∙ cw))

  -- a made row shows what was programmed, if its listed axes do: the others ride on a first row, and are on no other
  module _ (first : Bool) (motion : ℕ) (marked : Bool) (f : ℕ → Option ℕ) (off : (k : ℕ) → member k gs ≡ false → f k ≡ none) where
    unlisted : (k : ℕ) → k ≤ last_code → member k gs ≡ false → made_cell gs r first f k ≡ cond first (cell r k) none
    unfolding made_cell with_riders rides
    unlisted k h m =
        by_bit first
        (λ a. rw (a, m, le-leb k last_code h))
        (λ a. rw a (off k m))

    pub made-shows : ((k v w : ℕ) → member k gs ≡ true → cell r k ≡ some v → f k ≡ some w → eq (num w) (num v) ≡ true)
        → Shows r (made_row gs r first motion marked f)
    made-shows listed k v w h pv cw =
        by_bit (member k gs)
        (λ m. listed k v w m pv (sym (made-listed gs r first motion marked f k (omega arith) m) ∙ cw))
        (λ m. let q : cond first (cell r k) none ≡ some w = sym (made-cell gs r first motion marked f k (omega arith) ∙ unlisted k h m) ∙ cw in
        by_bit first
        (λ b. same_number k v w h pv (sym (cond-t (cell r k) none b) ∙ q))
        (λ b. absurd (none-some (sym (cond-f (cell r k) none b) ∙ q))))

-- ---- a row as the store holds it
weight_out : (r : List ℕ) → weight_of (out_row r) ≡ weight_of r
unfolding weight_of number
weight_out r = ap (λ (o : Option ℕ). let w : Float = get_or (opt num o) f1 in cond (lt w 1e-4) 1e-4 w) (out-cell r c_pw (omega arith))

-- the group of the row that came, by that of the row that the store holds
pub came_shaped : (gs r : List ℕ) {last : Bool} {g : List (List ℕ)} → Group gs (out_row r) last g → Group gs r last g
came_shaped gs r h = record {
  filled = h.filled;
  formed = h.formed;
  lines = λ j l. h.lines j l ∙ out_line r;
  carries = record {
    plane = h.carries.plane ∙ out-plane r;
    carry = h.carries.carry ∙ out-carry r;
    cells = λ k l m. h.carries.cells k l m ∙ out-cell r k (omega arith);
  };
  bare = h.bare;
  marked = h.marked;
  ends = λ u a k v w l pv cw. h.ends u (λ z. ap (λ (x : Float). eq x f1) (weight_out r) ∙ a z) k v w l (out-cell r k (omega arith) ∙ pv) cw;
}
