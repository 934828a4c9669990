-- LAWS. The rows that a store holds after a block is put into it. Assumes nothing.
use Prim.Native.Nat.{ℕ, zero, suc, ◌+◌, ◌*◌, ◌<◌, ◌≤◌}
use Rattle.std.specs.Prelude.{◌≡◌, refl}
use Rattle.std.proofs.Common.{◌∙◌, subst, arith, suc-add, zero-add, le_of_suc-le-suc, not-suc-le-zero, drop_at, take-take}
use Rattle.std.proofs.Math.Path.{ap}
use mathlib.Core.List.{List, [], ◌∷◌, ◌++◌}
use Rattle.std.proofs.Math.ListN.{length, take, drop, length-drop}
use Rattle.std.proofs.Math.Seq.{take_at, length-take-le, take-append-le}
use Rattle.std.proofs.lemmas.List.{drop-append-le}
use Rattle.floats.specs.Lists.{upto, spliced}
use Rattle.floats.specs.Fill.{upto-below}
use Rattle.layout.specs.Layout.{row_words}
use Rattle.row_cells.specs.Row.{out_row}
use Rattle.row_cells.proofs.RowLaws.{length-out}
use Rattle.saved_state.specs.State.{held_row}

-- a run that ends within the first n elements is the same run of the whole list
run_take : (i c n : ℕ) (l : List ℕ) → i + c ≤ n → take c (drop i (take n l)) ≡ take c (drop i l)
run_take zero c n l h = take-take c n l (subst (λ (k : ℕ). k ≤ n) (zero-add c) h)
run_take (suc i) c zero l h = absurd (not-suc-le-zero (subst (λ (k : ℕ). k ≤ zero) (suc-add i c) h))
run_take (suc i) c (suc n) [] h = refl
run_take (suc i) c (suc n) (x ∷ xs) h = run_take i c n xs (le_of_suc-le-suc (subst (λ (k : ℕ). k ≤ suc n) (suc-add i c) h))

module _ (store r : List ℕ) (n : ℕ) (h : n * row_words ≤ length store) where
  -- the row put at place n is held there
  pub held_new : held_row (spliced store (n * row_words) (out_row r)) n ≡ out_row r
  unfolding spliced
  held_new =
      ap (take row_words) (drop_at (take (n * row_words) store) _ (n * row_words) (length-take-le (n * row_words) store h))
      ∙ take_at (out_row r) _ row_words (length-out r)

  -- and those before it stay
  pub held_old : (i : ℕ) → i < n → held_row (spliced store (n * row_words) (out_row r)) i ≡ held_row store i
  unfolding spliced
  held_old i l =
      let p : List ℕ = take (n * row_words) store in
      let q : List ℕ = out_row r ++ drop (n * row_words + length (out_row r)) store in
      let e : length p ≡ n * row_words = length-take-le (n * row_words) store h in
      ap (take row_words) (drop-append-le (i * row_words) p q (omega (arith, e)))
      ∙ take-append-le row_words (drop (i * row_words) p) q (omega (arith, e, length-drop (i * row_words) p))
      ∙ run_take (i * row_words) row_words (n * row_words) store (omega arith)

  pub held_after : upto (held_row (spliced store (n * row_words) (out_row r))) (suc n) ≡ upto (held_row store) n ++ (out_row r ∷ [])
  unfolding upto
  held_after = rw (upto-below (held_row (spliced store (n * row_words) (out_row r))) (held_row store) n held_old, held_new)
