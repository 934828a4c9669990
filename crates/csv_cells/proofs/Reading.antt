-- What the steps of the reader do. Assumes nothing.
use Rattle.std.specs.Prelude.{Option as Read, Some, None, unwrap_or, is_some}
use Rattle.std.specs.Int.{from_bool}
use Rattle.std.specs.Prelude.{◌==◌, cond, not, nat_lt}
use Rattle.std.proofs.Common.{take_all}
use Rattle.std.specs.List.{position, position_or_len}
use Prim.Native.Nat.{ℕ, suc, ◌+◌, ◌-◌, ◌*◌, ◌%◌, ◌^◌, ◌≤◌, ◌<◌, zero-le}
use mathlib.Core.Path.{◌≡◌, refl, sym, ap, ◌∙◌, subst}
use mathlib.Core.Bool.{Bool, true, false, ◌&&◌, and-false}
use mathlib.Core.List.{List, [], ◌∷◌}
use mathlib.Core.Option.{Option, none, some}
use native.Mathlib.Omega.{arith}
use native.Mathlib.Numerals.{add-one, one-add}
use native.Mathlib.Nat.{mod-eq_of_lt, lt_of_le_of_lt, mul-le-mul, le_trans, pow-le-pow_right}
use lib.Dec.{eqb, lit<, lit≤}
use lib.ListN.{length, take, drop, get_or, set, length-set, length-drop}
use lib.Ieee.{Float}
use borrow.Author.Tests.{eq-eqb, ne_eqb, ltb-false}
use Rattle.floats.specs.Numbers.{bits}
use Rattle.layout.specs.Layout.{r_cells, c_pl, cells, r_present}
use Rattle.floats.specs.Lists.{all}
use Rattle.floats.specs.Truth.{and_i, and_f, all-fails, all_more}
use Rattle.csv_fields.specs.Read.{number}
use Rattle.csv_cells.specs.declared.Taken.{Taken}
use Rattle.csv_line.specs.LineText.{comma, code_at, parted}
use Rattle.csv_line.specs.CodeLaws.{code_below}
use Rattle.csv_cells.specs.Parts.{reach-length, rest_at, rest-within, rest-behind, rest-step, Rest, rest_of, rest-none}
use Rattle.csv_cells.specs.Cells.{given, cell_ok, cells_ok}
use Rattle.csv_cells.specs.Taking.{reach, bit_of, word_of, as_cell, CellIs, field_at, Took, placed, masked, CellsRead}

-- ---- `field_end`: a comma is looked for in what stands from `at` on
passes : (t : List ℕ) → position_or_len (λ b. b == comma) t ≡ reach t
unfolding reach
passes [] = refl
passes (c ∷ t) = go (eqb c comma) (passes t)
  where
    go : (b : Bool) → position_or_len (λ b. b == comma) t ≡ reach t → cond (not b) (1 + position_or_len (λ b. b == comma) t) 0 ≡ cond b 0 (suc (reach t))
    go true e = refl
    go false e = ap (λ (n : ℕ). 1 + n) e ∙ one-add (reach t)

pub reached : (t : List ℕ) (at : ℕ) (o : Read ℕ) → o ≡ position (λ b. b == comma) (take (length t - at) (drop at t))
    → unwrap_or o (length (take (length t - at) (drop at t))) ≡ reach (drop at t)
reached t at o e = ap (λ (x : Read ℕ). unwrap_or x (length l)) e ∙ go (nat_lt (position_or_len p l) (length l)) refl ∙ ends
  where
    p : ℕ → Bool
    p = λ b. b == comma

    l : List ℕ
    l = take (length t - at) (drop at t)

    ends : position_or_len p l ≡ reach (drop at t)
    ends = passes l ∙ ap reach (take_all (length t - at) (drop at t) (native.Mathlib.Nat.le_of_eq (length-drop at t)))

    few : position_or_len p l ≤ length l
    few = subst (λ (n : ℕ). n ≤ length l) (sym (passes l)) (reach-length l)

    go : (b : Bool) → nat_lt (position_or_len p l) (length l) ≡ b → unwrap_or (cond b (Some (position_or_len p l)) None) (length l) ≡ position_or_len p l
    go true h = refl
    go false h = let k : length l ≤ position_or_len p l = ltb-false (position_or_len p l) (length l) h in let f = few in omega arith

-- ---- `at_code`
pub one_shifted : (b c : ℕ) → b ≤ 1 → c < cells → b * 2 ^ c % 2 ^ 64 ≡ b * 2 ^ c
one_shifted b c h l =
    mod-eq_of_lt (lt_of_le_of_lt (mul-le-mul h (pow-le-pow_right {n = 2} (lit< tt) {i = c} {j = c_pl} (omega arith))) (lit< {m = 1 * 2 ^ c_pl} {n = 2 ^ 64} tt))

-- ---- `read_cell`
module _ (f : List ℕ) where
  pub cell-absent : length f ≡ 0 → CellIs f (Some None)
  unfolding given cell_ok
  cell-absent e = (rw (eq-eqb (length f) 0 e), rw (eq-eqb (length f) 0 e))

  pub cell-given : (length f ≡ 0 → ⊥) → (x : Float) → Some x ≡ number f → (w : ℕ) → w ≡ bits x → CellIs f (Some (Some w))
  unfolding given cell_ok
  cell-given n x e w v = (rw (ne_eqb (length f) 0 n, ← e), rw (ne_eqb (length f) 0 n, ← e) (ap some v))

  pub cell_bad : (length f ≡ 0 → ⊥) → None ≡ number f → cell_ok f ≡ false
  unfolding cell_ok
  cell_bad n e = rw (ne_eqb (length f) 0 n, ← e)

pub bit-one : (o : Option ℕ) → bit_of o ≤ 1
bit-one none = zero-le
bit-one (some w) = lit≤ tt

-- ---- `take_cell`
pub word-is : (c : Read ℕ) → unwrap_or c 0 ≡ word_of (as_cell c)
word-is None = refl
word-is (Some w) = refl

pub bit-is : (c : Read ℕ) → from_bool (is_some c) ≡ bit_of (as_cell c)
bit-is None = refl
bit-is (Some w) = refl

pub took : (t : List ℕ) (at i mask : ℕ) (row : List ℕ) (end code b w : ℕ) (cell : Read ℕ) → end ≡ at + reach (drop at t)
    → CellIs (take (end - at) (drop at t)) (Some cell)
    → code ≡ code_at i → w ≡ unwrap_or cell 0 → b ≡ from_bool (is_some cell) * 2 ^ code
    → Took t at i mask row (set row (r_cells + code) w) (record { next = end + 1; mask = mask + b })
took t at i mask row end code b w cell e is k u d =
    let n : end - at ≡ reach (drop at t) = omega arith in
    let c : CellIs (field_at t at) (Some cell) = subst (λ (z : ℕ). CellIs (take z (drop at t)) (Some cell)) n is in
    record {
      good = c.0;
      after = ap (λ (z : ℕ). z + 1) e;
      bits =
          ap (λ (z : ℕ). mask + z)
          (d ∙ ap (λ (z : ℕ). z * 2 ^ code) (bit-is cell ∙ ap bit_of c.1) ∙ ap (λ (z : ℕ). bit_of (given (field_at t at)) * 2 ^ z) k);
      words = ap (λ (z : ℕ). set row (r_cells + z) w) k ∙ ap (set row (r_cells + code_at i)) (u ∙ word-is cell ∙ ap word_of c.1);
    }

pub took_not : (t : List ℕ) (at end : ℕ) → end ≡ at + reach (drop at t) → cell_ok (take (end - at) (drop at t)) ≡ false → cell_ok (field_at t at) ≡ false
took_not t at end e h = let n : end - at ≡ reach (drop at t) = omega arith in subst (λ (z : ℕ). cell_ok (take z (drop at t)) ≡ false) n h

pub end-within : (t : List ℕ) (at end : ℕ) → at ≤ length t → end ≡ at + reach (drop at t) → (at ≤ end) × (end ≤ length t)
end-within t at end h e =
    let m : reach (drop at t) ≤ length (drop at t) = reach-length (drop at t) in
    let n : length (drop at t) ≡ length t - at = length-drop at t in
    (omega arith, omega arith)

pub bit-low : (i code b : ℕ) → i < 11 → code ≡ code_at i → b ≤ 1 → b * 2 ^ code ≤ 2 ^ c_pl
bit-low i code b h e l =
    let s : code_at i < c_pl = code_below i h in
    le_trans (mul-le-mul l (pow-le-pow_right {n = 2} (lit< tt) {i = code} {j = c_pl} (omega arith))) (lit≤ {m = 1 * 2 ^ c_pl} {n = 2 ^ c_pl} tt)

-- ---- `read_cells`: i cells of the line t were taken into row
pub record Taking (t row₀ : List ℕ) (at mask i : ℕ) (row : List ℕ) : Type 0 where
  pub few : i ≤ 11
  pub rest : drop i (parted t) ≡ rest_at t at
  pub enough : i ≤ length (parted t)
  pub ok : all i (λ (j : ℕ). cell_ok (get_or (parted t) j [])) ≡ true
  pub words : row ≡ placed (parted t) row₀ i
  pub bits : mask ≡ masked (parted t) i
  pub low : mask ≤ i * 2 ^ c_pl
  pub same : length row ≡ length row₀

pub takes_none : (t row : List ℕ) → Taking t row 0 0 0 row
unfolding placed masked all
takes_none t row =
    record { few = zero-le; rest = sym (rest-within t 0 zero-le); enough = zero-le; ok = refl; words = refl; bits = refl; low = zero-le; same = refl }

pub takes-more : (t row₀ : List ℕ) (at mask i : ℕ) (row row' : List ℕ) (r : Taken) → Taking t row₀ at mask i row → at ≤ length t → i < 11
    → Took t at i mask row row' r
    → Taking t row₀ r.next r.mask (i + 1) row'
unfolding placed masked
takes-more t row₀ at mask i row row' r s h l k =
    let fs = parted t in
    let w : Rest fs i [] (field_at t at) (rest_at t (at + reach (drop at t) + 1)) =
    rest_of fs i [] (field_at t at) (rest_at t (at + reach (drop at t) + 1)) (s.rest ∙ rest-step t at h) in
    let bound : bit_of (given (field_at t at)) * 2 ^ code_at i ≤ 2 ^ c_pl =
    bit-low i (code_at i) (bit_of (given (field_at t at))) l refl (bit-one (given (field_at t at))) in
    record {
      few = omega arith;
      rest = ap (λ (n : ℕ). drop n fs) (add-one i) ∙ w.further ∙ ap (rest_at t) (sym k.after);
      enough = omega (arith, w.inside);
      ok =
          all_more i (λ (j : ℕ). cell_ok (get_or fs j [])) s.ok (ap cell_ok w.here ∙ k.good);
      words =
          k.words
          ∙ ap (λ (l : List ℕ). set l (r_cells + code_at i) (word_of (given (field_at t at)))) s.words
          ∙ ap (λ (f : List ℕ). set (placed fs row₀ i) (r_cells + code_at i) (word_of (given f))) (sym w.here)
          ∙ ap (placed fs row₀) (sym (add-one i));
      bits =
          k.bits
          ∙ ap (λ (z : ℕ). z + bit_of (given (field_at t at)) * 2 ^ code_at i) s.bits
          ∙ ap (λ (f : List ℕ). masked fs i + bit_of (given f) * 2 ^ code_at i) (sym w.here)
          ∙ ap (masked fs) (sym (add-one i));
      low = omega (arith, k.bits, s.low);
      same = ap length k.words ∙ length-set row (r_cells + code_at i) (word_of (given (field_at t at))) ∙ s.same;
    }

module _ (t row₀ : List ℕ) (at mask i : ℕ) (row : List ℕ) (s : Taking t row₀ at mask i row) where
  wrong : (row' : List ℕ) → cells_ok (parted t) ≡ false → CellsRead (parted t) row₀ row' false
  wrong row' e = record { good = sym e; words = λ (f : false ≡ true). absurd (mathlib.Core.Bool.false≢true f) }

  -- too few fields, a field that is no cell, too many
  pub ends-short : length t < at → i < 11 → CellsRead (parted t) row₀ row false
  unfolding cells_ok
  ends-short h l =
      let n : length (parted t) ≤ i = rest-none (parted t) i (s.rest ∙ rest-behind t at h) in
      wrong row (and_f _ (ne_eqb (length (parted t)) 11 (λ (e : length (parted t) ≡ 11). omega arith)))

  pub ends_bad : (row' : List ℕ) → at ≤ length t → i < 11 → cell_ok (field_at t at) ≡ false → CellsRead (parted t) row₀ row' false
  unfolding cells_ok
  ends_bad row' h l g =
      let fs = parted t in
      let w : Rest fs i [] (field_at t at) (rest_at t (at + reach (drop at t) + 1)) =
      rest_of fs i [] (field_at t at) (rest_at t (at + reach (drop at t) + 1)) (s.rest ∙ rest-step t at h) in
      let bad : cell_ok (get_or fs i []) ≡ false = ap cell_ok w.here ∙ g in
      wrong row' (ap (λ (b : Bool). eqb (length fs) 11 && b) (all-fails 11 (λ (j : ℕ). cell_ok (get_or fs j [])) i l bad) ∙ and-false (eqb (length fs) 11))

  pub ends-long : 11 ≤ i → at ≤ length t → CellsRead (parted t) row₀ row false
  unfolding cells_ok
  ends-long l h =
      let fs = parted t in
      let w : Rest fs i [] (field_at t at) (rest_at t (at + reach (drop at t) + 1)) =
      rest_of fs i [] (field_at t at) (rest_at t (at + reach (drop at t) + 1)) (s.rest ∙ rest-step t at h) in
      wrong row (and_f _ (ne_eqb (length fs) 11 (λ (e : length fs ≡ 11). omega (arith, w.inside))))

  pub ends_well : 11 ≤ i → length t < at → CellsRead (parted t) row₀ (set row r_present mask) true
  unfolding cells_ok
  ends_well l h =
      let fs = parted t in
      let n : length fs ≤ i = rest-none fs i (s.rest ∙ rest-behind t at h) in
      let e : i ≡ 11 = omega (arith, s.few) in
      let f : length fs ≡ 11 = omega (arith, s.enough) in
      record {
        good = sym (and_i (eq-eqb (length fs) 11 f) (subst (λ (z : ℕ). all z (λ (j : ℕ). cell_ok (get_or fs j [])) ≡ true) e s.ok));
        words =
            λ _. ap (λ (l : List ℕ). set l r_present mask) s.words
            ∙ ap (set (placed fs row₀ i) r_present) s.bits
            ∙ ap (λ (z : ℕ). set (placed fs row₀ z) r_present (masked fs z)) e;
      }
