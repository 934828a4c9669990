-- What the steps of reading a line of tries do. Assumes nothing.
use Rattle.std.specs.Prelude.{Some, None}
use Prim.Native.Nat.{ℕ, ◌+◌, ◌≤◌, ◌<◌}
use mathlib.Core.Path.{◌≡◌, refl, sym, ap, ◌∙◌, subst}
use mathlib.Core.Bool.{Bool, true, false, ◌&&◌, false≢true}
use mathlib.Core.List.{List}
use native.Mathlib.Omega.{arith}
use lib.Dec.{eqb, ltb}
use lib.ListN.{length, drop, set}
use borrow.Author.Tests.{eq-eqb, ne_eqb, ltb-true, ltb-false}
use Rattle.floats.specs.Lists.{upto, all}
use Rattle.floats.specs.Fill.{Filling, filling-none, filling-more, filled-all}
use Rattle.floats.specs.Truth.{by_bit, and_f, and_i, all_more, all-fails}
use Rattle.csv_line.specs.LineText.{parted}
use Rattle.csv_cells.specs.Taking.{reach}
use Rattle.csv_cells.specs.Parts.{rest-behind, rest-none}
use Rattle.night_args.specs.Fields.{FieldFrom, field_is}
use Rattle.night_args.specs.FieldLaws.{rest-next, from-none, from_more, field_is_lem}
use Rattle.night_columns.specs.Columns.{columns}
use Rattle.night_columns.specs.Read.{column_of, is_whole, value_of}
use Rattle.night_table.specs.Back.{read_at, is_try, values_of}
use Rattle.night_table.specs.Lines.{Taken}

-- ---- a line: the first k columns were read
abbrev good : List ℕ → ℕ → Bool
good t k = is_whole (read_at (parted t) k)

abbrev value : List ℕ → ℕ → ℕ
value t k = value_of (read_at (parted t) k)

pub record Reading (t was : List ℕ) (at k : ℕ) (numbers : List ℕ) : Type 0 where
  pub here : FieldFrom t k at
  pub fine : all k (good t) ≡ true
  pub filling : Filling (value t) k was numbers
  pub inside : k ≤ length (parted t)
  pub few : k ≤ columns

pub reads_none : (t was : List ℕ) → Reading t was 0 0 was
unfolding all
reads_none t was = record { here = from-none t; fine = refl; filling = filling-none; inside = omega arith; few = omega arith }

pub reads_more : {t was numbers : List ℕ} {at k end v : ℕ} → Reading t was at k numbers → length was ≡ columns → k < columns → at ≤ length t
    → end ≡ at + reach (drop at t) → Some v ≡ column_of (field_is t at end) k
    → Reading t was (end + 1) (k + 1) (set numbers k v)
reads_more {t} {was} {numbers} {at} {k} {end} {v} c l h w e g =
    let field : read_at (parted t) k ≡ Some v = ap (λ (f : List ℕ). column_of f k) (field_is_lem t at end k c.here.rest w e) ∙ sym g in
    record {
      here = from_more c.here w e;
      fine = all_more k (good t) c.fine (ap is_whole field);
      filling = filling-more c.filling (omega arith) (sym (ap value_of field));
      inside = let i = (rest-next t at k c.here.rest w).inside in omega (arith, i);
      few = omega arith;
    }

right_false : (a : Bool) {b : Bool} → b ≡ false → (a && b) ≡ false
right_false true e = e
right_false false e = refl

-- a line that is none
no-try : {t numbers : List ℕ} → is_try t ≡ false → Taken t numbers false
no-try e = record { good = sym e; values = λ h. absurd (false≢true h) }

pub reads_bad : {t was numbers numbers' : List ℕ} {at k end : ℕ} → Reading t was at k numbers → k < columns → at ≤ length t → end ≡ at + reach (drop at t)
    → None ≡ column_of (field_is t at end) k
    → Taken t numbers' false
unfolding is_try
reads_bad {t} {was} {numbers} {numbers'} {at} {k} {end} c h w e g =
    no-try (right_false (eqb (length (parted t)) columns) (all-fails columns (good t) k h
    (ap is_whole (ap (λ (f : List ℕ). column_of f k) (field_is_lem t at end k c.here.rest w e) ∙ sym g))))

pub reads_short : {t was numbers numbers' : List ℕ} {at k : ℕ} → Reading t was at k numbers → k < columns → length t < at → Taken t numbers' false
unfolding is_try
reads_short {t} {was} {numbers} {numbers'} {at} {k} c h w =
    let n : length (parted t) ≤ k = rest-none (parted t) k (sym c.here.rest ∙ rest-behind t at w) in
    no-try (and_f _ (ne_eqb (length (parted t)) columns (λ (z : length (parted t) ≡ columns). omega arith)))

reads_long : {t was numbers numbers' : List ℕ} {at k : ℕ} → Reading t was at k numbers → k ≡ columns → at ≤ length t → Taken t numbers' false
unfolding is_try
reads_long {t} {was} {numbers} {numbers'} {at} {k} c h w =
    let i = (rest-next t at k c.here.rest w).inside in
    no-try (and_f _ (ne_eqb (length (parted t)) columns (λ (z : length (parted t) ≡ columns). omega (arith, i))))

reads_all : {t was numbers : List ℕ} {at k : ℕ} → Reading t was at k numbers → length was ≡ columns → k ≡ columns → length t < at → Taken t numbers true
unfolding is_try values_of
reads_all {t} {was} {numbers} {at} {k} c l h w =
    let n : length (parted t) ≤ k = rest-none (parted t) k (sym c.here.rest ∙ rest-behind t at w) in
    let e : length (parted t) ≡ columns = omega (arith, c.inside) in
    let z : k ≡ length was = h ∙ sym l in
    record {
      good = sym (and_i (eq-eqb (length (parted t)) columns e) (subst (λ (i : ℕ). all i (good t) ≡ true) h c.fine));
      values = λ _. filled-all (value t) was z c.filling.is ∙ ap (upto (value t)) l;
    }

-- behind the last column: whether the text has ended
pub reads_end : {t was numbers : List ℕ} {at k : ℕ} → Reading t was at k numbers → length was ≡ columns → k ≡ columns → Taken t numbers (ltb (length t) at)
reads_end {t} {was} {numbers} {at} {k} c l h =
    by_bit (ltb (length t) at)
    (λ e. rw (e) (reads_all c l h (ltb-true (length t) at e)))
    (λ e. rw (e) (reads_long c h (ltb-false (length t) at e)))
