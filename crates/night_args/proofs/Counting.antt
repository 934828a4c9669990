-- Counting tolerances: the first k fields are. Assumes nothing.
use Rattle.std.specs.Prelude.{Some, None}
use Prim.Native.Nat.{ℕ, ◌+◌, ◌≤◌, ◌<◌}
use mathlib.Core.Path.{◌≡◌, refl, sym, ap, ◌∙◌, subst}
use mathlib.Core.Bool.{Bool, true, false, ◌&&◌}
use mathlib.Core.List.{List, []}
use native.Mathlib.Omega.{arith}
use lib.Dec.{leb}
use lib.ListN.{length, drop, get_or}
use borrow.Author.Tests.{le-leb, lt-leb}
use Rattle.floats.specs.Lists.{all}
use Rattle.floats.specs.Truth.{and_f, and_i, cond-t, cond-f, all_more, all-fails}
use Rattle.csv_line.specs.LineText.{parted}
use Rattle.csv_cells.specs.Taking.{reach}
use Rattle.csv_cells.specs.Parts.{rest-behind, rest-none}
use Rattle.night_tolerance.specs.Tolerance.{is_tolerance}
use Rattle.night_args.specs.Tolerances.{most_tolerances, count_of}
use Rattle.night_args.specs.Fields.{FieldFrom, field_is}
use Rattle.night_args.specs.FieldLaws.{rest-next, from-none, from_more, field_is_lem}

abbrev fine : List ℕ → ℕ → Bool
fine t i = is_tolerance (get_or (parted t) i [])

pub record Counting (t : List ℕ) (at k : ℕ) : Type 0 where
  pub here : FieldFrom t k at
  pub good : all k (fine t) ≡ true
  pub few : k ≤ most_tolerances
  pub inside : k ≤ length (parted t)

pub counts-none : (t : List ℕ) → Counting t 0 0
unfolding all
counts-none t = record { here = from-none t; good = refl; few = omega arith; inside = omega arith }

pub counts-more : {t : List ℕ} {at k end : ℕ} → Counting t at k → at ≤ length t → k < most_tolerances → end ≡ at + reach (drop at t)
    → is_tolerance (field_is t at end) ≡ true → Counting t (end + 1) (k + 1)
counts-more {t} {at} {k} {end} c h n w g =
    record {
      here = from_more c.here h w;
      good = all_more k (fine t) c.good (ap is_tolerance (field_is_lem t at end k c.here.rest h w) ∙ g);
      few = omega arith;
      inside = let i = (rest-next t at k c.here.rest h).inside in omega (arith, i);
    }

pub counts_bad : {t : List ℕ} {at k end : ℕ} → Counting t at k → at ≤ length t → end ≡ at + reach (drop at t) → is_tolerance (field_is t at end) ≡ false
    → None ≡ count_of t
unfolding count_of
counts_bad {t} {at} {k} {end} c h w g =
    sym (cond-f _ _ (right_false (leb (length (parted t)) most_tolerances)
    (all-fails (length (parted t)) (fine t) k (rest-next t at k c.here.rest h).inside (ap is_tolerance (field_is_lem t at end k c.here.rest h w) ∙ g))))
  where
    right_false : (a : Bool) {b : Bool} → b ≡ false → (a && b) ≡ false
    right_false true e = e
    right_false false e = refl

pub counts-over : {t : List ℕ} {at k : ℕ} → Counting t at k → at ≤ length t → k ≡ most_tolerances → None ≡ count_of t
unfolding count_of
counts-over {t} {at} {k} c h e =
    sym (cond-f _ _ (and_f _ (lt-leb (length (parted t)) most_tolerances (let i = (rest-next t at k c.here.rest h).inside in omega (arith, i, e)))))

counts_all : {t : List ℕ} {at k : ℕ} → Counting t at k → length t < at → Some k ≡ count_of t
unfolding count_of
counts_all {t} {at} {k} c h =
    let n : length (parted t) ≤ k = rest-none (parted t) k (sym c.here.rest ∙ rest-behind t at h) in
    let e : k ≡ length (parted t) = omega (arith, c.inside) in
    let few : leb (length (parted t)) most_tolerances ≡ true = le-leb (length (parted t)) most_tolerances (omega (arith, c.few, e)) in
    let good : all (length (parted t)) (fine t) ≡ true = subst (λ (i : ℕ). all i (fine t) ≡ true) e c.good in
    ap Some e ∙ sym (cond-t _ _ (and_i few good))

-- the field is the last one
pub counts-last : {t : List ℕ} {at k end : ℕ} → Counting t at k → at ≤ length t → k < most_tolerances → end ≡ at + reach (drop at t)
    → is_tolerance (field_is t at end) ≡ true → end ≡ length t → Some (k + 1) ≡ count_of t
counts-last c h n w g l = counts_all (counts-more c h n w g) (omega (arith, l))
