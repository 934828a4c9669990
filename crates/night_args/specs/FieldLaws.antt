-- LAWS. The fields of a text, taken one after another. Assumes nothing.
use Rattle.std.specs.Prelude.{ℕ, ◌+◌, ◌-◌, ◌≤◌, ◌<◌, ◌≡◌, List, [], length, take, drop, get_or}
use Rattle.std.proofs.Common.{sym, ap, ◌∙◌, subst, arith, add-one, length-drop, drop_of_length-le, length-take-le}
use Rattle.csv_line.specs.LineText.{parted}
use Rattle.csv_cells.specs.Taking.{reach}
use Rattle.csv_cells.specs.Parts.{reach-length, rest_at, rest-within, rest-behind, rest-step, Rest, rest_of, rest-none}
use Rattle.night_args.specs.Fields.{FieldFrom, IsField, field_is}

-- ---- the fields of a text, one after another: those from the k-th on stand from `at` on
pub near-end : (t : List ℕ) (at : ℕ) → at ≤ length t → at + reach (drop at t) ≤ length t
near-end t at h = let l : length (drop at t) ≡ length t - at = length-drop at t in omega (arith, reach-length (drop at t))

pub rest-next : (t : List ℕ) (at k : ℕ) → rest_at t at ≡ drop k (parted t) → at ≤ length t
    → Rest (parted t) k [] (take (reach (drop at t)) (drop at t)) (rest_at t (at + reach (drop at t) + 1))
rest-next t at k e h = rest_of (parted t) k [] (take (reach (drop at t)) (drop at t)) (rest_at t (at + reach (drop at t) + 1)) (sym e ∙ rest-step t at h)

pub from-none : (t : List ℕ) → FieldFrom t 0 0
from-none t = record { rest = rest-within t 0 (omega arith); near = omega arith }

pub from_more : {t : List ℕ} {k at end : ℕ} → FieldFrom t k at → at ≤ length t → end ≡ at + reach (drop at t) → FieldFrom t (k + 1) (end + 1)
from_more {t} {k} {at} {end} f h e =
    record {
      rest =
          ap (λ (i : ℕ). rest_at t (i + 1)) e ∙ sym (rest-next t at k f.rest h).further
          ∙ ap (λ (i : ℕ). drop i (parted t)) (sym (add-one k));
      near = omega (arith, e, near-end t at h);
    }

pub from-short : {t : List ℕ} {k at i : ℕ} → FieldFrom t k at → length t < at → k ≤ i → FieldFrom t i at
from-short {t} {k} {at} {i} f h l =
    let n : length (parted t) ≤ k = rest-none (parted t) k (sym f.rest ∙ rest-behind t at h) in
    let m : length (parted t) ≤ i = omega arith in
    record { rest = rest-behind t at h ∙ sym (drop_of_length-le (parted t) m); near = f.near }

pub from-done : {t : List ℕ} {k at i : ℕ} → FieldFrom t k at → k ≡ i → FieldFrom t i at
from-done {t} {k} {at} {i} f e = subst (λ (j : ℕ). FieldFrom t j at) e f

pub field_is_lem : (t : List ℕ) (at end k : ℕ) → rest_at t at ≡ drop k (parted t) → at ≤ length t → end ≡ at + reach (drop at t)
    → get_or (parted t) k [] ≡ field_is t at end
field_is_lem t at end k e h w =
    let n : end - at ≡ reach (drop at t) = omega (arith, w) in
    (rest-next t at k e h).here ∙ ap (λ (i : ℕ). take i (drop at t)) (sym n)

-- ---- one field by its number
-- the text ends with an earlier field
pub field-none : {t : List ℕ} {k at end i : ℕ} → FieldFrom t k at → at ≤ length t → end ≡ at + reach (drop at t) → end ≡ length t → k < i
    → length (parted t) ≤ i
field-none {t} {k} {at} {end} {i} f h w e l =
    let n : length (parted t) ≤ k + 1 = rest-none (parted t) (k + 1) (sym (from_more f h w).rest ∙ rest-behind t (end + 1) (omega arith)) in omega arith

-- the field is reached
pub field-some : {t : List ℕ} {k at end i : ℕ} → FieldFrom t k at → at ≤ length t → end ≡ at + reach (drop at t) → k ≡ i → IsField t i (field_is t at end)
field-some {t} {k} {at} {end} {i} f h w e =
    let l : length (drop at t) ≡ length t - at = length-drop at t in
    subst (λ (n : ℕ). IsField t n (field_is t at end)) e (record {
      inside = (rest-next t at k f.rest h).inside;
      is = sym (field_is_lem t at end k f.rest h w);
      near = omega (arith, near-end t at h, length-take-le (end - at) (drop at t) (omega (arith, w, l, near-end t at h)));
    })
