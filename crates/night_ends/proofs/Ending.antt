-- Where the digits at a text's end begin, from the end on, and what stands before them. Assumes nothing.
use Prim.Native.Nat.{ℕ, zero, suc, ◌-◌, ◌≤◌, ◌<◌}
use mathlib.Core.Path.{◌≡◌, refl, sym, ap, ◌∙◌}
use mathlib.Core.Bool.{Bool, true, false}
use mathlib.Core.List.{List}
use native.Mathlib.Omega.{arith}
use lib.ListN.{length, take, get_or}
use borrow.Author.Tests.{lt-ltb, le-ltb}
use Rattle.floats.specs.Truth.{and_t, and_f, cond-t, cond-f}
use Rattle.csv_words.specs.Text.{bytes}
use Rattle.csv_fields.specs.Read.{is_digit}
use Rattle.night_ends.specs.Ends.{ends_in, digits_upto, digits_from, ends_try}

pub digits-end : (t : List ℕ) (i : ℕ) → 0 < i → is_digit (get_or t (i - 1) 0) ≡ false → digits_upto t i ≡ i
unfolding digits_upto
digits-end t zero h e = absurd (omega arith)
digits-end t (suc i) h e = let z : suc i - 1 ≡ i = omega arith in cond-f _ _ (sym (ap (λ (k : ℕ). is_digit (get_or t k 0)) z) ∙ e)

pub digits-on : (t : List ℕ) (i : ℕ) → 0 < i → is_digit (get_or t (i - 1) 0) ≡ true → digits_upto t i ≡ digits_upto t (i - 1)
unfolding digits_upto
digits-on t zero h e = absurd (omega arith)
digits-on t (suc i) h e =
    let z : suc i - 1 ≡ i = omega arith in
    cond-t _ _ (sym (ap (λ (k : ℕ). is_digit (get_or t k 0)) z) ∙ e) ∙ ap (digits_upto t) (sym z)

pub digits-none : (t : List ℕ) (i : ℕ) → i ≤ 0 → digits_upto t i ≡ 0
unfolding digits_upto
digits-none t zero h = refl
digits-none t (suc i) h = absurd (omega arith)

-- ---- `.try` and digits
pub try_none : (t : List ℕ) (k : ℕ) → k ≡ digits_from t → k ≡ length t → false ≡ ends_try t
unfolding ends_try
try_none t k e n = sym (and_f _ (le-ltb (digits_from t) (length t) (omega (arith, e, n))))

pub try_some : (t : List ℕ) (k : ℕ) (r : Bool) → k ≡ digits_from t → k ≤ length t → (k ≡ length t → ⊥) → r ≡ ends_in (take k t) (bytes ".try")
    → r ≡ ends_try t
unfolding ends_try
try_some t k r e l n h =
    let below : k < length t = omega (arith, l, n) in
    h ∙ ap (λ (i : ℕ). ends_in (take i t) (bytes ".try")) e ∙ sym (and_t _ (lt-ltb (digits_from t) (length t) (omega (arith, e, below))))
