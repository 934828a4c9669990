-- Where the name of a file begins, from the end on, and what it is by its parts. Assumes nothing.
use Prim.Native.Nat.{ℕ, zero, suc, ◌+◌, ◌-◌, ◌≤◌, ◌<◌}
use mathlib.Core.Path.{◌≡◌, refl, sym, ap, ◌∙◌, subst}
use mathlib.Core.Bool.{true, false, ◌&&◌}
use mathlib.Core.List.{List}
use native.Mathlib.Omega.{arith}
use lib.Dec.{leb}
use lib.ListN.{length, drop, get_or}
use borrow.Author.Tests.{eq-eqb, ne_eqb, leb-true}
use Rattle.floats.specs.Truth.{by_bit, and_t, and_f, and_left, cond-t, cond-f}
use Rattle.std.proofs.Common.{length-drop, drop-drop}
use Rattle.csv_words.specs.Text.{bytes}
use Rattle.csv_words.specs.Words.{same}
use Rattle.night_path.specs.Names.{start_upto, slash, start, ending, ends_csv, name_of}

-- ---- the place behind the last slash, from the end on
pub start_hit : (t : List ℕ) (i : ℕ) → 0 < i → get_or t (i - 1) 0 ≡ slash → start_upto t i ≡ i
unfolding start_upto
start_hit t zero h e = absurd (omega arith)
start_hit t (suc i) h e = let z : suc i - 1 ≡ i = omega arith in cond-t _ _ (eq-eqb (get_or t i 0) slash (sym (ap (λ (k : ℕ). get_or t k 0) z) ∙ e))

pub start_on : (t : List ℕ) (i : ℕ) → 0 < i → (get_or t (i - 1) 0 ≡ slash → ⊥) → start_upto t i ≡ start_upto t (i - 1)
unfolding start_upto
start_on t zero h e = absurd (omega arith)
start_on t (suc i) h e =
    let z : suc i - 1 ≡ i = omega arith in
    cond-f _ _ (ne_eqb (get_or t i 0) slash (λ (w : get_or t i 0 ≡ slash). e (ap (λ (k : ℕ). get_or t k 0) z ∙ w))) ∙ ap (start_upto t) (sym z)

pub start_none : (t : List ℕ) (i : ℕ) → i ≤ 0 → start_upto t i ≡ 0
unfolding start_upto
start_none t zero h = refl
start_none t (suc i) h = absurd (omega arith)

-- ---- the name of a file
-- the end of what stands from `from` on is the whole text's, where so much stands there
pub tail-ends : (t : List ℕ) (from : ℕ)
    → (leb ending (length (drop from t)) && same (drop (length (drop from t) - ending) (drop from t)) (bytes ".csv")) ≡ ends_csv t from
unfolding ends_csv
tail-ends t from =
    let n : length (drop from t) ≡ length t - from = length-drop from t in
    by_bit (leb ending (length t - from))
    (λ l.
    let far : ending ≤ length t - from = leb-true _ _ l in
    let e : from + (length t - from - ending) ≡ length t - ending = omega (arith, far) in
    and_t _ (ap (leb ending) n ∙ l)
    ∙ ap (λ (k : ℕ). same (drop (k - ending) (drop from t)) (bytes ".csv")) n
    ∙ ap (λ (z : List ℕ). same z (bytes ".csv")) (drop-drop (length t - from - ending) from t ∙ ap (λ (k : ℕ). drop k t) e)
    ∙ sym (and_t _ l))
    (λ l. and_f _ (ap (leb ending) n ∙ l) ∙ sym (and_f _ l))

pub ends-long : (t : List ℕ) (from : ℕ) → ends_csv t from ≡ true → ending ≤ length t - from
unfolding ends_csv
ends-long t from h = leb-true _ _ (and_left (leb ending (length t - from)) _ h)

pub named : (t : List ℕ) (from : ℕ) → from ≡ start t → ends_csv t from ≡ true → record { from = from; upto = length t - ending } ≡ name_of t
unfolding name_of
named t from e h = rw (e, subst (λ (k : ℕ). ends_csv t k ≡ true) e h)

pub named-whole : (t : List ℕ) (from : ℕ) → from ≡ start t → ends_csv t from ≡ false → record { from = from; upto = length t } ≡ name_of t
unfolding name_of
named-whole t from e h = rw (e, subst (λ (k : ℕ). ends_csv t k ≡ false) e h)
