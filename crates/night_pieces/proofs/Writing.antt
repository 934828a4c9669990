-- What the pieces of a line of tries are made of. Assumes nothing.
use Prim.Native.Nat.{ℕ, ◌+◌, ◌≤◌}
use mathlib.Core.Path.{◌≡◌, refl, sym, ap, ◌∙◌, subst}
use mathlib.Core.Bool.{true, false}
use mathlib.Core.List.{List, [], ◌∷◌, ◌++◌, append-nil}
use native.Mathlib.Omega.{arith}
use native.Mathlib.Numerals.{add-one}
use lib.Dec.{eqb}
use lib.ListN.{get_or}
use Rattle.floats.specs.Lists.{upto}
use Rattle.csv_decimal.specs.Widths.{width-ten}
use Rattle.csv_figures.specs.Out.{Wrote}
use Rattle.csv_figures.specs.OutLaws.{wrote_then}
use Rattle.csv_figures.specs.Write.{whole_text}
use Rattle.csv_figures.specs.Writers.{whole_length}
use Rattle.csv_line.specs.LineText.{comma, tailed}
use Rattle.csv_write.specs.Texts.{tailed_append}
use Rattle.night_columns.specs.Read.{most_digits}
use Rattle.night_pieces.specs.Pieces.{field_room, refusal_texts, PutNumbers}

pub whole-near : {o o' : List ℕ} {n r : ℕ} (v : ℕ) → Wrote o n (whole_text v) o' r → r ≤ n + most_digits
whole-near v w = omega (arith, w.next, whole_length v, width-ten v)

pub next-put : {o o₁ o' : List ℕ} {n a r : ℕ} (v : ℕ) → Wrote o n (comma ∷ []) o₁ a → Wrote o₁ a (whole_text v) o' r
    → Wrote o n (comma ∷ whole_text v) o' r × (r ≤ n + field_room)
next-put v x y = (wrote_then x y, omega (arith, x.next, whole-near v y))

-- ---- numbers one behind another
pub numbers-none : (numbers : List ℕ) (from : ℕ) (o : List ℕ) (n : ℕ) → PutNumbers numbers from 0 o n o n
unfolding upto tailed
numbers-none numbers from o n = record { text = record { next = omega arith; text = refl }; near = omega arith }

one-tail : (f : List ℕ) → tailed (f ∷ []) ≡ comma ∷ f
unfolding tailed
one-tail f = ap (λ (l : List ℕ). comma ∷ l) (append-nil f)

pub numbers_more : {numbers o o₁ o' : List ℕ} {from k n at r v : ℕ} → PutNumbers numbers from k o n o₁ at → v ≡ get_or numbers (from + k) 0
    → Wrote o₁ at (comma ∷ whole_text v) o' r → r ≤ at + field_room → PutNumbers numbers from (k + 1) o n o' r
unfolding upto
numbers_more {numbers} {o} {o₁} {o'} {from} {k} {n} {at} {r} {v} p s w h =
    let f : ℕ → List ℕ = λ i. whole_text (get_or numbers (from + i) 0) in
    let e : tailed (upto f k) ++ (comma ∷ whole_text v) ≡ tailed (upto f (k + 1)) =
    ap (λ (i : ℕ). tailed (upto f k) ++ (comma ∷ whole_text i)) s
    ∙ ap (λ (l : List ℕ). tailed (upto f k) ++ l) (sym (one-tail (f k)))
    ∙ sym (tailed_append (upto f k) (f k ∷ []))
    ∙ ap (λ (i : ℕ). tailed (upto f i)) (sym (add-one k)) in
    record { text = subst (λ (t : List ℕ). Wrote o n t o' r) e (wrote_then p.text w); near = omega (arith, p.near) }

-- ---- a refusal
pub refusal-none : {o o' : List ℕ} {n r : ℕ} (refusal line : ℕ) → eqb refusal 0 ≡ true → Wrote o n (comma ∷ comma ∷ []) o' r
    → Wrote o n (tailed (refusal_texts refusal line)) o' r
unfolding tailed
refusal-none refusal line e w = rw e w

pub refusal-some : {o o₁ o' : List ℕ} {n a r : ℕ} (refusal line : ℕ) → eqb refusal 0 ≡ false → Wrote o n (comma ∷ whole_text refusal) o₁ a
    → Wrote o₁ a (comma ∷ whole_text line) o' r
    → Wrote o n (tailed (refusal_texts refusal line)) o' r
unfolding tailed
refusal-some {o} {o₁} {o'} {n} {a} {r} refusal line e x y =
    rw e (subst (λ (l : List ℕ). Wrote o n (comma ∷ (whole_text refusal ++ (comma ∷ l))) o' r) (sym (append-nil (whole_text line))) (wrote_then x y))
