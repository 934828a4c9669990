-- LAWS. Text that is stored piece after piece. Assumes nothing.
use Rattle.std.specs.Prelude.{ℕ, suc, ◌+◌, ◌≡◌, List, [], ◌∷◌, ◌++◌, length, set, Some, None}
use Rattle.std.proofs.Common.{sym, ◌∙◌, ap, arith, add-zero, length-append}
use Rattle.std.proofs.lemmas.List.Edits.{sets}
use Rattle.std.proofs.Math.Seq.{length-sets}
use Rattle.csv_figures.specs.Out.{Wrote}

pub sets_append : (s t l : List ℕ) (i : ℕ) → sets l i (s ++ t) ≡ sets (sets l i s) (i + length s) t
sets_append [] t l i = ap (λ (k : ℕ). sets l k t) (sym (add-zero i))
sets_append (a ∷ s) t l i =
    let e : suc i + length s ≡ i + suc (length s) = omega arith in sets_append s t (set l i a) (suc i) ∙ ap (λ (k : ℕ). sets (sets l i (a ∷ s)) k t) e

-- one piece after another
pub wrote_then : {o o' o'' t t' : List ℕ} {n r r' : ℕ} → Wrote o n t o' r → Wrote o' r t' o'' r' → Wrote o n (t ++ t') o'' r'
wrote_then {o} {o'} {o''} {t} {t'} {n} {r} {r'} a b =
    record {
      next = omega (arith, a.next, b.next, length-append t t');
      text = b.text ∙ ap (λ (l : List ℕ). sets l r t') a.text ∙ ap (λ (k : ℕ). sets (sets o n t) k t') a.next ∙ sym (sets_append t t' o n);
    }

pub wrote-length : {o o' t : List ℕ} {n r : ℕ} → Wrote o n t o' r → length o' ≡ length o
wrote-length {o} {o'} {t} {n} {r} w = ap length w.text ∙ length-sets o n t

-- ---- a place is no refusal, and is told by its number
pub upto-none : (a : ℕ) → Some a ≡ None → ⊥
upto-none a e = let z : ◌≡◌ {A = ℕ} 0 1 = cc in omega arith

pub upto-same : (a b : ℕ) → Some a ≡ Some b → a ≡ b
upto-same a b e = cc
