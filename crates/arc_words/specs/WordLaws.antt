-- LAWS. Words in axis order: a filled slice of as many words as axes, and one word set in it. Assumes nothing.
use Rattle.std.specs.Prelude.{ℕ, ◌<◌, ◌≡◌, cond, List, ◌++◌, length, drop, set, eqb}
use Rattle.std.proofs.Common.{sym, ◌∙◌, ap, append-nil, arith, length-set, ext_get_or, get_or-set_same, get_or-set_other, eqb-true}
use Rattle.std.proofs.Math.Seq.{drop-length}
use Rattle.std.proofs.lemmas.Bool.{eqb-false}
use Rattle.floats.specs.Lists.{upto, filled}
use Rattle.floats.specs.Fill.{length-upto, at-upto, Filling}
use Rattle.floats.specs.Truth.{by_bit}

whole-filled : {A : Type 0} (f : ℕ → A) (n : ℕ) (l : List A) → length l ≡ n → filled f n l ≡ upto f n
whole-filled f n l e = ap (λ (k : ℕ). upto f n ++ drop k l) (sym e) ∙ ap (λ (r : List _). upto f n ++ r) (drop-length l) ∙ append-nil (upto f n)

-- where the loop that fills it ends
pub filling-whole : {A : Type 0} {f : ℕ → A} {k n : ℕ} {l xs : List A} → Filling f k l xs → k ≡ n → length l ≡ n → xs ≡ upto f n
filling-whole {A} {f} {k} {n} {l} {xs} h e m = h.is ∙ ap (λ (i : ℕ). filled f i l) e ∙ whole-filled f n l m

pub set-upto : (f : ℕ → ℕ) (n i x : ℕ) → i < n → set (upto f n) i x ≡ upto (λ (k : ℕ). cond (eqb k i) x (f k)) n
set-upto f n i x h =
    ext_get_or 0 (set (upto f n) i x) (upto (λ (k : ℕ). cond (eqb k i) x (f k)) n)
    (length-set (upto f n) i x ∙ length-upto f n ∙ sym (length-upto (λ (k : ℕ). cond (eqb k i) x (f k)) n))
    (λ k l.
    let g : k < n = omega (arith, length-set (upto f n) i x, length-upto f n) in
    let m : i < length (upto f n) = omega (arith, length-upto f n) in
    rw (at-upto (λ (k : ℕ). cond (eqb k i) x (f k)) n k 0 g)
    (by_bit (eqb k i)
    (λ a. rw (a, eqb-true k i a) (get_or-set_same (upto f n) i x 0 m))
    (λ a. rw a (get_or-set_other (upto f n) i k x 0 (eqb-false k i a) ∙ at-upto f n k 0 g))))

-- two words set, the one at u last
pub two-upto : (f : ℕ → ℕ) {n u v x y a b : ℕ} {l : List ℕ} → l ≡ upto f n → u < n → v < n → x ≡ a → y ≡ b
    → set (set l v y) u x ≡ upto (λ (k : ℕ). cond (eqb k u) a (cond (eqb k v) b (f k))) n
two-upto f {n} {u} {v} {x} {y} {a} {b} {l} e hu hv ea eb =
    rw (e, ea, eb, set-upto f n v b hv) (set-upto (λ (k : ℕ). cond (eqb k v) b (f k)) n u a hu)
