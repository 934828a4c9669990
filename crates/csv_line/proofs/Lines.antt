-- What the functions on lines do. Assumes nothing.
use Rattle.std.specs.Prelude.{◌≡◌, refl, ℕ, suc, ◌+◌, ◌-◌, ◌≤◌, ◌<◌, Bool, true, false, cond, ◌&&◌, eqb, List, [], ◌∷◌, ◌++◌, length, take, drop, get_or, Some}
use Rattle.std.specs.Prelude.{None}
use Rattle.std.proofs.Common.{sym, ap, ◌∙◌, arith, add-one, append_assoc, drop-drop, drop-cons, le-ltb}
use Rattle.std.proofs.Math.Seq.{drop-length}
use Rattle.std.proofs.lemmas.List.Edits.{sets-eq}
use Rattle.std.specs.Cmp.Lexicographic.{pointwise}
use Rattle.csv_figures.specs.Out.{Wrote}
use Rattle.csv_line.specs.LineText.{crlf, end_of}

-- ---- `text_end`: the last two bytes are looked at
and-false : (a : Bool) → (a && false) ≡ false
and-false true = refl
and-false false = refl

pub ending : (s : List ℕ) → cond (pointwise eqb (drop (length s - 2) s) crlf) (Some (length s - 2)) None ≡ end_of s
unfolding end_of
ending [] = refl
ending (a ∷ []) = ap (λ (b : Bool). cond b (Some 0) None) (and-false (eqb a 13))
ending (a ∷ b ∷ r) = ap (λ (b : Bool). cond b (Some i) None) tail ∙ go (eqb (get_or s i 0) 13) (eqb (get_or s (i + 1) 0) 10) ∙ long
  where
    s : List ℕ
    s = a ∷ b ∷ r

    i : ℕ
    i = length s - 2

    last : drop i s ≡ get_or s i 0 ∷ get_or s (i + 1) 0 ∷ []
    last =
        let h : i < length s = omega arith in
        let k : suc i < length s = omega arith in
        let e : suc (suc i) ≡ length s = omega arith in
        drop-cons s i 0 h
        ∙ ap (λ (l : List ℕ). get_or s i 0 ∷ l) (drop-cons s (suc i) 0 k)
        ∙ ap (λ (l : List ℕ). get_or s i 0 ∷ get_or s (suc i) 0 ∷ l) (ap (λ (j : ℕ). drop j s) e ∙ drop-length s)
        ∙ ap (λ (j : ℕ). get_or s i 0 ∷ get_or s j 0 ∷ []) (sym (add-one i))

    tail : pointwise eqb (drop i s) crlf ≡ (eqb (get_or s i 0) 13 && (eqb (get_or s (i + 1) 0) 10 && true))
    tail = ap (λ (l : List ℕ). pointwise eqb l crlf) last

    go : (x y : Bool) → cond (x && (y && true)) (Some i) None ≡ cond x (cond y (Some i) None) None
    go true true = refl
    go true false = refl
    go false y = refl

    long : cond (eqb (get_or s i 0) 13) (cond (eqb (get_or s (i + 1) 0) 10) (Some i) None) None ≡ end_of s
    long = rw (le-ltb (length s) 2 (omega arith))

pub no_end : (s : List ℕ) → pointwise eqb (drop (length s - 2) s) crlf ≡ false → None ≡ end_of s
no_end s e = ap (λ (b : Bool). cond b (Some (length s - 2)) None) (sym e) ∙ ending s

pub an_end : (s t : List ℕ) → pointwise eqb (drop (length s - 2) s) crlf ≡ true → length t + 2 ≡ length s → Some (length t) ≡ end_of s
an_end s t e l =
    let k : length t ≡ length s - 2 = omega arith in
    ap (λ (i : ℕ). Some i) k ∙ ap (λ (b : Bool). cond b (Some (length s - 2)) None) (sym e) ∙ ending s

-- ---- `put_bytes`: the bytes stand between what was before and behind them
pub pasted : {o s t : List ℕ} (n : ℕ) → n + length s ≤ length o → t ≡ s → Wrote o n s (take n o ++ (t ++ drop (n + length s - n) (drop n o))) (n + length s)
pasted {o} {s} {t} n h e =
    let k : n + (n + length s - n) ≡ n + length s = omega arith in
    record {
      next = refl;
      text =
          ap (λ (l : List ℕ). take n o ++ (l ++ drop (n + length s - n) (drop n o))) e
          ∙ ap (λ (l : List ℕ). take n o ++ (s ++ l)) (drop-drop (n + length s - n) n o ∙ ap (λ (i : ℕ). drop i o) k)
          ∙ sym (append_assoc (take n o) s (drop (n + length s) o))
          ∙ sym (sets-eq s o n h);
    }
