-- LAWS. `spliced`: words written over a list from a place on. Assumes nothing.
use Rattle.std.specs.Prelude.{◌≡◌, refl, List, [], ◌∷◌, ◌++◌, ℕ, ◌+◌, ◌-◌, ◌<◌, ◌≤◌, length, get_or, take, drop, set}
use Rattle.std.proofs.Common.{sym, ◌∙◌, ap, append_assoc, add-one, add_assoc, arith, length-append, length-drop, length-set, take-append-drop}
use Rattle.std.proofs.Common.{length-take-le, take_at, drop-drop, get_or-take, get_or-drop, get_or-append-add}
use Rattle.std.proofs.Math.ListN.{get_or-append}
use Rattle.std.proofs.Math.Seq.{drop-append-add}
use Rattle.std.proofs.lemmas.List.{set_split}
use Rattle.floats.specs.Lists.{upto, spliced}
use Rattle.floats.specs.Fill.{length-upto}

head-length : (l : List ℕ) (i : ℕ) (xs : List ℕ) → i ≤ length l → length (take i l ++ xs) ≡ i + length xs
head-length l i xs h = length-append (take i l) xs ∙ ap (λ (k : ℕ). k + length xs) (length-take-le i l h)

pub length-spliced : (l : List ℕ) (i : ℕ) (xs : List ℕ) → i + length xs ≤ length l → length (spliced l i xs) ≡ length l
unfolding spliced
length-spliced l i xs h =
    let e : length (take i l) ≡ i = length-take-le i l (omega arith) in
    simp (length-append, length-drop, e) (omega arith)

pub spliced-none : (l : List ℕ) (i : ℕ) → l ≡ spliced l i []
unfolding spliced
spliced-none l i = let e : i + 0 ≡ i = omega arith in rw (e, take-append-drop)

pub set-spliced : (l : List ℕ) (i v : ℕ) → i < length l → set l i v ≡ spliced l i (v ∷ [])
unfolding spliced
set-spliced l i v h = rw (add-one) (set_split l i v h)

pub spliced-spliced : (l : List ℕ) (i : ℕ) (xs ys : List ℕ) → i + length xs ≤ length l
    → spliced (spliced l i xs) (i + length xs) ys ≡ spliced l i (xs ++ ys)
unfolding spliced
spliced-spliced l i xs ys h =
    let front : List ℕ = take i l ++ xs in
    let rest : List ℕ = drop (i + length xs) l in
    let n : length front ≡ i + length xs = head-length l i xs (omega arith) in
    let g : spliced l i xs ≡ front ++ rest = sym (append_assoc (take i l) xs rest) in
    let t : take (i + length xs) (front ++ rest) ≡ front = take_at front rest (i + length xs) n in
    let d : drop (i + length xs + length ys) (front ++ rest) ≡ drop (i + length (xs ++ ys)) l =
    ap (λ (k : ℕ). drop (k + length ys) (front ++ rest)) (sym n) ∙ drop-append-add front rest (length ys) ∙ drop-drop (length ys) (i + length xs) l
    ∙ ap (λ (k : ℕ). drop k l) (add_assoc i (length xs) (length ys) ∙ ap (λ (k : ℕ). i + k) (sym (length-append xs ys))) in
    ap (λ (s : List ℕ). take (i + length xs) s ++ (ys ++ drop (i + length xs + length ys) s)) g
    ∙ ap (λ (s : List ℕ). s ++ (ys ++ drop (i + length xs + length ys) (front ++ rest))) t
    ∙ ap (λ (s : List ℕ). front ++ (ys ++ s)) d
    ∙ append_assoc (take i l) xs (ys ++ drop (i + length (xs ++ ys)) l)
    ∙ ap (λ (s : List ℕ). take i l ++ s) (sym (append_assoc xs ys (drop (i + length (xs ++ ys)) l)))

-- A word of a spliced list: before those written, among them, behind them.
pub below-spliced : (l : List ℕ) (i : ℕ) (ws : List ℕ) (j : ℕ) → i ≤ length l → j < i → get_or (spliced l i ws) j 0 ≡ get_or l j 0
unfolding spliced
below-spliced l i ws j h k =
    get_or-append (take i l) (ws ++ drop (i + length ws) l) 0 j (rw (length-take-le i l h) k) ∙ get_or-take i l j 0 k

pub in_spliced : (l : List ℕ) (i : ℕ) (ws : List ℕ) (j : ℕ) → i ≤ length l → j < length ws → get_or (spliced l i ws) (i + j) 0 ≡ get_or ws j 0
unfolding spliced
in_spliced l i ws j h k =
    ap (λ (n : ℕ). get_or (take i l ++ (ws ++ drop (i + length ws) l)) (n + j) 0) (sym (length-take-le i l h))
    ∙ get_or-append-add (take i l) (ws ++ drop (i + length ws) l) j 0
    ∙ get_or-append ws (drop (i + length ws) l) 0 j k

pub past-spliced : (l : List ℕ) (i : ℕ) (ws : List ℕ) (j : ℕ) → i ≤ length l → i + length ws ≤ j → get_or (spliced l i ws) j 0 ≡ get_or l j 0
unfolding spliced
past-spliced l i ws j h k =
    let e : j ≡ i + (length ws + (j - (i + length ws))) = omega arith in
    let d : i + length ws + (j - (i + length ws)) ≡ j = omega arith in
    ap (λ (n : ℕ). get_or (take i l ++ (ws ++ drop (i + length ws) l)) n 0) e
    ∙ ap (λ (n : ℕ). get_or (take i l ++ (ws ++ drop (i + length ws) l)) (n + (length ws + (j - (i + length ws)))) 0) (sym (length-take-le i l h))
    ∙ get_or-append-add (take i l) (ws ++ drop (i + length ws) l) (length ws + (j - (i + length ws))) 0
    ∙ get_or-append-add ws (drop (i + length ws) l) (j - (i + length ws)) 0
    ∙ get_or-drop (i + length ws) l (j - (i + length ws)) 0
    ∙ ap (λ (n : ℕ). get_or l n 0) d

-- A loop's invariant: xs is l with f 0 .. f (k - 1) written over it from i on.
pub record Splicing (f : ℕ → ℕ) (i k : ℕ) (l xs : List ℕ) : Type 0 where
  pub same : length xs ≡ length l
  pub is : xs ≡ spliced l i (upto f k)

pub splicing_none : {f : ℕ → ℕ} {i : ℕ} {l : List ℕ} → Splicing f i 0 l l
unfolding upto
splicing_none {f} {i} {l} = record { same = refl; is = spliced-none l i }

pub splicing_more : {f : ℕ → ℕ} {i k : ℕ} {l xs : List ℕ} {v : ℕ} → Splicing f i k l xs → i + k < length l → v ≡ f k → Splicing f i (k + 1) l (set xs (i + k) v)
unfolding upto
splicing_more {f} {i} {k} {l} {xs} {v} s h e =
    let n : length (upto f k) ≡ k = length-upto f k in
    let lt : i + k < length xs = omega (arith, s.same) in
    record {
      same = length-set xs (i + k) v ∙ s.same;
      is = set-spliced xs (i + k) v lt
          ∙ ap (λ (s : List ℕ). spliced s (i + k) (v ∷ [])) s.is
          ∙ ap (λ (j : ℕ). spliced (spliced l i (upto f k)) (i + j) (v ∷ [])) (sym n)
          ∙ spliced-spliced l i (upto f k) (v ∷ []) (omega (arith, n))
          ∙ rw (e, add-one);
    }
