-- LAWS. The first line of an input and the others, an input that comes in pieces, the search for an LF. Assumes nothing.
use Rattle.std.specs.Prelude.{ℕ, suc, ◌+◌, ◌-◌, ◌≤◌, ◌<◌, ◌≡◌, refl, Bool, true, false, cond, not, List, [], ◌∷◌, ◌++◌}
use Rattle.std.specs.Prelude.{eqb, ltb, ◌==◌, length, take, drop, get_or, set}
use Rattle.std.proofs.Common.{zero-le, sym, ap, ◌∙◌, subst, append-nil, append_assoc, arith, length-drop, drop-cons, length-take-le, get_or-append-add}
use Rattle.std.proofs.Common.{get_or-drop, eq-eqb, ne_eqb, ltb-false, Option, Some, None}
use Rattle.std.proofs.Math.Seq.{paste, paste-suc}
use Rattle.std.proofs.lemmas.List.Edits.{take-paste, length-paste}
use Rattle.text_cut.specs.Cut.{lf, cut, lines_from, rest_from, between}
use Rattle.std.specs.List.{position, position_or_len}
use Rattle.std.proofs.lemmas.List.Sums.{prefix_len-le-length}
use Rattle.text_cut.specs.Seek.{near, Free, Seeking}

-- ---- an input in pieces: the lines of the one, and then those of the other behind what was left
pub lines-pieces : (a b part : List ℕ) → lines_from part (a ++ b) ≡ lines_from part a ++ lines_from (rest_from part a) b
unfolding lines_from rest_from
lines-pieces [] b part = refl
lines-pieces (c ∷ a) b part = go (eqb c lf) (lines-pieces a b []) (lines-pieces a b more)
  where
    more : List ℕ
    more = part ++ (c ∷ [])

    go : (x : Bool) → lines_from [] (a ++ b) ≡ lines_from [] a ++ lines_from (rest_from [] a) b
        → lines_from more (a ++ b) ≡ lines_from more a ++ lines_from (rest_from more a) b
        → cond x (more ∷ lines_from [] (a ++ b)) (lines_from more (a ++ b))
        ≡ cond x (more ∷ lines_from [] a) (lines_from more a) ++ lines_from (cond x (rest_from [] a) (rest_from more a)) b
    go true p q = ap (λ (l : List (List ℕ)). more ∷ l) p
    go false p q = q

pub rest-pieces : (a b part : List ℕ) → rest_from part (a ++ b) ≡ rest_from (rest_from part a) b
unfolding rest_from
rest-pieces [] b part = refl
rest-pieces (c ∷ a) b part = go (eqb c lf) (rest-pieces a b []) (rest-pieces a b more)
  where
    more : List ℕ
    more = part ++ (c ∷ [])

    go : (x : Bool) → rest_from [] (a ++ b) ≡ rest_from (rest_from [] a) b → rest_from more (a ++ b) ≡ rest_from (rest_from more a) b
        → cond x (rest_from [] (a ++ b)) (rest_from more (a ++ b)) ≡ rest_from (cond x (rest_from [] a) (rest_from more a)) b
    go true p q = p
    go false p q = q

-- ---- the first line, where there is one
append_more : (part : List ℕ) (c : ℕ) (t : List ℕ) → (part ++ (c ∷ [])) ++ t ≡ part ++ (c ∷ t)
append_more part c t = append_assoc part (c ∷ []) t

pub first-line : (l part : List ℕ) → cut l ≤ length l → lines_from part l ≡ (part ++ take (cut l) l) ∷ lines_from [] (drop (cut l) l)
unfolding cut lines_from
first-line [] part h = absurd (omega arith)
first-line (c ∷ t) part h = go (eqb c lf) h (first-line t more)
  where
    more : List ℕ
    more = part ++ (c ∷ [])

    n : Bool → ℕ
    n x = cond x 1 (suc (cut t))

    go : (x : Bool) → n x ≤ suc (length t) → (cut t ≤ length t → lines_from more t ≡ (more ++ take (cut t) t) ∷ lines_from [] (drop (cut t) t))
        → cond x (more ∷ lines_from [] t) (lines_from more t) ≡ (part ++ take (n x) (c ∷ t)) ∷ lines_from [] (drop (n x) (c ∷ t))
    go true h r = refl
    go false h r = r (omega arith) ∙ ap (λ (a : List ℕ). a ∷ lines_from [] (drop (cut t) t)) (append_more part c (take (cut t) t))

pub first_rest : (l part : List ℕ) → cut l ≤ length l → rest_from part l ≡ rest_from [] (drop (cut l) l)
unfolding cut rest_from
first_rest [] part h = absurd (omega arith)
first_rest (c ∷ t) part h = go (eqb c lf) h (first_rest t more)
  where
    more : List ℕ
    more = part ++ (c ∷ [])

    go : (x : Bool) → cond x 1 (suc (cut t)) ≤ suc (length t) → (cut t ≤ length t → rest_from more t ≡ rest_from [] (drop (cut t) t))
        → cond x (rest_from [] t) (rest_from more t) ≡ rest_from [] (drop (cond x 1 (suc (cut t))) (c ∷ t))
    go true h r = refl
    go false h r = r (omega arith)

-- ---- no line yet
pub no_line : (l part : List ℕ) → length l < cut l → (lines_from part l ≡ []) × (rest_from part l ≡ part ++ l)
unfolding cut lines_from rest_from
no_line [] part h = (refl, sym (append-nil part))
no_line (c ∷ t) part h = go (eqb c lf) h (no_line t more)
  where
    more : List ℕ
    more = part ++ (c ∷ [])

    go : (x : Bool) → suc (length t) < cond x 1 (suc (cut t)) → (length t < cut t → (lines_from more t ≡ []) × (rest_from more t ≡ more ++ t))
        → (cond x (more ∷ lines_from [] t) (lines_from more t) ≡ []) × (cond x (rest_from [] t) (rest_from more t) ≡ part ++ (c ∷ t))
    go true h r = absurd (omega arith)
    go false h r = let w = r (omega arith) in (w.0, w.1 ∙ append_more part c t)

-- ---- the search, one byte further
pub cut-hit : (l : List ℕ) → 0 < length l → get_or l 0 0 ≡ lf → cut l ≡ 1
unfolding cut
cut-hit [] h e = absurd (omega arith)
cut-hit (c ∷ t) h e = ap (λ (b : Bool). cond b 1 (suc (cut t))) (eq-eqb c lf e)

pub cut_on : (l : List ℕ) → 0 < length l → (get_or l 0 0 ≡ lf → ⊥) → cut l ≡ suc (cut (drop 1 l))
unfolding cut
cut_on [] h e = absurd (omega arith)
cut_on (c ∷ t) h e = ap (λ (b : Bool). cond b 1 (suc (cut t))) (ne_eqb c lf e)

pub cut-end : cut [] ≡ 1
unfolding cut
cut-end = refl

-- ---- the search by the library's `position`
abbrev pub first_lf : List ℕ → ℕ
first_lf l = position_or_len (λ (b : ℕ). b == lf) l

abbrev value : Option ℕ → ℕ → ℕ
value (Some k) d = k
value None d = d

cut-first : (l : List ℕ) → cut l ≡ first_lf l + 1
unfolding cut
cut-first [] = refl
cut-first (c ∷ t) = go (eqb c lf) (cut-first t)
  where
    go : (x : Bool) → cut t ≡ first_lf t + 1 → cond x 1 (suc (cut t)) ≡ cond (not x) (1 + first_lf t) 0 + 1
    go true r = refl
    go false r = omega arith

module _ (l : List ℕ) where
  pub cut-found : {k : ℕ} → Some k ≡ position (λ (b : ℕ). b == lf) l → cut l ≡ k + 1
  cut-found {k} e = go (ltb (first_lf l) (length l)) e
    where
      go : (x : Bool) → Some k ≡ cond x (Some (first_lf l)) None → cut l ≡ k + 1
      go true e = let same : k ≡ first_lf l = ap (λ (o : Option ℕ). value o 0) e in omega (arith, cut-first l)
      go false e = absurd (let same : k ≡ suc k = ap (λ (o : Option ℕ). value o (suc k)) e in omega arith)

  pub cut-none : None ≡ position (λ (b : ℕ). b == lf) l → cut l ≡ length l + 1
  cut-none e = go (ltb (first_lf l) (length l)) refl e
    where
      go : (x : Bool) → ltb (first_lf l) (length l) ≡ x → None ≡ cond x (Some (first_lf l)) None → cut l ≡ length l + 1
      go true h e = absurd (let same : suc (first_lf l) ≡ first_lf l = ap (λ (o : Option ℕ). value o (suc (first_lf l))) e in omega arith)
      go false h e = omega (arith, cut-first l, ltb-false _ _ h, prefix_len-le-length (λ (b : ℕ). not (b == lf)) l)

-- ---- the bytes from a place on
between_cons : (l : List ℕ) (i e : ℕ) → i < e → e ≤ length l → between l i e ≡ get_or l i 0 ∷ between l (i + 1) e
between_cons l i e h k =
    let n : e - i ≡ suc (e - (i + 1)) = omega arith in
    let s : suc i ≡ i + 1 = omega arith in
    ap (λ (m : ℕ). take m (drop i l)) n ∙ ap (λ (t : List ℕ). take (suc (e - (i + 1))) t) (drop-cons l i 0 (omega arith))
    ∙ ap (λ (j : ℕ). get_or l i 0 ∷ take (e - (i + 1)) (drop j l)) s

pub find-hit : (l : List ℕ) (i e : ℕ) → i < e → e ≤ length l → get_or l i 0 ≡ lf → cut (between l i e) ≡ 1
unfolding cut
find-hit l i e h k z = ap cut (between_cons l i e h k) ∙ ap (λ (b : Bool). cond b 1 (suc (cut (between l (i + 1) e)))) (eq-eqb (get_or l i 0) lf z)

pub find-on : (l : List ℕ) (i e : ℕ) → i < e → e ≤ length l → (get_or l i 0 ≡ lf → ⊥) → cut (between l i e) ≡ suc (cut (between l (i + 1) e))
unfolding cut
find-on l i e h k z = ap cut (between_cons l i e h k) ∙ ap (λ (b : Bool). cond b 1 (suc (cut (between l (i + 1) e)))) (ne_eqb (get_or l i 0) lf z)

pub find-end : (l : List ℕ) (e : ℕ) → cut (between l e e) ≡ 1
find-end l e = let n : e - e ≡ 0 = omega arith in ap (λ (m : ℕ). cut (take m (drop e l))) n ∙ cut-end

-- ---- the search, many bytes further
pub free_none : (b : List ℕ) (at : ℕ) → Free b at 0
free_none b at =
    let z : at + 0 ≡ at = omega arith in
    record { on = λ (e : ℕ) _ _. let same : cut (between b (at + 0) e) ≡ cut (between b at e) = ap (λ (j : ℕ). cut (between b j e)) z in omega (arith, same) }

pub free_more : {b : List ℕ} {at k : ℕ} → Free b at k → (get_or b (at + k) 0 ≡ lf → ⊥) → Free b at (k + 1)
free_more {b} {at} {k} f n =
    record {
      on = λ (e : ℕ) (h : at + (k + 1) ≤ e) (l : e ≤ length b).
          let place : at + k + 1 ≡ at + (k + 1) = omega arith in
          let same : cut (between b (at + k + 1) e) ≡ cut (between b (at + (k + 1)) e) = ap (λ (j : ℕ). cut (between b j e)) place in
          omega (arith, f.on e (omega arith) l, find-on b (at + k) e (omega arith) l n, same);
    }

pub free_all : {b : List ℕ} {at k : ℕ} → Free b at k → k ≡ near → Free b at near
free_all {b} {at} f e = subst (λ (j : ℕ). Free b at j) e f

pub seek-far : {b : List ℕ} {at end i : ℕ} → Seeking b at end i → end ≤ length b → near ≤ end - i → Free b i near → Seeking b at end (i + near)
seek-far {b} {at} {end} {i} s l h f =
    record { ahead = omega (arith, s.ahead); within = omega (arith, s.within); left = omega (arith, s.left, f.on end (omega (arith, s.within)) l) }

-- ---- moving to the front, byte after byte
front-step : (d : List ℕ) (at i : ℕ) → at + i < length d
    → set (paste d 0 (drop at d) i) i (get_or (paste d 0 (drop at d) i) (at + i) 0) ≡ paste d 0 (drop at d) (i + 1)
front-step d at i h =
    let m : length (drop at d) ≡ length d - at = length-drop at d in
    let p : length (take i (drop at d)) ≡ i = length-take-le i (drop at d) (omega arith) in
    let k : at + i ≡ i + at = omega arith in
    let s : suc i ≡ i + 1 = omega arith in
    let z : 0 + i ≡ i = omega arith in
    let g : get_or (paste d 0 (drop at d) i) (at + i) 0 ≡ get_or (drop at d) i 0 =
    ap (λ (j : ℕ). get_or (take i (drop at d) ++ drop j d) (at + i) 0) z
    ∙ ap (λ (j : ℕ). get_or (take i (drop at d) ++ drop i d) j 0) k
    ∙ ap (λ (j : ℕ). get_or (take i (drop at d) ++ drop i d) (j + at) 0) (sym p)
    ∙ get_or-append-add (take i (drop at d)) (drop i d) at 0
    ∙ get_or-drop i d at 0
    ∙ ap (λ (j : ℕ). get_or d j 0) (sym k)
    ∙ sym (get_or-drop at d i 0) in
    ap (λ (x : ℕ). set (paste d 0 (drop at d) i) i x) g
    ∙ ap (λ (j : ℕ). set (paste d 0 (drop at d) i) j (get_or (drop at d) i 0)) (sym z)
    ∙ paste-suc d 0 (drop at d) i 0 (omega arith) (omega arith)
    ∙ ap (λ (j : ℕ). paste d 0 (drop at d) j) s

pub front-done : (d d' : List ℕ) (at n : ℕ) → at + n ≤ length d → d' ≡ paste d 0 (drop at d) n → (take n d' ≡ take n (drop at d)) × (length d' ≡ length d)
front-done d d' at n h e =
    let m : length (drop at d) ≡ length d - at = length-drop at d in
    let z : 0 + n ≡ n = omega arith in (
      ap (take n) e ∙ ap (λ (j : ℕ). take j (paste d 0 (drop at d) n)) (sym z) ∙ take-paste d 0 (drop at d) n zero-le (omega arith),
      ap length e ∙ length-paste d 0 (drop at d) n (omega arith) (omega arith),
    )

pub front-more : (d b : List ℕ) (at i : ℕ) → at + i < length d → b ≡ paste d 0 (drop at d) i → set b i (get_or b (at + i) 0) ≡ paste d 0 (drop at d) (i + 1)
front-more d b at i h e = ap (λ (x : List ℕ). set x i (get_or x (at + i) 0)) e ∙ front-step d at i h

-- ---- the first line is one line
first-cut : (l : List ℕ) → cut l ≤ length l → cut (take (cut l) l) ≡ cut l
unfolding cut
first-cut [] h = absurd (omega arith)
first-cut (c ∷ t) h = go (eqb c lf) refl h (first-cut t)
  where
    go : (x : Bool) → eqb c lf ≡ x → cond x 1 (suc (cut t)) ≤ suc (length t) → (cut t ≤ length t → cut (take (cut t) t) ≡ cut t)
        → cut (take (cond x 1 (suc (cut t))) (c ∷ t)) ≡ cond x 1 (suc (cut t))
    go true e h r = ap (λ (b : Bool). cond b 1 (suc (cut []))) e
    go false e h r = ap (λ (b : Bool). cond b 1 (suc (cut (take (cut t) t)))) e ∙ ap suc (r (omega arith))

pub first-whole : (l : List ℕ) → cut l ≤ length l → cut (take (cut l) l) ≡ length (take (cut l) l)
first-whole l h = first-cut l h ∙ sym (length-take-le (cut l) l h)
