-- LAWS. The fields of a line: the first field and the others, by the place of the first comma. Assumes nothing.
use Rattle.std.specs.Prelude.{ℕ, suc, ◌+◌, ◌-◌, ◌≤◌, ◌<◌, ◌≡◌, refl, Bool, true, false, cond, List, [], ◌∷◌, eqb, leb, length, take, drop, get_or}
use Rattle.std.proofs.Common.{zero-le, sym, ap, ◌∙◌, arith, length-drop, drop-cons, drop-drop, eq-eqb, ne_eqb, le-leb}
use Rattle.std.proofs.Math.Seq.{drop-length}
use Rattle.std.proofs.Math.Decide.{dec_lt}
use Rattle.std.proofs.lemmas.Bool.{lt-leb}
use Rattle.csv_line.specs.LineText.{comma, parted, on_first}
use Rattle.csv_cells.specs.Taking.{reach}

pub reach-length : (t : List ℕ) → reach t ≤ length t
unfolding reach
reach-length [] = zero-le
reach-length (c ∷ t) = go (eqb c comma) (reach-length t)
  where
    go : (b : Bool) → reach t ≤ length t → cond b 0 (suc (reach t)) ≤ suc (length t)
    go true h = zero-le
    go false h = omega arith

-- ---- one byte further
pub reach-hit : (t : List ℕ) (i : ℕ) → i < length t → get_or t i 0 ≡ comma → reach (drop i t) ≡ 0
unfolding reach
reach-hit t i h e = ap reach (drop-cons t i 0 h) ∙ ap (λ (b : Bool). cond b 0 (suc (reach (drop (suc i) t)))) (eq-eqb (get_or t i 0) comma e)

pub reach-on : (t : List ℕ) (i : ℕ) → i < length t → (get_or t i 0 ≡ comma → ⊥) → reach (drop i t) ≡ suc (reach (drop (suc i) t))
unfolding reach
reach-on t i h e = ap reach (drop-cons t i 0 h) ∙ ap (λ (b : Bool). cond b 0 (suc (reach (drop (suc i) t)))) (ne_eqb (get_or t i 0) comma e)

pub reach-end : (t : List ℕ) (i : ℕ) → i ≡ length t → reach (drop i t) ≡ 0
unfolding reach
reach-end t i e = ap (λ (k : ℕ). reach (drop k t)) e ∙ ap reach (drop-length t)

-- ---- the first field
pub part-more : (t : List ℕ) → reach t < length t → parted t ≡ take (reach t) t ∷ parted (drop (suc (reach t)) t)
unfolding reach parted
part-more [] h = absurd (omega arith)
part-more (c ∷ t) h = go (eqb c comma) h (part-more t)
  where
    go : (b : Bool) → cond b 0 (suc (reach t)) < suc (length t) → (reach t < length t → parted t ≡ take (reach t) t ∷ parted (drop (suc (reach t)) t))
        → cond b ([] ∷ parted t) (on_first c (parted t)) ≡ take (cond b 0 (suc (reach t))) (c ∷ t) ∷ parted (drop (suc (cond b 0 (suc (reach t)))) (c ∷ t))
    go true h r = refl
    go false h r = ap (on_first c) (r (omega arith))

pub part-last : (t : List ℕ) → reach t ≡ length t → parted t ≡ take (reach t) t ∷ []
unfolding reach parted
part-last [] h = refl
part-last (c ∷ t) h = go (eqb c comma) h (part-last t)
  where
    go : (b : Bool) → cond b 0 (suc (reach t)) ≡ suc (length t) → (reach t ≡ length t → parted t ≡ take (reach t) t ∷ [])
        → cond b ([] ∷ parted t) (on_first c (parted t)) ≡ take (cond b 0 (suc (reach t))) (c ∷ t) ∷ []
    go true h r = absurd (omega arith)
    go false h r = ap (on_first c) (r (omega arith))

-- ---- from a place on: the fields that are left, none behind the end
unfoldable pub rest_at : List ℕ → ℕ → List (List ℕ)
rest_at t at = cond (leb at (length t)) (parted (drop at t)) []

pub rest-within : (t : List ℕ) (at : ℕ) → at ≤ length t → rest_at t at ≡ parted (drop at t)
unfolding rest_at
rest-within t at h = ap (λ (b : Bool). cond b (parted (drop at t)) []) (le-leb at (length t) h)

pub rest-behind : (t : List ℕ) (at : ℕ) → length t < at → rest_at t at ≡ []
unfolding rest_at
rest-behind t at h = ap (λ (b : Bool). cond b (parted (drop at t)) []) (lt-leb at (length t) h)

pub rest-step : (t : List ℕ) (at : ℕ) → at ≤ length t → rest_at t at ≡ take (reach (drop at t)) (drop at t) ∷ rest_at t (at + reach (drop at t) + 1)
rest-step t at h = rest-within t at h ∙ go (dec_lt (reach u) (length u))
  where
    u : List ℕ
    u = drop at t

    go : Dec (reach (drop at t) < length (drop at t)) → parted (drop at t) ≡ take (reach (drop at t)) (drop at t) ∷ rest_at t (at + reach (drop at t) + 1)
    go (yes l) =
        let n : length (drop at t) ≡ length t - at = length-drop at t in
        let w : at + reach (drop at t) + 1 ≤ length t = omega arith in
        let k : at + suc (reach (drop at t)) ≡ at + reach (drop at t) + 1 = omega arith in
        part-more (drop at t) l
        ∙ ap (λ (fs : List (List ℕ)). take (reach (drop at t)) (drop at t) ∷ fs)
        (ap parted (drop-drop (suc (reach (drop at t))) at t ∙ ap (λ (i : ℕ). drop i t) k) ∙ sym (rest-within t (at + reach (drop at t) + 1) w))
    go (no l) =
        let n : length (drop at t) ≡ length t - at = length-drop at t in
        let m : reach (drop at t) ≤ length (drop at t) = reach-length (drop at t) in
        let e : reach (drop at t) ≡ length (drop at t) = omega arith in
        let w : length t < at + reach (drop at t) + 1 = omega arith in
        part-last (drop at t) e ∙ ap (λ (fs : List (List ℕ)). take (reach (drop at t)) (drop at t) ∷ fs) (sym (rest-behind t (at + reach (drop at t) + 1) w))

-- ---- a list of which the rest from i on is known
pub record Rest {A : Type 0} (l : List A) (i : ℕ) (d a : A) (r : List A) : Type 0 where
  pub inside : i < length l
  pub here : get_or l i d ≡ a
  pub further : drop (suc i) l ≡ r

pub rest_of : {A : Type 0} (l : List A) (i : ℕ) (d a : A) (r : List A) → drop i l ≡ a ∷ r → Rest l i d a r
rest_of l i d a r e =
    let h : i < length l = some (length (drop i l)) (length-drop i l) (ap length e) in
    let k : get_or l i d ∷ drop (suc i) l ≡ a ∷ r = sym (drop-cons l i d h) ∙ e in
    record { inside = h; here = cc; further = cc }
  where
    some : (n : ℕ) → n ≡ length l - i → n ≡ suc (length r) → i < length l
    some n p q = omega arith

pub rest-none : {A : Type 0} (l : List A) (i : ℕ) → drop i l ≡ [] → length l ≤ i
rest-none l i e = none (length (drop i l)) (length-drop i l) (ap length e)
  where
    none : (n : ℕ) → n ≡ length l - i → n ≡ 0 → length l ≤ i
    none n p q = omega arith
