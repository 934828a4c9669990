-- LAWS. Each code's word is read as that code, and a word that is read is the code's. Assumes nothing.
use Rattle.std.specs.Prelude.{◌≡◌, refl, ℕ, zero, suc, ◌+◌, ◌-◌, ◌≤◌, ◌<◌, List, [], ◌∷◌, T, eqb, ltb, leb, length, Some, None}
use Rattle.std.proofs.Common.{sym, ap, ◌∙◌, subst, arith, ltb-true, leb-true, le-leb, eqb-true, ne_eqb}
use mathlib.Core.Bool.{Bool, true, false, cond, ◌&&◌, ◌||◌}
use Rattle.floats.specs.Lists.{all}
use Rattle.floats.specs.Truth.{all-at}
use Rattle.csv_words.specs.Words.{word_at, plane_text, same, seek, motion_of, plane_of}
use Rattle.csv_words.specs.Table.{same-is}
use Rattle.csv_words.specs.Seeks.{motion-at}

own-places : all 16 (λ (k : ℕ). eqb (seek 0 16 (word_at k)) k) ≡ true
unfolding all seek
own-places = refl

own-place : (c : ℕ) → c < 16 → seek 0 16 (word_at c) ≡ c
own-place c h = eqb-true (seek 0 16 (word_at c)) c (all-at 16 (λ (k : ℕ). eqb (seek 0 16 (word_at k)) k) c own-places h)

pub motion-again : (c : ℕ) → c < 16 → motion_of (word_at c) ≡ Some c
motion-again c h = sym (motion-at (word_at c) c (sym (own-place c h)) h)

pub planes_again : (plane_of (plane_text 0) ≡ Some 0) × (plane_of (plane_text 17) ≡ Some 17) × (plane_of (plane_text 18) ≡ Some 18) ×
    (plane_of (plane_text 19) ≡ Some 19)
unfolding plane_of seek
planes_again = (refl, refl, refl, refl)

-- what is found stands there
found-there : (k i : ℕ) (t : List ℕ) → seek i k t < i + k → word_at (seek i k t) ≡ t
unfolding seek
found-there zero i t h = absurd (omega arith)
found-there (suc k) i t h = go (same (word_at i) t) (same-is (word_at i) t) (found-there k (suc i) t) h
  where
    go : (b : Bool) → (T b → word_at i ≡ t) → (seek (suc i) k t < suc i + k → word_at (seek (suc i) k t) ≡ t) → cond b i (seek (suc i) k t) < i + suc k →
        word_at (cond b i (seek (suc i) k t)) ≡ t
    go true f r h = f tt
    go false f r h = r (omega arith)

pub motion-only : (t : List ℕ) (c : ℕ) → motion_of t ≡ Some c → (word_at c ≡ t) × (c < 16)
unfolding motion_of
motion-only t c e = go (ltb (seek 0 16 t) 16) refl e
  where
    go : (b : Bool) → ltb (seek 0 16 t) 16 ≡ b → cond b (Some (seek 0 16 t)) None ≡ Some c → (word_at c ≡ t) × (c < 16)
    go true h e =
        let l : seek 0 16 t < 16 = ltb-true (seek 0 16 t) 16 h in
        let z : seek 0 16 t ≡ c = cc in
        subst (λ (x : ℕ). (word_at x ≡ t) × (x < 16)) z (found-there 16 0 t l, l)
    go false h e = let z : ◌≡◌ {A = ℕ} 0 1 = cc in absurd (omega arith)

-- ---- planes: 0, 17, 18 and 19
pub plane-again : (c : ℕ) → (eqb c 0 || (leb 17 c && leb c 19)) ≡ true → plane_of (plane_text c) ≡ Some c
plane-again c h = go (eqb c 0) refl (leb 17 c) refl (leb c 19) refl h
  where
    own : (k : ℕ) → k < 3 → plane_of (plane_text (17 + k)) ≡ Some (17 + k)
    own zero h = planes_again.1
    own (suc zero) h = planes_again.2
    own (suc (suc zero)) h = planes_again.3
    own (suc (suc (suc k))) h = absurd (omega arith)

    go : (a : Bool) → eqb c 0 ≡ a → (b : Bool) → leb 17 c ≡ b → (d : Bool) → leb c 19 ≡ d → (a || (b && d)) ≡ true → plane_of (plane_text c) ≡ Some c
    go true e b f d g h = subst (λ (z : ℕ). plane_of (plane_text z) ≡ Some z) (sym (eqb-true c 0 e)) planes_again.0
    go false e true f true g h =
        let l : 17 ≤ c = leb-true 17 c f in
        let u : c ≤ 19 = leb-true c 19 g in
        let w : 17 + (c - 17) ≡ c = omega arith in
        subst (λ (z : ℕ). plane_of (plane_text z) ≡ Some z) w (own (c - 17) (omega arith))
    go false e true f false g h = absurd (mathlib.Core.Bool.false≢true h)
    go false e false f d g h = absurd (mathlib.Core.Bool.false≢true h)

seek-from : (k i : ℕ) (t : List ℕ) → i ≤ seek i k t
unfolding seek
seek-from zero i t = native.Mathlib.Nat.le_refl i
seek-from (suc k) i t = go (same (word_at i) t) (seek-from k (suc i) t)
  where
    go : (b : Bool) → suc i ≤ seek (suc i) k t → i ≤ cond b i (seek (suc i) k t)
    go true h = native.Mathlib.Nat.le_refl i
    go false h = omega arith

same_code : (a b : ℕ) → Some a ≡ Some b → a ≡ b
same_code a b e = cc

pub plane-only : (t : List ℕ) (c : ℕ) → plane_of t ≡ Some c → (plane_text c ≡ t) × ((eqb c 0 || (leb 17 c && leb c 19)) ≡ true)
unfolding plane_of
plane-only t c e = go (eqb (length t) 0) refl (ltb (seek 16 3 t) 19) refl e
  where
    empty : (t : List ℕ) → length t ≡ 0 → [] ≡ t
    empty [] h = refl
    empty (a ∷ t) h = absurd (omega arith)

    within : (c : ℕ) → 17 ≤ c → c ≤ 19 → (eqb c 0 || (leb 17 c && leb c 19)) ≡ true
    within c l u = rw (ne_eqb c 0 (λ (z : c ≡ 0). omega arith), le-leb 17 c l, le-leb c 19 u)

    go : (a : Bool) → eqb (length t) 0 ≡ a → (b : Bool) → ltb (seek 16 3 t) 19 ≡ b → cond a (Some 0)
        (cond b (Some (seek 16 3 t + 1)) None) ≡ Some c
        → (plane_text c ≡ t) × ((eqb c 0 || (leb 17 c && leb c 19)) ≡ true)
    go true f b g e = subst (λ (z : ℕ). (plane_text z ≡ t) × ((eqb z 0 || (leb 17 z && leb z 19)) ≡ true)) (same_code 0 c e)
        (empty t (eqb-true (length t) 0 f), refl)
    go false f false g e = let z : ◌≡◌ {A = ℕ} 0 1 = cc in absurd (omega arith)
    go false f true g e =
        let l : seek 16 3 t < 19 = ltb-true (seek 16 3 t) 19 g in
        let m : 16 ≤ seek 16 3 t = seek-from 3 16 t in
        let w : seek 16 3 t + 1 - 1 ≡ seek 16 3 t = omega arith in
        subst (λ (z : ℕ). (plane_text z ≡ t) × ((eqb z 0 || (leb 17 z && leb z 19)) ≡ true)) (same_code (seek 16 3 t + 1) c e)
        (ap word_at w ∙ found-there 3 16 t l, within (seek 16 3 t + 1) (omega arith) (omega arith))
