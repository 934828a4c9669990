-- LAWS. The search for a word among the table's numbers. Assumes nothing.
use Rattle.std.specs.Prelude.{◌≡◌, refl, ℕ, zero, suc, ◌+◌, ◌-◌, ◌*◌, ◌/◌, ◌%◌, ◌≤◌, ◌<◌, Bool, true, false, cond, List, T, length, ltb, Some, None}
use Rattle.std.proofs.Common.{sym, ap, ◌∙◌, subst, arith, add-one}
use Rattle.std.specs.Float.Ieee.Bits.{is_true}
use borrow.Author.Tests.{lt-ltb, le-ltb, eq-eqb, ne_eqb, ltb-true, ltb-false}
use Rattle.csv_figures.specs.Out.{Wrote}
use Rattle.csv_words.specs.Words.{word_at, same, seek, place_of, motion_of, plane_of}
use Rattle.csv_words.specs.Packed.{pack, word_number, chars}
use Rattle.csv_words.specs.Chars.{Bytes, by_number}
use Rattle.csv_words.specs.Table.{short, same-is, same_self, back_at}

not_same : (s t : List ℕ) → (s ≡ t → ⊥) → same s t ≡ false
not_same s t h = go (same s t) (same-is s t)
  where
    go : (b : Bool) → (T b → s ≡ t) → b ≡ false
    go true f = absurd (h (f tt))
    go false f = refl

pub hit : (i : ℕ) (t : List ℕ) → i < 19 → Bytes t → length t ≤ 7 → word_number (word_at i) ≡ word_number t → same (word_at i) t ≡ true
hit i t h b l e =
    let w : word_at i ≡ t = sym (back_at i h) ∙ ap (λ (n : ℕ). chars (n % 8) (n / 8)) e ∙ by_number t b l in
    subst (λ (x : List ℕ). same (word_at i) x ≡ true) w (is_true (same (word_at i) (word_at i)) (same_self (word_at i)))

pub miss : (i : ℕ) (t : List ℕ) → (word_number (word_at i) ≡ word_number t → ⊥) → same (word_at i) t ≡ false
miss i t n = not_same (word_at i) t (λ (e : word_at i ≡ t). n (ap word_number e))

none_there : (i : ℕ) → Some i ≡ None → ⊥
none_there i e = let z : ◌≡◌ {A = ℕ} 0 1 = cc in omega arith

-- ---- the loop
pub record Seeking (t : List ℕ) (from count p end i : ℕ) : Type 0 where
  pub ahead : i ≤ end
  pub bound : end ≤ 19
  pub left : seek from count t ≡ seek i (end - i) t
  pub number : p ≡ word_number t

pub as_number : (t : List ℕ) (n : ℕ) → n ≡ pack 0 t → n * 8 + length t ≡ word_number t
unfolding word_number
as_number t n e = ap (λ (z : ℕ). z * 8 + length t) e

pub seeks_first : (t : List ℕ) (from count p : ℕ) → from + count ≤ 19 → p ≡ word_number t → Seeking t from count p (from + count) from
seeks_first t from count p h e =
    let z : from + count - from ≡ count = omega arith in
    record { ahead = omega arith; bound = h; left = ap (λ (k : ℕ). seek from k t) (sym z); number = e }

pub seeks_hit : (t : List ℕ) (from count p end i : ℕ) → Seeking t from count p end i → i < end → Bytes t → length t ≤ 7 → (w : ℕ) → w ≡ word_number (word_at i)
    → w ≡ p → i ≡ seek from count t
unfolding seek
seeks_hit t from count p end i c h b l w v e =
    let z : end - i ≡ suc (end - suc i) = omega arith in
    let k : i < 19 = omega (arith, c.bound) in
    sym (c.left ∙ ap (λ (k : ℕ). seek i k t) z ∙ ap (λ (x : Bool). cond x i (seek (suc i) (end - suc i) t)) (hit i t k b l (sym v ∙ e ∙ c.number)))

pub seeks_miss : (t : List ℕ) (from count p end i : ℕ) → Seeking t from count p end i → i < end → (w : ℕ) → w ≡ word_number (word_at i) → (w ≡ p → ⊥)
    → Seeking t from count p end (i + 1)
unfolding seek
seeks_miss t from count p end i c h w v n =
    let z : end - i ≡ suc (end - suc i) = omega arith in
    record {
      ahead = omega arith;
      bound = c.bound;
      left =
          c.left
          ∙ ap (λ (k : ℕ). seek i k t) z
          ∙ ap (λ (x : Bool). cond x i (seek (suc i) (end - suc i) t)) (miss i t (λ (e : word_number (word_at i) ≡ word_number t). n (v ∙ e ∙ sym c.number)))
          ∙ ap (λ (k : ℕ). seek k (end - k) t) (sym (add-one i));
      number = c.number;
    }

pub seeks_end : (t : List ℕ) (from count p end i : ℕ) → Seeking t from count p end i → end ≤ i → i ≡ seek from count t
unfolding seek
seeks_end t from count p end i c h = let z : end - i ≡ 0 = omega arith in sym (c.left ∙ ap (λ (k : ℕ). seek i k t) z)

-- ---- what the search answers
pub place-there : (t : List ℕ) (from count i : ℕ) → i ≡ seek from count t → i < from + count → Some i ≡ place_of from count t
place-there t from count i e h = let s : seek from count t ≡ i = sym e in rw (s, lt-ltb i (from + count) h)

pub place-nowhere : (t : List ℕ) (from count i : ℕ) → i ≡ seek from count t → from + count ≤ i → None ≡ place_of from count t
place-nowhere t from count i e h = let s : seek from count t ≡ i = sym e in rw (s, le-ltb i (from + count) h)

-- ---- the answers
pub too_long : (k i : ℕ) (t : List ℕ) → i + k ≤ 19 → 7 < length t → seek i k t ≡ i + k
unfolding seek
too_long zero i t h l = sym (native.Mathlib.Nat.add-zero i)
too_long (suc k) i t h l =
    let s : suc i + k ≡ i + suc k = omega arith in
    ap (λ (x : Bool). cond x i (seek (suc i) k t)) (not_same (word_at i) t (λ (e : word_at i ≡ t). longer (word_at i) t (short i (omega arith)) l e))
    ∙ too_long k (suc i) t (omega arith) l
    ∙ s
  where
    longer : (w t : List ℕ) → length w ≤ 7 → 7 < length t → w ≡ t → ⊥
    longer w t a b e = omega (arith, ap length e)

pub place-long : (k i : ℕ) (t : List ℕ) → i + k ≤ 19 → 7 < length t → None ≡ place_of i k t
place-long k i t h l = rw (too_long k i t h l, le-ltb (i + k) (i + k) (omega arith))

module _ (t : List ℕ) where
  pub motion-is : place_of 0 16 t ≡ motion_of t
  unfolding motion_of
  motion-is = refl

  pub motion-at : (i : ℕ) → i ≡ seek 0 16 t → i < 16 → Some i ≡ motion_of t
  unfolding motion_of
  motion-at i e h = rw (← e, lt-ltb i 16 h)

  pub plane-empty : length t ≡ 0 → Some 0 ≡ plane_of t
  unfolding plane_of
  plane-empty z = rw (eq-eqb (length t) 0 z)

  pub motion-long : 7 < length t → None ≡ motion_of t
  unfolding motion_of
  motion-long l = rw (too_long 16 0 t (omega arith) l)

  pub motion-none : (i : ℕ) → i ≡ seek 0 16 t → 16 ≤ i → None ≡ motion_of t
  unfolding motion_of
  motion-none i e h = rw (← e, le-ltb i 16 h)

  pub plane-long : (length t ≡ 0 → ⊥) → 7 < length t → None ≡ plane_of t
  unfolding plane_of
  plane-long z l = rw (ne_eqb (length t) 0 z, too_long 3 16 t (omega arith) l)

  pub plane-at : (i : ℕ) → (length t ≡ 0 → ⊥) → i ≡ seek 16 3 t → i < 19 → Some (i + 1) ≡ plane_of t
  unfolding plane_of
  plane-at i z e h = rw (ne_eqb (length t) 0 z, ← e, lt-ltb i 19 h)

  pub plane-none : (i : ℕ) → (length t ≡ 0 → ⊥) → i ≡ seek 16 3 t → 19 ≤ i → None ≡ plane_of t
  unfolding plane_of
  plane-none i z e h = rw (ne_eqb (length t) 0 z, ← e, le-ltb i 19 h)

  pub plane-found : (i : ℕ) → (length t ≡ 0 → ⊥) → Some i ≡ place_of 16 3 t → (i < 19) × (Some (i + 1) ≡ plane_of t)
  plane-found i z e = go (ltb (seek 16 3 t) 19) refl e
    where
      go : (b : Bool) → ltb (seek 16 3 t) 19 ≡ b → Some i ≡ cond b (Some (seek 16 3 t)) None → (i < 19) × (Some (i + 1) ≡ plane_of t)
      go true b e =
          let h : seek 16 3 t < 19 = ltb-true (seek 16 3 t) 19 b in
          let k : i ≡ seek 16 3 t = cc in
          let l : i < 19 = omega arith in
          (l, plane-at i z k l)
      go false b e = absurd (none_there i e)

  pub plane-lost : (length t ≡ 0 → ⊥) → None ≡ place_of 16 3 t → None ≡ plane_of t
  plane-lost z e = go (ltb (seek 16 3 t) 19) refl e
    where
      go : (b : Bool) → ltb (seek 16 3 t) 19 ≡ b → None ≡ cond b (Some (seek 16 3 t)) None → None ≡ plane_of t
      go true b e = absurd (none_there (seek 16 3 t) (sym e))
      go false b e = plane-none (seek 16 3 t) z refl (ltb-false (seek 16 3 t) 19 b)

-- ---- storing
pub as_word : {o o' : List ℕ} {n r : ℕ} (i w : ℕ) → i < 19 → w ≡ word_number (word_at i) → Wrote o n (chars (w % 8) (w / 8)) o' r → Wrote o n (word_at i) o' r
as_word {o} {o'} {n} {r} i w h e v = subst (λ (t : List ℕ). Wrote o n t o' r) (ap (λ (z : ℕ). chars (z % 8) (z / 8)) e ∙ back_at i h) v

pub as_plane : {o o' : List ℕ} {n r : ℕ} (c : ℕ) → c ≡ 0 → Wrote o n (word_at 0) o' r → Wrote o n (word_at (c - 1)) o' r
as_plane {o} {o'} {n} {r} c e v = let z : 0 ≡ c - 1 = omega arith in subst (λ (i : ℕ). Wrote o n (word_at i) o' r) z v
