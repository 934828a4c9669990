-- LAWS. A text as one number, and back. Assumes nothing.
use Rattle.std.specs.Prelude.{◌≡◌, refl, ℕ, zero, suc, ◌+◌, ◌-◌, ◌*◌, ◌/◌, ◌%◌, ◌^◌, ◌≤◌, ◌<◌, List, [], ◌∷◌, ◌++◌, length, take, get_or, set}
use Rattle.std.proofs.Common.{sym, ap, ◌∙◌, subst, arith, add-one, length-set, take-suc}
use native.Mathlib.Nat.{mul_assoc, mul_comm, mul-suc, add-mul, zero-add, add-zero, add_assoc, mul-one, lt_of_lt_of_le, mod-eq_of_lt, mul-add-div_right}
use native.Mathlib.Nat.{mul-add-mod_self_right}
use Rattle.std.proofs.Math.Arith.{digits_div, digits_mod, digits_lt}
use lib.Pow.{pow-add, pow_pos}
use Rattle.std.proofs.lemmas.List.Edits.{sets}
use Rattle.std.proofs.Math.Seq.{take-length}
use Rattle.csv_figures.specs.Out.{Wrote}
use Rattle.csv_words.specs.Packed.{pack, chars, word_number}

abbrev pub Bytes : List ℕ → Type 0
Bytes t = (k : ℕ) → get_or t k 0 < 256

pub more : (k : ℕ) → 2 ^ (8 * suc k) ≡ 256 * 2 ^ (8 * k)
more k = ap (λ (z : ℕ). 2 ^ z) (mul-suc 8 k) ∙ pow-add 2 (8 * k) 8 ∙ mul_comm (2 ^ (8 * k)) 256

-- ---- `pack`
pub pack-last : (n : ℕ) (t : List ℕ) (c : ℕ) → pack n (t ++ (c ∷ [])) ≡ pack n t * 256 + c
unfolding pack
pack-last n [] c = refl
pack-last n (a ∷ t) c = pack-last (n * 256 + a) t c

pub pack-split : (t : List ℕ) (n : ℕ) → pack n t ≡ n * 2 ^ (8 * length t) + pack 0 t
unfolding pack
pack-split [] n = sym (add-zero (n * 1) ∙ mul-one n)
pack-split (c ∷ t) n =
    let Q = 2 ^ (8 * length t) in
    let a : (n * 256 + c) * Q ≡ n * (256 * Q) + c * Q = add-mul (n * 256) c Q ∙ ap (λ (z : ℕ). z + c * Q) (mul_assoc n 256 Q) in
    let b : (0 * 256 + c) * Q ≡ c * Q = ap (λ (z : ℕ). z * Q) (zero-add c) in
    pack-split t (n * 256 + c)
    ∙ ap (λ (z : ℕ). z + pack 0 t) (a ∙ ap (λ (z : ℕ). n * (256 * Q) + z) (sym b))
    ∙ add_assoc (n * (256 * Q)) ((0 * 256 + c) * Q) (pack 0 t)
    ∙ ap (λ (z : ℕ). n * (256 * Q) + z) (sym (pack-split t (0 * 256 + c)))
    ∙ ap (λ (z : ℕ). n * z + pack (0 * 256 + c) t) (sym (more (length t)))

pub pack-low : (t : List ℕ) → Bytes t → pack 0 t < 2 ^ (8 * length t)
unfolding pack
pack-low [] b = lib.Dec.lit< tt
pack-low (c ∷ t) b =
    let Q = 2 ^ (8 * length t) in
    let h : c * Q + pack 0 t < 256 * Q = digits_lt (b 0) (pack-low t (λ (k : ℕ). b (suc k))) in
    subst (λ (z : ℕ). z < 2 ^ (8 * suc (length t))) (sym (pack-split t (0 * 256 + c) ∙ ap (λ (z : ℕ). z * Q + pack 0 t) (zero-add c)))
    (lt_of_lt_of_le h (native.Mathlib.Nat.le_of_eq (sym (more (length t)))))

-- ---- `chars`
pub chars-low : (k a p : ℕ) → chars k (a * 2 ^ (8 * k) + p) ≡ chars k p
unfolding chars
chars-low zero a p = refl
chars-low (suc k) a p =
    let Q = 2 ^ (8 * k) in
    let e : a * 2 ^ (8 * suc k) + p ≡ a * 256 * Q + p = ap (λ (z : ℕ). a * z + p) (more k) ∙ ap (λ (z : ℕ). z + p) (sym (mul_assoc a 256 Q)) in
    let d : (a * 256 * Q + p) / Q % 256 ≡ p / Q % 256 =
    ap (λ (z : ℕ). z % 256) (mul-add-div_right (pow_pos (8 * k)) (a * 256) p) ∙ mul-add-mod_self_right a 256 (p / Q) in
    ap (chars (suc k)) e ∙ ap (λ (z : ℕ). z ∷ chars k (a * 256 * Q + p)) d ∙ ap (λ (l : List ℕ). (p / Q % 256) ∷ l) (chars-low k (a * 256) p)

pub chars-pack : (t : List ℕ) → Bytes t → chars (length t) (pack 0 t) ≡ t
unfolding chars pack
chars-pack [] b = refl
chars-pack (c ∷ t) b =
    let Q = 2 ^ (8 * length t) in
    let e : pack (0 * 256 + c) t ≡ c * Q + pack 0 t = pack-split t (0 * 256 + c) ∙ ap (λ (z : ℕ). z * Q + pack 0 t) (zero-add c) in
    let d : (c * Q + pack 0 t) / Q % 256 ≡ c = ap (λ (z : ℕ). z % 256) (digits_div c (pack-low t (λ (k : ℕ). b (suc k)))) ∙ mod-eq_of_lt (b 0) in
    ap (λ (v : ℕ). (v / Q % 256) ∷ chars (length t) v) e
    ∙ ap (λ (z : ℕ). z ∷ chars (length t) (c * Q + pack 0 t)) d
    ∙ ap (λ (l : List ℕ). c ∷ l) (chars-low (length t) c (pack 0 t) ∙ chars-pack t (λ (k : ℕ). b (suc k)))

pub number-parts : (t : List ℕ) → length t ≤ 7 → (word_number t % 8 ≡ length t) × (word_number t / 8 ≡ pack 0 t)
unfolding word_number
number-parts t h = let l : length t < 8 = omega arith in (digits_mod (pack 0 t) l, digits_div (pack 0 t) l)

-- a word that is short is told by its number
pub by_number : (t : List ℕ) → Bytes t → length t ≤ 7 → chars (word_number t % 8) (word_number t / 8) ≡ t
by_number t b h =
    let p = number-parts t h in
    ap (λ (k : ℕ). chars k (word_number t / 8)) p.0 ∙ ap (chars (length t)) p.1 ∙ chars-pack t b

-- ---- the loop that packs
pub record Packing (s : List ℕ) (n i : ℕ) : Type 0 where
  pub within : i ≤ length s
  pub made : n ≡ pack 0 (take i s)
  pub low : n < 2 ^ (8 * i)

pub packs_none : (s : List ℕ) → Packing s 0 0
unfolding pack
packs_none s = record { within = omega arith; made = refl; low = lib.Dec.lit< tt }

pub packs_low : {s : List ℕ} {n i : ℕ} → Packing s n i → length s ≤ 7 → n < 2 ^ 56
packs_low {s} {n} {i} c h = lt_of_lt_of_le c.low (lib.Pow.pow_mono (most i (length s) c.within h))
  where
    most : (i l : ℕ) → i ≤ l → l ≤ 7 → 8 * i ≤ 56
    most i l a b = omega arith

pub packs_room : {s : List ℕ} {n i : ℕ} → Packing s n i → length s ≤ 7 → i < length s → n < 2 ^ 48
packs_room {s} {n} {i} c h k = lt_of_lt_of_le c.low (lib.Pow.pow_mono (most i (length s) k h))
  where
    most : (i l : ℕ) → i < l → l ≤ 7 → 8 * i ≤ 48
    most i l a b = omega arith

pub packs_more : (s : List ℕ) (n i b : ℕ) → Packing s n i → i < length s → b ≡ get_or s i 0 → b < 256 → Packing s (n * 256 + b) (i + 1)
packs_more s n i b c h e u =
    record {
      within = omega arith;
      made =
          ap (λ (z : ℕ). z * 256 + b) c.made
          ∙ ap (λ (z : ℕ). pack 0 (take i s) * 256 + z) e
          ∙ sym (pack-last 0 (take i s) (get_or s i 0))
          ∙ ap (pack 0) (sym (take-suc s i 0 h) ∙ ap (λ (k : ℕ). take k s) (sym (add-one i)));
      low = subst (λ (k : ℕ). n * 256 + b < 2 ^ (8 * k)) (sym (add-one i)) (omega (arith, c.low, more i));
    }

pub packs_all : (s : List ℕ) (n i : ℕ) → Packing s n i → length s ≤ i → n ≡ pack 0 s
packs_all s n i c h =
    let e : i ≡ length s = omega (arith, c.within) in
    c.made ∙ ap (λ (k : ℕ). pack 0 (take k s)) e ∙ ap (pack 0) (take-length s)

-- ---- the loop that stores
pub chars-length : (k v : ℕ) → length (chars k v) ≡ k
unfolding chars
chars-length zero v = refl
chars-length (suc k) v = ap suc (chars-length k v)

pub record Storing (o : List ℕ) (n k v : ℕ) (o' : List ℕ) (at j : ℕ) : Type 0 where
  pub place : at + j ≡ n + k
  pub few : j ≤ k
  pub same : length o' ≡ length o
  pub rest : sets o' at (chars j v) ≡ sets o n (chars k v)

pub starts : (o : List ℕ) (n k v : ℕ) → Storing o n k v o n k
starts o n k v = record { place = refl; few = omega arith; same = refl; rest = refl }

pub stores : (o : List ℕ) (n k v : ℕ) (o' : List ℕ) (at j d : ℕ) → Storing o n k v o' at j → 0 < j → d ≡ v / 2 ^ (8 * (j - 1)) % 256
    → Storing o n k v (set o' at d) (at + 1) (j - 1)
unfolding chars
stores o n k v o' at zero d c p e = absurd (omega arith)
stores o n k v o' at (suc j) d c p e =
    let z : suc j - 1 ≡ j = omega arith in
    record {
      place = omega (arith, c.place);
      few = omega (arith, c.few);
      same = length-set o' at d ∙ c.same;
      rest =
          ap (λ (i : ℕ). sets (set o' at d) (at + 1) (chars i v)) z
          ∙ ap (λ (i : ℕ). sets (set o' at d) i (chars j v)) (add-one at)
          ∙ ap (λ (x : ℕ). sets (set o' at x) (suc at) (chars j v)) (e ∙ ap (λ (i : ℕ). v / 2 ^ (8 * i) % 256) z)
          ∙ c.rest;
    }

pub ends : (o : List ℕ) (n k v : ℕ) (o' : List ℕ) (at j : ℕ) → Storing o n k v o' at j → j ≤ 0 → Wrote o n (chars k v) o' at
unfolding chars
ends o n k v o' at zero c h = record { next = omega (arith, c.place, chars-length k v); text = c.rest }
ends o n k v o' at (suc j) c h = absurd (omega arith)
