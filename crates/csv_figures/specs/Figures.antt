-- LAWS. The digits of a number, as they are stored one after another. Assumes nothing.
use Rattle.std.specs.Prelude.{◌≡◌, refl, ℕ, zero, suc, ◌+◌, ◌-◌, ◌/◌, ◌%◌, ◌^◌, ◌≤◌, ◌<◌, List, [], ◌∷◌, ◌++◌, length, set}
use Rattle.std.proofs.Common.{sym, ap, ◌∙◌, div-one, arith, length-set}
use Rattle.std.proofs.Math.Nat.{div-div-eq-div-mul, pow-succ'}
use Rattle.std.proofs.lemmas.List.Edits.{sets}
use Rattle.std.proofs.lemmas.List.{set_comm}
use Rattle.csv_figures.specs.Out.{Wrote}
use Rattle.csv_figures.specs.OutLaws.{sets_append}
use Rattle.csv_figures.specs.Write.{figures}

pub figures-length : (k v : ℕ) → length (figures k v) ≡ k
unfolding figures
figures-length zero v = refl
figures-length (suc k) v = ap suc (figures-length k v)

-- the last digit, and those before it
pub figures-last : (k v : ℕ) → figures (suc k) v ≡ figures k (v / 10) ++ ((48 + v % 10) ∷ [])
unfolding figures
figures-last zero v = ap (λ (z : ℕ). (48 + z % 10) ∷ []) (div-one v)
figures-last (suc k) v =
    ap (λ (z : ℕ). (48 + z % 10) ∷ figures (suc k) v) (ap (λ (z : ℕ). v / z) (pow-succ' 10 k) ∙ sym (div-div-eq-div-mul v 10 (10 ^ k)))
    ∙ ap (λ (l : List ℕ). (48 + v / 10 / 10 ^ k % 10) ∷ l) (figures-last k v)

-- a store behind a text may come before it
pub store-first : (t o : List ℕ) (n i d : ℕ) → n + length t ≤ i → set (sets o n t) i d ≡ sets (set o i d) n t
store-first [] o n i d h = refl
store-first (c ∷ t) o n i d h =
    let apart : i ≡ n → ⊥ = λ (e : i ≡ n). omega arith in
    store-first t (set o n c) (suc n) i d (omega arith) ∙ ap (λ (l : List ℕ). sets l (suc n) t) (sym (set_comm o i n d c apart))

-- ---- the loop: j digits of w are left to store
pub record Storing (o : List ℕ) (n k v : ℕ) (o' : List ℕ) (w j : ℕ) : Type 0 where
  pub few : j ≤ k
  pub same : length o' ≡ length o
  pub rest : sets o' n (figures j w) ≡ sets o n (figures k v)

pub starts : (o : List ℕ) (n k v : ℕ) → Storing o n k v o v k
starts o n k v = record { few = omega arith; same = refl; rest = refl }

pub stores : (o : List ℕ) (n k v : ℕ) (o' : List ℕ) (w j d : ℕ) → Storing o n k v o' w j → 0 < j → d ≡ 48 + w % 10
    → Storing o n k v (set o' (n + (j - 1)) d) (w / 10) (j - 1)
stores o n k v o' w zero d c p e = absurd (omega arith)
stores o n k v o' w (suc j) d c p e =
    let z : suc j - 1 ≡ j = omega arith in
    let f = figures j (w / 10) in
    let l : length f ≡ j = figures-length j (w / 10) in
    record {
      few = omega (arith, c.few);
      same = length-set o' (n + (suc j - 1)) d ∙ c.same;
      rest =
          ap (λ (i : ℕ). sets (set o' (n + i) d) n (figures i (w / 10))) z
          ∙ sym (store-first f o' n (n + j) d (omega arith))
          ∙ ap (λ (i : ℕ). set (sets o' n f) (n + i) d) (sym l)
          ∙ ap (λ (x : ℕ). set (sets o' n f) (n + length f) x) e
          ∙ sym (sets_append f ((48 + w % 10) ∷ []) o' n)
          ∙ ap (sets o' n) (sym (figures-last j w))
          ∙ c.rest;
    }

pub ends : (o : List ℕ) (n k v : ℕ) (o' : List ℕ) (w j : ℕ) → Storing o n k v o' w j → j ≤ 0 → Wrote o n (figures k v) o' (n + k)
unfolding figures
ends o n k v o' w zero c h = record { next = ap (λ (i : ℕ). n + i) (sym (figures-length k v)); text = c.rest }
ends o n k v o' w (suc j) c h = absurd (omega arith)
