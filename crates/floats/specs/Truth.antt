-- LAWS. Truth values, by which a proof walks a chain of tests. Assumes nothing.
use Rattle.std.specs.Prelude.{ℕ, zero, suc, ◌+◌, ◌<◌, ◌≡◌, refl, Bool, true, false, ◌&&◌, ◌||◌, cond}
use Rattle.std.proofs.Common.{sym, ◌∙◌, ap₂, subst, ⊎_elim, not-suc-le-zero, le_of_suc-le-suc, eq-or-lt_of_le, le_refl, add-one}
use Rattle.std.proofs.lemmas.Bool.{false≢true}
use Rattle.std.proofs.Math.Bool.{and-false}
use Rattle.std.proofs.Math.Nat.{le_step}
use Rattle.floats.specs.Lists.{all}

pub and_t : {a : Bool} (b : Bool) → a ≡ true → (a && b) ≡ b
and_t b p = rw p

pub and_f : {a : Bool} (b : Bool) → a ≡ false → (a && b) ≡ false
and_f b p = rw p

pub or_t : {a : Bool} (b : Bool) → a ≡ true → (a || b) ≡ true
or_t b p = rw p

pub or_f : {a : Bool} (b : Bool) → a ≡ false → (a || b) ≡ b
or_f b p = rw p

pub cond-t {ℓ} : {A : Type ℓ} {b : Bool} (x y : A) → b ≡ true → cond b x y ≡ x
cond-t x y p = rw p

pub cond-f {ℓ} : {A : Type ℓ} {b : Bool} (x y : A) → b ≡ false → cond b x y ≡ y
cond-f x y p = rw p

pub and_i : {a b : Bool} → a ≡ true → b ≡ true → (a && b) ≡ true
and_i p q = rw (p, q)

pub true_of_not_false : (b : Bool) → (b ≡ false → ⊥) → b ≡ true
true_of_not_false true h = refl
true_of_not_false false h = absurd (h refl)

pub and_left : (a b : Bool) → (a && b) ≡ true → a ≡ true
and_left true b p = refl
and_left false b p = p

pub and_right : (a b : Bool) → (a && b) ≡ true → b ≡ true
and_right true b p = p
and_right false b p = absurd (false≢true p)

-- a case for whether a test holds
pub by_bit {ℓ} : {A : Type ℓ} (b : Bool) → (b ≡ true → A) → (b ≡ false → A) → A
by_bit true f g = f refl
by_bit false f g = g refl

-- ---- every k below n
pub all_more : (n : ℕ) (f : ℕ → Bool) → all n f ≡ true → f n ≡ true → all (n + 1) f ≡ true
unfolding all
all_more n f p q = rw (add-one, p, q)

pub all-fails : (n : ℕ) (f : ℕ → Bool) (k : ℕ) → k < n → f k ≡ false → all n f ≡ false
unfolding all
all-fails zero f k h q = absurd (not-suc-le-zero h)
all-fails (suc n) f k h q =
    ⊎_elim
    (λ (w : k ≡ n). rw (subst (λ (i : ℕ). f i ≡ false) w q, and-false))
    (λ (w : k < n). and_f (f n) (all-fails n f k w q))
    (eq-or-lt_of_le (le_of_suc-le-suc h))

pub all-at : (n : ℕ) (f : ℕ → Bool) (k : ℕ) → all n f ≡ true → k < n → f k ≡ true
unfolding all
all-at n f k p h = true_of_not_false (f k) (λ (q : f k ≡ false). false≢true (sym (all-fails n f k h q) ∙ p))

pub all_ext : (n : ℕ) (f g : ℕ → Bool) → ((k : ℕ) → k < n → f k ≡ g k) → all n f ≡ all n g
unfolding all
all_ext zero f g h = refl
all_ext (suc n) f g h = ap₂ (λ (a b : Bool). a && b) (all_ext n f g (λ k l. h k (le_step l))) (h n (le_refl (suc n)))

pub all_intro : (n : ℕ) (f : ℕ → Bool) → ((k : ℕ) → k < n → f k ≡ true) → all n f ≡ true
unfolding all
all_intro zero f h = refl
all_intro (suc n) f h = and_t (f n) (all_intro n f (λ k l. h k (le_step l))) ∙ h n (le_refl (suc n))
