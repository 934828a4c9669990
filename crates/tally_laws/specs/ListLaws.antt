-- LAWS. Lists, counting and seeking. Assumes nothing.
use Rattle.std.specs.Prelude.{ℕ, zero, suc, ◌+◌, ◌<◌, ◌≤◌, ◌≡◌, refl, Bool, true, false, ◌||◌, List, [], ◌∷◌, ◌++◌, length, get_or, eqb, ltb}
use Rattle.std.proofs.Common.{sym, ◌∙◌, ap, ap₂, ⊎_elim, eq-or-lt_of_le, arith, ltb-true, ltb-false, eq-eqb, ne_eqb}
use Rattle.std.proofs.Math.Bool.{or_assoc, or-false}
use Rattle.floats.specs.Lists.{keep, member, any_of}
use Rattle.floats.specs.Truth.{by_bit, or_t, or_f}
use Rattle.tally_words.specs.Words.{bit, count_if}
use Rattle.tally_slot.specs.Slots.{seek}

-- ---- member
pub member-at : (j : ℕ) (xs : List ℕ) (i : ℕ) → i < length xs → get_or xs i 0 ≡ j → member j xs ≡ true
unfolding member
member-at j [] i h e = absurd (omega arith)
member-at j (x ∷ xs) zero h e = or_t _ (eq-eqb x j e)
member-at j (x ∷ xs) (suc i) h e =
    let r : member j xs ≡ true = member-at j xs i (omega arith) e in
    by_bit (eqb x j) (λ b. or_t _ b) (λ b. or_f _ b ∙ r)

pub member-none : (j : ℕ) (xs : List ℕ) → ((i : ℕ) → i < length xs → get_or xs i 0 ≡ j → ⊥) → member j xs ≡ false
unfolding member
member-none j [] h = refl
member-none j (x ∷ xs) h =
    let r : member j xs ≡ false = member-none j xs (λ i l e. h (suc i) (omega arith) e) in
    or_f _ (ne_eqb x j (λ e. h 0 (omega arith) e)) ∙ r

-- ---- any_of, keep
pub any_append : {A : Type 0} (p : A → Bool) (xs ys : List A) → any_of p (xs ++ ys) ≡ (any_of p xs || any_of p ys)
unfolding any_of
any_append p [] ys = refl
any_append p (x ∷ xs) ys = ap (λ (b : Bool). p x || b) (any_append p xs ys) ∙ sym (or_assoc (p x) (any_of p xs) (any_of p ys))

pub any_snoc : {A : Type 0} (p : A → Bool) (xs : List A) (y : A) → any_of p (xs ++ (y ∷ [])) ≡ (any_of p xs || p y)
unfolding any_of
any_snoc p xs y = any_append p xs (y ∷ []) ∙ ap (λ (b : Bool). any_of p xs || b) (or-false (p y))

pub keep_same : (p q : ℕ → Bool) (xs : List ℕ) → ((j : ℕ) → member j xs ≡ true → p j ≡ q j) → keep p xs ≡ keep q xs
unfolding keep member
keep_same p q [] h = refl
keep_same p q (x ∷ xs) h =
    let r : keep p xs ≡ keep q xs = keep_same p q xs (λ j m. h j (by_bit (eqb x j) (λ b. or_t _ b) (λ b. or_f _ b ∙ m))) in
    let e : p x ≡ q x = h x (or_t _ (eq-eqb x x refl)) in
    rw (r, e)

-- ---- counting by index, and over a list
pub count-first : (f : ℕ → Bool) (n : ℕ) → count_if f (suc n) ≡ bit (f 0) + count_if (λ (i : ℕ). f (suc i)) n
unfolding count_if
count-first f zero = omega arith
count-first f (suc n) =
    let r : count_if f n + bit (f n) ≡ bit (f 0) + count_if (λ (i : ℕ). f (suc i)) n = count-first f n in
    omega (arith, r)

pub count_same : (f g : ℕ → Bool) (n : ℕ) → ((i : ℕ) → i < n → f i ≡ g i) → count_if f n ≡ count_if g n
unfolding count_if
count_same f g zero h = refl
count_same f g (suc n) h = ap₂ (λ (x : ℕ) (b : Bool). x + bit b) (count_same f g n (λ i l. h i (omega arith))) (h n (omega arith))

pub count_list : (p : ℕ → Bool) (xs : List ℕ) → count_if (λ (i : ℕ). p (get_or xs i 0)) (length xs) ≡ length (keep p xs)
unfolding keep count_if
count_list p [] = refl
count_list p (x ∷ xs) =
    count-first (λ (i : ℕ). p (get_or (x ∷ xs) i 0)) (length xs)
    ∙ ap (λ (n : ℕ). bit (p x) + n) (count_list p xs)
    ∙ by_bit (p x) (λ b. rw b (omega arith)) (λ b. rw b (omega arith))

-- ---- seek: what it found
pub seek_le : (f : ℕ → Bool) (n : ℕ) → seek f n ≤ n
unfolding seek
seek_le f zero = omega arith
seek_le f (suc n) =
    by_bit (ltb (seek f n) n)
    (λ b. let l : seek f n < n = ltb-true _ _ b in rw b (omega arith))
    (λ b. rw b (by_bit (f n) (λ e. rw e (omega arith)) (λ e. rw e (omega arith))))

pub seek_hit : (f : ℕ → Bool) (n : ℕ) → seek f n < n → f (seek f n) ≡ true
unfolding seek
seek_hit f zero = λ h. absurd (omega arith)
seek_hit f (suc n) =
    by_bit (ltb (seek f n) n)
    (λ b. rw b (λ h. seek_hit f n (ltb-true _ _ b)))
    (λ b. rw b (by_bit (f n) (λ e. rw e (λ h. e)) (λ e. rw e (λ h. absurd (omega arith)))))

pub seek-miss : (f : ℕ → Bool) (n : ℕ) → (k : ℕ) → k < seek f n → k < n → f k ≡ false
unfolding seek
seek-miss f zero k = λ h l. absurd (omega arith)
seek-miss f (suc n) k =
    by_bit (ltb (seek f n) n)
    (λ b. rw b (λ h l. let z : seek f n < n = ltb-true _ _ b in seek-miss f n k h (omega arith)))
    (λ b. let ge : n ≤ seek f n = ltb-false _ _ b in
    rw b (by_bit (f n)
    (λ e. rw e (λ h l. seek-miss f n k (omega arith) h))
    (λ e. rw e (λ h l. ⊎_elim (λ (w : k ≡ n). rw w e) (λ (w : k < n). seek-miss f n k (omega arith) w) (eq-or-lt_of_le {n = k} {m = n} (omega arith))))))
