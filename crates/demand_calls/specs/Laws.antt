-- LAWS. Both branches of a choice, and what holds of each element of a list. Assumes nothing.
use Prim.Native.Nat.{ℕ, zero, suc, ◌*◌, ◌<◌}
use Rattle.std.specs.Prelude.{◌≡◌, refl, Bool, true, false, cond, List, [], ◌∷◌, ◌++◌, length}
use Rattle.std.proofs.Common.{sym, ◌∙◌, arith, le_refl, suc-mul, add_comm, length-append}
use Rattle.std.proofs.Math.Option.{Option, none, some}
use Rattle.std.proofs.Math.Nat.{le_step}
use Rattle.floats.specs.Lists.{upto, keep, flatten}
use Rattle.demand_calls.specs.Every.{Every, nil, more}

-- what holds in both branches
pub cond_both : {A : Type 0} (P : A → Type 0) (b : Bool) {x y : A} → P x → P y → P (cond b x y)
cond_both P true p q = p
cond_both P false p q = q

-- ---- a cell there and not there
pub some_same : {x y : ℕ} → some x ≡ some y → x ≡ y
some_same q = cc

pub none-some : {x : ℕ} → ◌≡◌ {A = Option ℕ} none (some x) → ⊥
none-some q = let z : ◌≡◌ {A = ℕ} 0 1 = cc in omega arith

-- ---- a list of length 0
pub no_elements : {A : Type 0} (l : List A) → length l ≡ 0 → l ≡ []
no_elements [] e = refl
no_elements (x ∷ xs) e = absurd (omega arith)

-- ---- each element of a list
module _ {A : Type 0} {P : A → Type 0} where
  pub every_head : {x : A} {xs : List A} → Every P (x ∷ xs) → P x
  every_head (more p ps) = p

  pub every_tail : {x : A} {xs : List A} → Every P (x ∷ xs) → Every P xs
  every_tail (more p ps) = ps

  pub every_append : {xs ys : List A} → Every P xs → Every P ys → Every P (xs ++ ys)
  every_append nil q = q
  every_append (more p ps) q = more p (every_append ps q)

  pub every_upto : (f : ℕ → A) (n : ℕ) → ((k : ℕ) → k < n → P (f k)) → Every P (upto f n)
  unfolding upto
  every_upto f zero h = nil
  every_upto f (suc n) h = every_append (every_upto f n (λ k l. h k (le_step l))) (more (h n (le_refl (suc n))) nil)

  pub every_flatten : {xs : List (List A)} → Every (Every P) xs → Every P (flatten xs)
  unfolding flatten
  every_flatten nil = nil
  every_flatten (more p ps) = every_append p (every_flatten ps)

  pub every_keep : (t : A → Bool) {xs : List A} → Every P xs → Every P (keep t xs)
  unfolding keep
  every_keep t nil = nil
  every_keep t (more {x = x} p ps) = cond_both (Every P) (t x) (more p (every_keep t ps)) (every_keep t ps)

pub every_imp : {A : Type 0} {P Q : A → Type 0} → ((x : A) → P x → Q x) → {xs : List A} → Every P xs → Every Q xs
every_imp f nil = nil
every_imp f (more {x = x} p ps) = more (f x p) (every_imp f ps)

-- rows of n words each
pub length-flatten : {A : Type 0} (n : ℕ) (xs : List (List A)) → Every (λ (x : List A). length x ≡ n) xs → length (flatten xs) ≡ length xs * n
unfolding flatten
length-flatten n [] p = omega arith
length-flatten n (x ∷ xs) p =
    length-append x (flatten xs) ∙ rw (every_head p, length-flatten n xs (every_tail p)) (add_comm n (length xs * n) ∙ sym (suc-mul (length xs) n))
