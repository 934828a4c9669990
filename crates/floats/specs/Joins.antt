-- LAWS. `flatten` and `keep` over lists joined end to end. Assumes nothing.
use Rattle.std.specs.Prelude.{◌≡◌, refl, Bool, true, false, cond, List, [], ◌∷◌, ◌++◌}
use Rattle.std.proofs.Common.{sym, ap, ◌∙◌, append_assoc, append-nil}
use Rattle.floats.specs.Lists.{keep, flatten}

pub flatten_append : {A : Type 0} (us vs : List (List A)) → flatten (us ++ vs) ≡ flatten us ++ flatten vs
unfolding flatten
flatten_append [] vs = refl
flatten_append (u ∷ us) vs = ap (λ (l : List _). u ++ l) (flatten_append us vs) ∙ sym (append_assoc u (flatten us) (flatten vs))

pub flatten-one : {A : Type 0} (u : List A) → flatten (u ∷ []) ≡ u
unfolding flatten
flatten-one u = append-nil u

pub flatten_snoc : {A : Type 0} (us : List (List A)) (v : List A) → flatten (us ++ (v ∷ [])) ≡ flatten us ++ v
flatten_snoc us v = flatten_append us (v ∷ []) ∙ ap (λ (l : List _). flatten us ++ l) (flatten-one v)

pub keep_append : {A : Type 0} (p : A → Bool) (us vs : List A) → keep p (us ++ vs) ≡ keep p us ++ keep p vs
unfolding keep
keep_append p [] vs = refl
keep_append p (u ∷ us) vs = go (p u) (keep_append p us vs)
  where
    go : (b : Bool) → keep p (us ++ vs) ≡ keep p us ++ keep p vs
        → cond b (u ∷ keep p (us ++ vs)) (keep p (us ++ vs)) ≡ cond b (u ∷ keep p us) (keep p us) ++ keep p vs
    go true e = ap (λ (l : List _). u ∷ l) e
    go false e = e

pub keep-here : {A : Type 0} (p : A → Bool) (x : A) (xs : List A) → p x ≡ true → keep p (x ∷ xs) ≡ x ∷ keep p xs
unfolding keep
keep-here p x xs e = rw e

pub keep-not : {A : Type 0} (p : A → Bool) (x : A) (xs : List A) → p x ≡ false → keep p (x ∷ xs) ≡ keep p xs
unfolding keep
keep-not p x xs e = rw e

pub keep-none : {A : Type 0} (p : A → Bool) → keep p [] ≡ []
unfolding keep
keep-none p = refl
