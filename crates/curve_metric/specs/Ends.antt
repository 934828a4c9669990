-- LAWS. Lists of points: what stands last. Assumes nothing.
use Rattle.std.specs.Prelude.{◌≡◌, refl, List, [], ◌∷◌, ◌++◌, map, ℕ, ◌+◌, ◌-◌, ◌≤◌, length, get_or}
use Rattle.std.proofs.Common.{sym, ap, ◌∙◌, append_assoc, arith, length-append}
use Rattle.std.proofs.lemmas.List.{map-append, get_or_at}

-- xs ends with x
pub record EndsWith {A : Type 0} (xs : List A) (x : A) : Type 0 where
  pub front : List A
  pub is : xs ≡ front ++ (x ∷ [])

module _ {A : Type 0} where
  pub ends-one : (x : A) → EndsWith (x ∷ []) x
  ends-one x = record { front = []; is = refl }

  pub ends_append : (us : List A) {vs : List A} {x : A} → EndsWith vs x → EndsWith (us ++ vs) x
  ends_append us {vs} {x} e = record {
    front = us ++ e.front;
    is = ap (λ (z : List A). us ++ z) e.is ∙ sym (append_assoc us e.front (x ∷ []));
  }

  pub ends_some : {xs : List A} {x : A} → EndsWith xs x → 1 ≤ length xs
  ends_some {xs} {x} e = rw (e.is, length-append e.front (x ∷ [])) (omega arith)

  pub ends_last : {xs : List A} {x : A} → EndsWith xs x → (d : A) → get_or xs (length xs - 1) d ≡ x
  ends_last {xs} {x} e d =
      let n : length xs ≡ length e.front + 1 = ap length e.is ∙ length-append e.front (x ∷ []) in
      let k : length xs - 1 ≡ length e.front = omega arith in
      ap (λ (i : ℕ). get_or xs i d) k ∙ ap (λ (l : List A). get_or l (length e.front) d) e.is ∙ get_or_at e.front x [] d (length e.front) refl

pub ends-map : {A B : Type 0} (f : A → B) {xs : List A} {x : A} → EndsWith xs x → EndsWith (map f xs) (f x)
ends-map f {xs} {x} e = record { front = map f e.front; is = ap (map f) e.is ∙ map-append f e.front (x ∷ []) }
