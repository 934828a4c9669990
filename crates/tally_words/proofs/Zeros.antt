-- LAWS. Words that are all zero. Assumes nothing.
use Rattle.std.proofs.Common.{◌≡◌, refl, ℕ, zero, suc, List, [], ◌∷◌, ◌++◌, sym, ◌∙◌, ap, add-one}
use Rattle.std.proofs.Math.ListN.{replicate}
use Rattle.std.proofs.lemmas.List.{replicate_more}
use Rattle.floats.specs.Lists.{upto}

pub zeros-are : (n : ℕ) → replicate {A = ℕ} n 0 ≡ upto (λ (k : ℕ). 0) n
unfolding upto
zeros-are zero = refl
zeros-are (suc n) = ap (λ (k : ℕ). replicate {A = ℕ} k 0) (sym (add-one n)) ∙ sym (replicate_more n 0) ∙ ap (λ (l : List ℕ). l ++ (0 ∷ [])) (zeros-are n)
