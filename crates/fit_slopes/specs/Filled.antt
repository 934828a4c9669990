-- LAWS. A list that was filled up to its last place, and one filled alike. Assumes nothing.
use Rattle.std.specs.Prelude.{◌≡◌, List, ◌++◌, ℕ, drop, Float}
use Rattle.std.proofs.Common.{◌∙◌, ap}
use Rattle.floats.specs.Lists.{filled}
use Rattle.floats.specs.Fill.{Filling, upto-same}

pub filling-end : {f : ℕ → Float} {i : ℕ} {l xs : List Float} → Filling f i l xs → (n : ℕ) → i ≡ n → xs ≡ filled f n l
filling-end {f} {i} {l} h n e = h.is ∙ ap (λ (k : ℕ). filled f k l) e

pub filled_same_as : (f g : ℕ → Float) (m n : ℕ) (l : List Float) → m ≡ n → ((k : ℕ) → f k ≡ g k) → filled f m l ≡ filled g n l
filled_same_as f g m n l e h = rw e (ap (λ (u : List Float). u ++ drop n l) (upto-same f g h n))
