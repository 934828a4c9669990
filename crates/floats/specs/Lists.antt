-- DEFINITIONS. Lists as the definitions write them. Assumes nothing.
use Rattle.std.specs.Prelude.{ℕ, zero, suc, ◌+◌, ◌*◌, ◌<◌, ◌≡◌, Bool, true, false, cond, ◌&&◌, ◌||◌, List, [], ◌∷◌, ◌++◌, eqb, take, drop, length, Float}
use Rattle.std.proofs.Math.Option.{Option, none, some}
use Rattle.floats.specs.Numbers.{at}

-- f 0, f 1, .. up to, not including, f n
unfoldable pub upto : {A : Type 0} → (ℕ → A) → ℕ → List A
upto f zero = []
upto f (suc n) = upto f n ++ (f n ∷ [])

-- the elements that pass, in order
unfoldable pub keep : {A : Type 0} → (A → Bool) → List A → List A
keep p [] = []
keep p (x ∷ xs) = let rest = keep p xs in cond (p x) (x ∷ rest) rest

unfoldable pub member : ℕ → List ℕ → Bool
member k [] = false
member k (x ∷ xs) = eqb x k || member k xs

unfoldable pub any_of : {A : Type 0} → (A → Bool) → List A → Bool
any_of p [] = false
any_of p (x ∷ xs) = p x || any_of p xs

unfoldable pub flatten : {A : Type 0} → List (List A) → List A
flatten [] = []
flatten (x ∷ xs) = x ++ flatten xs

-- what a present cell is made into
abbrev pub opt : {A B : Type 0} → (A → B) → Option A → Option B
opt f none = none
opt f (some x) = some (f x)

abbrev pub is_some : {A : Type 0} → Option A → Bool
is_some none = false
is_some (some x) = true

-- the n numbers of row i, where rows of n stand one after another
abbrev pub row : List Float → ℕ → ℕ → List Float
row xs n i = take n (drop (i * n) xs)

-- the first n rows, of ch numbers each
unfoldable pub rows_of : List Float → ℕ → ℕ → List (List Float)
rows_of xs ch n = upto (row xs ch) n

-- l with f 0 .. f (n - 1) written over its first n
abbrev pub filled : {A : Type 0} → (ℕ → A) → ℕ → List A → List A
filled f n l = upto f n ++ drop n l

-- l with ws written over it from i on
unfoldable pub spliced : List ℕ → ℕ → List ℕ → List ℕ
spliced l i ws = take i l ++ (ws ++ drop (i + length ws) l)

-- the first n of xs are f 0 .. f (n - 1)
unfoldable pub Agrees : List Float → (ℕ → Float) → ℕ → Type 0
Agrees xs f n = (k : ℕ) → k < n → at xs k ≡ f k

-- every k below n
unfoldable pub all : ℕ → (ℕ → Bool) → Bool
all zero f = true
all (suc n) f = all n f && f n
