-- DEFINITIONS. The lines of an input, each with the LF that ends it. Assumes nothing.
use Rattle.std.specs.Prelude.{ℕ, suc, ◌-◌, cond, List, [], ◌∷◌, ◌++◌, eqb, take, drop}

abbrev pub lf : ℕ
lf = 10

-- how many bytes the first line has, with its LF; one more than there are bytes where there is no LF
unfoldable pub cut : List ℕ → ℕ
cut [] = 1
cut (c ∷ t) = cond (eqb c lf) 1 (suc (cut t))

-- the lines of an input, where `part` stands before it
unfoldable pub lines_from : List ℕ → List ℕ → List (List ℕ)
lines_from part [] = []
lines_from part (c ∷ t) = let more = part ++ (c ∷ []) in cond (eqb c lf) (more ∷ lines_from [] t) (lines_from more t)

-- and what stands behind its last LF
unfoldable pub rest_from : List ℕ → List ℕ → List ℕ
rest_from part [] = part
rest_from part (c ∷ t) = cond (eqb c lf) (rest_from [] t) (rest_from (part ++ (c ∷ [])) t)

-- the bytes of a buffer from `at` up to `end`
abbrev pub between : List ℕ → ℕ → ℕ → List ℕ
between buf at end = take (end - at) (drop at buf)
