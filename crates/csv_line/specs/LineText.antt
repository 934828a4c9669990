-- DEFINITIONS. Lines and fields: rules 7.3, 7.4. Assumes nothing.
use Rattle.std.specs.Prelude.{ℕ, ◌+◌, ◌-◌, cond, List, [], ◌∷◌, ◌++◌, eqb, ltb, length, get_or, Option, Some, None}
use Rattle.layout.specs.Layout.{axis_codes, c_offset, c_cr, c_turn, c_pw, c_sd}

abbrev pub comma : ℕ
comma = 44

-- 7.3: the end of every line
abbrev pub crlf : List ℕ
crlf = 13 ∷ 10 ∷ []

-- where the text of a line ends, before its CRLF
unfoldable pub end_of : List ℕ → Option ℕ
end_of s =
    cond (ltb (length s) 2) None
    (cond (eqb (get_or s (length s - 2) 0) 13) (cond (eqb (get_or s (length s - 2 + 1) 0) 10) (Some (length s - 2)) None) None)

-- 7.4: the codes of X Y Z I J K CR TURN PW SD F
abbrev pub columns : List ℕ
columns = 0 ∷ 1 ∷ 2 ∷ c_offset ∷ (c_offset + 1) ∷ (c_offset + 2) ∷ c_cr ∷ c_turn ∷ c_pw ∷ c_sd ∷ (axis_codes + 1) ∷ []

abbrev pub column_count : ℕ
column_count = 11

abbrev pub code_at : ℕ → ℕ
code_at i = get_or columns i 0

-- 7.3: fields with commas between them; `tailed` puts one before each
unfoldable pub tailed : List (List ℕ) → List ℕ
tailed [] = []
tailed (f ∷ fs) = comma ∷ (f ++ tailed fs)

unfoldable pub joined : List (List ℕ) → List ℕ
unfolding tailed
joined [] = []
joined (f ∷ fs) = f ++ tailed fs

-- the fields of a line: it is parted at its commas, since none is quoted
abbrev pub on_first : ℕ → List (List ℕ) → List (List ℕ)
on_first c [] = (c ∷ []) ∷ []
on_first c (f ∷ fs) = (c ∷ f) ∷ fs

unfoldable pub parted : List ℕ → List (List ℕ)
parted [] = [] ∷ []
parted (c ∷ t) = cond (eqb c comma) ([] ∷ parted t) (on_first c (parted t))
