-- DEFINITIONS. The motion words, whose places are their codes, and then the plane words: rules 1.9, 7.6. The spare codes 16 to 31 have
-- none. Definitions only.
use Rattle.std.specs.Prelude.{ℕ, zero, suc, ◌+◌, ◌-◌, Bool, true, false, cond, ◌&&◌, List, [], ◌∷◌, map, eqb, ltb, length, get_or, Option, Some, None}
use Rattle.csv_words.specs.Text.{bytes}

-- 7.5, 7.6: each motion word at its number, then the plane words;
-- an empty field is the word of no motion and of no plane
abbrev pub words : List (List ℕ)
words =
    map bytes
    ("" ∷ "G0" ∷ "G1" ∷ "G2" ∷ "G3" ∷ "ASPLINE" ∷ "BSPLINE" ∷ "CSPLINE" ∷ "CIP" ∷ "CT" ∷ "POLY" ∷ "G33" ∷ "G34" ∷ "G35" ∷ "INVCW" ∷ "INVCCW"
    ∷ "G17" ∷ "G18" ∷ "G19" ∷ [])

abbrev pub word_at : ℕ → List ℕ
word_at i = get_or words i []

-- the word of a plane's code: none, 17, 18 or 19
abbrev pub plane_text : ℕ → List ℕ
plane_text c = word_at (c - 1)

abbrev pub same : List ℕ → List ℕ → Bool
same [] [] = true
same [] (c ∷ t) = false
same (a ∷ s) [] = false
same (a ∷ s) (c ∷ t) = eqb a c && same s t

-- the first place from i on, of k places, at which t stands among the words, and the place behind them where it does not
unfoldable pub seek : ℕ → ℕ → List ℕ → ℕ
seek i zero t = i
seek i (suc k) t = cond (same (word_at i) t) i (seek (suc i) k t)

-- that place, where t stands there
abbrev pub place_of : ℕ → ℕ → List ℕ → Option ℕ
place_of i k t = cond (ltb (seek i k t) (i + k)) (Some (seek i k t)) None

-- the code of a motion word, 0 for none
unfoldable pub motion_of : List ℕ → Option ℕ
unfolding seek
motion_of t = cond (ltb (seek 0 16 t) 16) (Some (seek 0 16 t)) None

-- the code of a plane word, 17 to 19, 0 for none
unfoldable pub plane_of : List ℕ → Option ℕ
unfolding seek
plane_of t = cond (eqb (length t) 0) (Some 0) (cond (ltb (seek 16 3 t) 19) (Some (seek 16 3 t + 1)) None)
