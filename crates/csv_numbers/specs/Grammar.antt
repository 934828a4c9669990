-- DEFINITIONS. The texts of numbers (rule 7.8) and of source lines (7.7). `Written t s n k` says that t is a number's text, with the
-- sign s, all its digits making n, and k of them behind the point. Definitions only.
use Rattle.std.specs.Prelude.{ℕ, ◌≤◌, ◌<◌, ◌≡◌, Bool, true, false, ◌&&◌, List, [], ◌∷◌, ◌++◌, T, length}
use Rattle.layout.specs.Layout.{line_numbers}
use Rattle.csv_fields.specs.Read.{is_digit, num}

abbrev pub all_digits : List ℕ → Bool
all_digits [] = true
all_digits (c ∷ t) = is_digit c && all_digits t

pub data Unsigned : List ℕ → ℕ → ℕ → Type 0 where
  plain : (w : List ℕ) → T (all_digits w) → 1 ≤ length w → length w ≤ 9 → Unsigned w (num 0 w) 0
  point : (w f : List ℕ) → T (all_digits w) → 1 ≤ length w → length w ≤ 9 → T (all_digits f) → 1 ≤ length f → length f ≤ 6
      → Unsigned (w ++ (46 ∷ f)) (num 0 (w ++ f)) (length f)

pub data Written : List ℕ → Bool → ℕ → ℕ → Type 0 where
  bare : {t : List ℕ} {n k : ℕ} → Unsigned t n k → Written t false n k
  minus : {t : List ℕ} {n k : ℕ} → Unsigned t n k → Written (45 ∷ t) true n k

-- 7.7: t is the text of the source line n
pub record Numbered (t : List ℕ) (n : ℕ) : Type 0 where
  pub digits : T (all_digits t)
  pub some : 1 ≤ length t
  pub few : length t ≤ 10
  pub value : n ≡ num 0 t
  pub low : n < line_numbers
