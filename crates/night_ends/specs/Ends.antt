-- DEFINITIONS. What a text ends in: rule 11.18. Assumes nothing.
use Rattle.std.specs.Prelude.{ℕ, zero, suc, ◌-◌, Bool, cond, ◌&&◌, List, leb, ltb, length, get_or, take, drop}
use Rattle.csv_words.specs.Text.{bytes}
use Rattle.csv_words.specs.Words.{same}
use Rattle.csv_fields.specs.Read.{is_digit}

-- a text ends in a word
unfoldable pub ends_in : List ℕ → List ℕ → Bool
ends_in t w = leb (length w) (length t) && same (drop (length t - length w) t) w

-- the place at which the digits at the end of the first n bytes begin
unfoldable pub digits_upto : List ℕ → ℕ → ℕ
digits_upto t zero = 0
digits_upto t (suc n) = cond (is_digit (get_or t n 0)) (digits_upto t n) (suc n)

abbrev pub digits_from : List ℕ → ℕ
digits_from t = digits_upto t (length t)

-- the rows of a try: a name that ends in `.try` and digits
unfoldable pub ends_try : List ℕ → Bool
ends_try t = ltb (digits_from t) (length t) && ends_in (take (digits_from t) t) (bytes ".try")
