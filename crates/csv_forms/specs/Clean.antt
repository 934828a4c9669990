-- DEFINITIONS. Texts with no quote, comma, CR or LF in them, and lines of such fields: rule 7.3. Assumes nothing.
use Rattle.std.specs.Prelude.{ℕ, ◌≡◌, Bool, true, false, cond, ◌&&◌, not, List, [], ◌∷◌, T, eqb, length}
use Rattle.csv_line.specs.LineText.{comma, parted, joined}
use Rattle.csv_header.specs.Header.{header_out}
use Rattle.csv_write.specs.Writer.{out_fields}

-- 7.3: what a field may hold that is not quoted
abbrev pub clean_byte : ℕ → Bool
clean_byte c = cond (eqb c 34) false (cond (eqb c comma) false (cond (eqb c 13) false (not (eqb c 10))))

abbrev pub clean : List ℕ → Bool
clean [] = true
clean (c ∷ t) = clean_byte c && clean t

abbrev pub clean_all : List (List ℕ) → Bool
clean_all [] = true
clean_all (f ∷ fs) = clean f && clean_all fs

-- a row's line has clean fields, is parted into them, and has as many as the header
pub record CleanLine (r : List ℕ) : Type 0 where
  pub no_quote_comma_cr_lf : T (clean_all (out_fields r))
  pub fields : parted (joined (out_fields r)) ≡ out_fields r
  pub as_headed : length (out_fields r) ≡ length (parted header_out)
