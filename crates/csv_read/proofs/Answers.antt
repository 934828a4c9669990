-- The reader field after field: what the first field of a text makes of the rest. Assumes nothing.
use Rattle.std.specs.Prelude.{Option as Read, Some, None}
use Prim.Native.Nat.{ℕ, suc, ◌+◌, ◌-◌, ◌≤◌, ◌<◌}
use mathlib.Core.Path.{◌≡◌, refl, sym, ap, ◌∙◌, subst}
use mathlib.Core.Bool.{Bool, true, false}
use mathlib.Core.List.{List, [], ◌∷◌, map}
use mathlib.Core.Option.{Option, none, get_or}
use native.Mathlib.Omega.{arith}
use native.Mathlib.Numerals.{add-one}
use native.Mathlib.Nat.{zero-add}
use lib.ListN.{length, take, drop, set, replicate}
use Rattle.floats.specs.Lists.{upto, is_some}
use Rattle.layout.specs.Layout.{r_present, row_words}
use Rattle.row_cells.specs.Row.{row_of, mask_of}
use Rattle.csv_words.specs.Words.{motion_of, plane_of}
use Rattle.csv_fields.specs.Read.{line_number}
use Rattle.csv_fields.specs.Readers.{tail-is}
use Rattle.csv_line.specs.LineText.{column_count, parted}
use Rattle.csv_cells.specs.Parts.{reach-length, part-more, part-last}
use Rattle.csv_cells.specs.Cells.{cells_ok}
use Rattle.csv_read.specs.Reader.{cell_in, cells_in, from_cells, coded, numbered, from_plane, from_motion, from_line, read_row}
use Rattle.csv_cells.specs.Taking.{reach, word_of, placed, masked, CellsRead}

-- ---- what a reader answers, and what it leaves in the row
abbrev pub Answer : Option (List ℕ) → List ℕ → List ℕ → Bool → Type 0
Answer o row row' r = (r ≡ is_some o) × (row' ≡ get_or o row)

pub nothing : (o : Option (List ℕ)) (row : List ℕ) → o ≡ none → Answer o row row false
nothing o row e = subst (λ (z : Option (List ℕ)). Answer z row row false) (sym e) (refl, refl)

-- ---- the first field ends at `end`
module _ (t : List ℕ) (end : ℕ) (e : end ≡ 0 + reach (drop 0 t)) where
  at-reach : end ≡ reach t
  at-reach = e ∙ zero-add (reach t)

  pub inside : end ≤ length t
  inside = subst (λ (k : ℕ). k ≤ length t) (sym at-reach) (reach-length t)

  only : end ≡ length t → parted t ≡ take end t ∷ []
  only l = part-last t (sym at-reach ∙ l) ∙ ap (λ (k : ℕ). take k t ∷ []) (sym at-reach)

  more : (end ≡ length t → ⊥) → parted t ≡ take end t ∷ parted (take (length t - (end + 1)) (drop (end + 1) t))
  more n =
      let h : end < length t = within end (length t) inside n in
      part-more t (subst (λ (k : ℕ). k < length t) at-reach h)
      ∙ ap (λ (k : ℕ). take k t ∷ parted (drop (suc k) t)) (sym at-reach)
      ∙ ap (λ (k : ℕ). take end t ∷ parted (drop k t)) (sym (add-one end))
      ∙ ap (λ (u : List ℕ). take end t ∷ parted u) (sym (tail-is t (end + 1)))
    where
      within : (a b : ℕ) → a ≤ b → (a ≡ b → ⊥) → a < b
      within a b h n = omega arith

  -- K reads the fields of t, and J those behind the first
  module _ (K : List (List ℕ) → Option (List ℕ)) (row : List ℕ) where
    pub bad_field : ((fs : List (List ℕ)) → K (take end t ∷ fs) ≡ none) → Answer (K (parted t)) row row false
    bad_field h = nothing (K (parted t)) row (go (native.Mathlib.Decide.ℕ_discrete end (length t)))
      where
        go : Dec (end ≡ length t) → K (parted t) ≡ none
        go (yes l) = ap K (only l) ∙ h []
        go (no l) = ap K (more l) ∙ h (parted (take (length t - (end + 1)) (drop (end + 1) t)))

    pub no_more : K (take end t ∷ []) ≡ none → end ≡ length t → Answer (K (parted t)) row row false
    no_more h l = nothing (K (parted t)) row (ap K (only l) ∙ h)

    pub go_on : (J : List (List ℕ) → Option (List ℕ)) → ((fs : List (List ℕ)) → K (take end t ∷ fs) ≡ J fs) → (end ≡ length t → ⊥) → (row' : List ℕ) (r : Bool)
        → Answer (J (parted (take (length t - (end + 1)) (drop (end + 1) t)))) row row' r → Answer (K (parted t)) row row' r
    go_on J h n row' r a =
        subst (λ (o : Option (List ℕ)). Answer o row row' r) (sym (ap K (more n) ∙ h (parted (take (length t - (end + 1)) (drop (end + 1) t))))) a

-- ---- the cells, in a row that is blank but for its first three words
abbrev pub blank : ℕ → ℕ → ℕ → List ℕ
blank l m p = l ∷ m ∷ p ∷ replicate (row_words - 3) 0

mask_is : (fs : List (List ℕ)) → masked fs column_count ≡ mask_of (cells_in fs)
unfolding masked mask_of cells_in cell_in upto
mask_is fs = omega arith

words_are : (l m p : ℕ) (fs : List (List ℕ)) (k : ℕ)
    → set (placed fs (blank l m p) column_count) r_present k ≡ l ∷ m ∷ p ∷ 0 ∷ 0 ∷ k ∷ map word_of (cells_in fs)
unfolding placed cells_in cell_in upto
words_are l m p fs k = refl

row_is : (l m p : ℕ) (fs : List (List ℕ)) → set (placed fs (blank l m p) column_count) r_present (masked fs column_count) ≡ row_of l m p 0 0 (cells_in fs)
unfolding row_of
row_is l m p fs = ap (set (placed fs (blank l m p) column_count) r_present) (mask_is fs) ∙ words_are l m p fs (mask_of (cells_in fs))

module _ (l m p : ℕ) (fs : List (List ℕ)) (row words : List ℕ) where
  pub cells_read : (r : Bool) → r ≡ true → CellsRead fs (blank l m p) words r → (row' : List ℕ) → row' ≡ words → Answer (from_cells l m p fs) row row' true
  unfolding from_cells
  cells_read r e c row' q = rw (← c.good, e) (refl, q ∙ c.words e ∙ row_is l m p fs)

  pub cells-not : (r : Bool) → r ≡ false → CellsRead fs (blank l m p) words r → Answer (from_cells l m p fs) row row false
  unfolding from_cells
  cells-not r e c = rw (← c.good, e) (refl, refl)

-- ---- the plane word, the motion word, the line number
module _ (t : List ℕ) (end : ℕ) (e : end ≡ 0 + reach (drop 0 t)) (row : List ℕ) where
  module _ (l m : ℕ) where
    pub plane_nowhere : None ≡ plane_of (take end t) → Answer (from_plane l m (parted t)) row row false
    plane_nowhere q = bad_field t end e (from_plane l m) row (λ (fs : List (List ℕ)). ap (λ (f : Read ℕ). coded f (λ (c : ℕ). from_cells l m c fs)) (sym q))

    pub plane-last : (c : ℕ) → Some c ≡ plane_of (take end t) → end ≡ length t → Answer (from_plane l m (parted t)) row row false
    unfolding from_cells cells_ok
    plane-last c q = no_more t end e (from_plane l m) row (ap (λ (f : Read ℕ). coded f (λ (c : ℕ). from_cells l m c [])) (sym q))

    pub plane-on : (c : ℕ) → Some c ≡ plane_of (take end t) → (end ≡ length t → ⊥) → (row' : List ℕ) (r : Bool)
        → Answer (from_cells l m c (parted (take (length t - (end + 1)) (drop (end + 1) t)))) row row' r → Answer (from_plane l m (parted t)) row row' r
    plane-on c q =
        go_on t end e (from_plane l m) row (from_cells l m c) (λ (fs : List (List ℕ)). ap (λ (f : Read ℕ). coded f (λ (c : ℕ). from_cells l m c fs)) (sym q))

  module _ (l : ℕ) where
    pub motion_nowhere : None ≡ motion_of (take end t) → Answer (from_motion l (parted t)) row row false
    motion_nowhere q = bad_field t end e (from_motion l) row (λ (fs : List (List ℕ)). ap (λ (f : Read ℕ). coded f (λ (c : ℕ). from_plane l c fs)) (sym q))

    pub motion-last : (c : ℕ) → Some c ≡ motion_of (take end t) → end ≡ length t → Answer (from_motion l (parted t)) row row false
    motion-last c q = no_more t end e (from_motion l) row (ap (λ (f : Read ℕ). coded f (λ (c : ℕ). from_plane l c [])) (sym q))

    pub motion-on : (c : ℕ) → Some c ≡ motion_of (take end t) → (end ≡ length t → ⊥) → (row' : List ℕ) (r : Bool)
        → Answer (from_plane l c (parted (take (length t - (end + 1)) (drop (end + 1) t)))) row row' r → Answer (from_motion l (parted t)) row row' r
    motion-on c q =
        go_on t end e (from_motion l) row (from_plane l c) (λ (fs : List (List ℕ)). ap (λ (f : Read ℕ). coded f (λ (c : ℕ). from_plane l c fs)) (sym q))

  pub line_bad : None ≡ line_number (take end t) → Answer (read_row t) row row false
  unfolding read_row
  line_bad q = bad_field t end e from_line row (λ (fs : List (List ℕ)). ap (λ (f : Read ℕ). numbered f (λ (n : ℕ). from_motion n fs)) (sym q))

  pub line-last : (n : ℕ) → Some n ≡ line_number (take end t) → end ≡ length t → Answer (read_row t) row row false
  unfolding read_row
  line-last n q = no_more t end e from_line row (ap (λ (f : Read ℕ). numbered f (λ (n : ℕ). from_motion n [])) (sym q))

  pub line_on : (n : ℕ) → Some n ≡ line_number (take end t) → (end ≡ length t → ⊥) → (row' : List ℕ) (r : Bool)
      → Answer (from_motion n (parted (take (length t - (end + 1)) (drop (end + 1) t)))) row row' r → Answer (read_row t) row row' r
  unfolding read_row
  line_on n q = go_on t end e from_line row (from_motion n) (λ (fs : List (List ℕ)). ap (λ (f : Read ℕ). numbered f (λ (n : ℕ). from_motion n fs)) (sym q))
