-- What a name is by its parts. Assumes nothing.
use Prim.Native.Nat.{ℕ}
use mathlib.Core.Path.{◌≡◌, sym, ap, ◌∙◌}
use mathlib.Core.Bool.{Bool, true, false}
use mathlib.Core.List.{List}
use Rattle.std.specs.Prelude.{eqb}
use lib.Pointwise.{pointwise}
use Rattle.std.proofs.lemmas.Bool.Decides.{Decides-eqb}
use Rattle.std.proofs.lemmas.Slice.Eq.{slice_eq-Decides}
use Rattle.floats.specs.Truth.{or_t, or_f}
use Rattle.csv_words.specs.Text.{bytes}
use Rattle.csv_words.specs.Words.{same}
use Rattle.night_path.specs.declared.Name.{Name}
use Rattle.night_path.specs.Names.{name_of, name_text}
use Rattle.night_path.specs.Comparing.{is_same}
use Rattle.night_ends.specs.Ends.{ends_in, ends_try}
use Rattle.night_names.specs.Ours.{is_our_name, is_ours}

-- the library's test of two lists is `same`
pub as_same : (s t l : List ℕ) (r : Bool) → l ≡ t → r ≡ pointwise eqb s l → r ≡ same s t
as_same s t l r h e = let d = slice_eq-Decides Decides-eqb s t r (e ∙ ap (pointwise eqb s) h) in is_same s t r d.0 d.1

pub is_tries : (t : List ℕ) → same t (bytes "tries") ≡ true → true ≡ is_our_name t
unfolding is_our_name
is_tries t h = sym (or_t _ h)

pub is-curved : (t : List ℕ) → same t (bytes "tries") ≡ false → same t (bytes "curved") ≡ true → true ≡ is_our_name t
unfolding is_our_name
is-curved t n h = sym (or_f _ n ∙ or_t _ h)

pub is-rows : (t : List ℕ) (r : Bool) → same t (bytes "tries") ≡ false → same t (bytes "curved") ≡ false → r ≡ ends_try t → r ≡ is_our_name t
unfolding is_our_name
is-rows t r n m h = h ∙ sym (or_f _ n ∙ or_f _ m)

pub is-part : (t : List ℕ) → ends_in t (bytes ".part") ≡ true → true ≡ is_ours t
unfolding is_ours
is-part t h = sym (or_t _ h)

pub is-named : (t : List ℕ) (n : Name) (r : Bool) → ends_in t (bytes ".part") ≡ false → n ≡ name_of t → r ≡ is_our_name (name_text t n)
    → r ≡ is_ours t
unfolding is_ours
is-named t n r p e h = h ∙ ap (λ (x : Name). is_our_name (name_text t x)) e ∙ sym (or_f _ p)
