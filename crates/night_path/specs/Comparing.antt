-- LAWS. The answer of a comparison of bytes is `same`. Assumes nothing.
use Rattle.std.specs.Prelude.{ℕ, ◌-◌, ◌≤◌, ◌≡◌, Bool, true, false, ◌&&◌, List, T, eqb, leb, length, drop}
use Rattle.std.specs.List.{ends_with}
use Rattle.std.proofs.Common.{sym, ◌∙◌, subst}
use Rattle.std.proofs.lemmas.Bool.{false≢true, le-leb}
use Rattle.std.proofs.lemmas.Bool.Decides.{Decides-eqb}
use Rattle.std.proofs.lemmas.Slice.Eq.{slice_eq-Decides}
use Rattle.std.specs.Float.Ieee.Bits.{is_true}
use Rattle.floats.specs.Truth.{by_bit, and_t, and_f}
use Rattle.csv_words.specs.Words.{same}
use Rattle.csv_words.specs.Table.{same-is, same_self}

pub is_same : (s t : List ℕ) (r : Bool) → (r ≡ true → s ≡ t) → (s ≡ t → r ≡ true) → r ≡ same s t
is_same s t r f g = by_bit (same s t) (λ h. yes h) (λ h. no h)
  where
    yes : same s t ≡ true → r ≡ same s t
    yes h = g (same-is s t (subst T (sym h) tt)) ∙ sym h

    no : same s t ≡ false → r ≡ same s t
    no h = by_bit r (λ w. absurd (false≢true (sym h ∙ told (f w)))) (λ w. w ∙ sym h)
      where
        told : s ≡ t → same s t ≡ true
        told e = subst (λ (x : List ℕ). same s x ≡ true) e (is_true (same s s) (same_self s))

-- the library's test of a slice's end is that its last bytes are the word's
pub ends_same : (t w : List ℕ) (r : Bool) → r ≡ ends_with eqb t w → (r ≡ true → length w ≤ length t)
    → r ≡ (leb (length w) (length t) && same (drop (length t - length w) t) w)
ends_same t w r e h =
    let d = slice_eq-Decides Decides-eqb w (drop (length t - length w) t) r e in
    by_bit (leb (length w) (length t))
    (λ l. is_same (drop (length t - length w) t) w r (λ q. sym (d.0 q)) (λ q. d.1 (sym q)) ∙ sym (and_t _ l))
    (λ l. by_bit r (λ q. absurd (false≢true (sym l ∙ le-leb _ _ (h q)))) (λ q. q ∙ sym (and_f _ l)))
