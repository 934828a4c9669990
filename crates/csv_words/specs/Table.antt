-- LAWS. The table of numbers has the words, each in its place. Assumes nothing.
use Rattle.std.specs.Prelude.{◌≡◌, refl, ℕ, ◌/◌, ◌%◌, ◌≤◌, ◌<◌, true, List, [], ◌∷◌, T, eqb, leb, length, get_or}
use Rattle.std.proofs.Common.{sym, ap, ◌∙◌, subst, eqb→eq, leb-true}
use Rattle.std.proofs.Math.Dec.{eqb_refl}
use Rattle.std.proofs.Math.ListN.{get_or-map}
use lib.Ieee.Fits.{and_l, and_r}
use Rattle.floats.specs.Lists.{all}
use Rattle.floats.specs.Truth.{all-at}
use Rattle.csv_words.specs.Words.{words, word_at, same}
use Rattle.csv_words.specs.Packed.{pack, word_number, chars}

abbrev pub numbers : List ℕ
numbers =
    0 ∷ 145794 ∷ 145802 ∷ 145810 ∷ 145818 ∷ 147099822628434479 ∷ 149351622442119727 ∷ 151603422255804975 ∷ 35277443 ∷ 137890 ∷ 10778993356 ∷ 37329307 ∷ 37329315
    ∷ 37329323 ∷ 2518775110333 ∷ 644806428203710 ∷ 37325243 ∷ 37325251 ∷ 37325259 ∷ []

pub entry_is : (i : ℕ) → get_or numbers i 0 ≡ word_number (word_at i)
unfolding word_number pack
entry_is i = get_or-map word_number words i []

all_short : all 19 (λ (k : ℕ). leb (length (word_at k)) 7) ≡ true
unfolding all
all_short = refl

pub short : (i : ℕ) → i < 19 → length (word_at i) ≤ 7
short i h = leb-true (length (word_at i)) 7 (all-at 19 (λ (k : ℕ). leb (length (word_at k)) 7) i all_short h)

-- ---- `same`
pub same-is : (s t : List ℕ) → T (same s t) → s ≡ t
same-is [] [] h = refl
same-is [] (c ∷ t) h = absurd h
same-is (a ∷ s) [] h = absurd h
same-is (a ∷ s) (c ∷ t) h =
    ap (λ (x : ℕ). x ∷ s) (eqb→eq a c (and_l (eqb a c) (same s t) h)) ∙ ap (λ (l : List ℕ). c ∷ l) (same-is s t (and_r (eqb a c) (same s t) h))

pub same_self : (s : List ℕ) → T (same s s)
same_self [] = tt
same_self (a ∷ s) = lib.Ieee.Fits.and_i (eqb a a) (same s s) (eqb_refl a) (same_self s)

-- the table's numbers give the words back
all_back : all 19 (λ (k : ℕ). same (chars (word_number (word_at k) % 8) (word_number (word_at k) / 8)) (word_at k)) ≡ true
unfolding all chars word_number pack
all_back = refl

pub back_at : (i : ℕ) → i < 19 → chars (word_number (word_at i) % 8) (word_number (word_at i) / 8) ≡ word_at i
back_at i h =
    same-is (chars (word_number (word_at i) % 8) (word_number (word_at i) / 8)) (word_at i)
    (subst T (sym (all-at 19 (λ (k : ℕ). same (chars (word_number (word_at k) % 8) (word_number (word_at k) / 8)) (word_at k)) i all_back h)) tt)
