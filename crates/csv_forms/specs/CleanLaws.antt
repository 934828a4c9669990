-- LAWS. Clean texts: lines of such fields are parted as they were joined. Assumes nothing.
use Rattle.std.specs.Prelude.{ℕ, zero, suc, ◌+◌, ◌-◌, ◌≤◌, ◌<◌, ◌≡◌, refl, Bool, true, false, cond, not, List, [], ◌∷◌, ◌++◌, T, ltb, eqb}
use Rattle.std.proofs.Common.{sym, ap, ◌∙◌, subst, append-nil, arith}
use Rattle.std.specs.Float.Ieee.Fits.{and_l, and_r, and_i}
use borrow.Author.Tests.{ltb-false, ne_eqb}
use Rattle.row_cells.specs.Codes.{plane_yz}
use Rattle.floats.specs.Lists.{upto, all}
use Rattle.floats.specs.Truth.{all-at}
use Rattle.csv_fields.specs.Read.{is_digit}
use Rattle.csv_numbers.specs.Grammar.{all_digits}
use Rattle.csv_words.specs.Words.{word_at}
use Rattle.csv_line.specs.LineText.{comma, parted, on_first, tailed, joined}
use Rattle.csv_forms.specs.Clean.{clean_byte, clean, clean_all}

pub no-comma : (c : ℕ) → T (clean_byte c) → eqb c comma ≡ false
no-comma c h = go (eqb c 34) (eqb c comma) h
  where
    go : (a b : Bool) → T (cond a false (cond b false (cond (eqb c 13) false (not (eqb c 10))))) → b ≡ false
    go true b h = absurd h
    go false true h = absurd h
    go false false h = refl

pub clean_append : (s t : List ℕ) → T (clean s) → T (clean t) → T (clean (s ++ t))
clean_append [] t a b = b
clean_append (c ∷ s) t a b = and_i (clean_byte c) (clean (s ++ t)) (and_l (clean_byte c) (clean s) a) (clean_append s t (and_r (clean_byte c) (clean s) a) b)

-- a byte above the control ones that is no quote and no comma
pub clean-above : (c : ℕ) → 32 ≤ c → (c ≡ 34 → ⊥) → (c ≡ comma → ⊥) → T (clean_byte c)
clean-above c l q k = rw (ne_eqb c 34 q, ne_eqb c comma k, ne_eqb c 13 (λ (z : c ≡ 13). omega arith), ne_eqb c 10 (λ (z : c ≡ 10). omega arith)) tt

digit_clean : (c : ℕ) → T (is_digit c) → T (clean_byte c)
digit_clean c h = go (ltb c 48) refl h
  where
    go : (b : Bool) → ltb c 48 ≡ b → T (cond b false (ltb c 58)) → T (clean_byte c)
    go true e h = absurd h
    go false e h = let l = ltb-false c 48 e in clean-above c (omega arith) (λ (z : c ≡ 34). omega arith) (λ (z : c ≡ comma). omega arith)

pub digits-clean : (t : List ℕ) → T (all_digits t) → T (clean t)
digits-clean [] h = tt
digits-clean (c ∷ t) h =
    and_i (clean_byte c) (clean t) (digit_clean c (and_l (is_digit c) (all_digits t) h)) (digits-clean t (and_r (is_digit c) (all_digits t) h))

is-clean : (t : List ℕ) → clean t ≡ true → T (clean t)
is-clean t e = subst T (sym e) tt

words-clean : all plane_yz (λ (i : ℕ). clean (word_at i)) ≡ true
unfolding all
words-clean = refl

pub word-clean : (i : ℕ) → i < plane_yz → T (clean (word_at i))
word-clean i h = is-clean (word_at i) (all-at plane_yz (λ (i : ℕ). clean (word_at i)) i words-clean h)

-- ---- a line is parted as it was joined
front : (f u : List ℕ) → T (clean f) → parted (f ++ (comma ∷ u)) ≡ f ∷ parted u
unfolding parted
front [] u h = refl
front (c ∷ f) u h =
    ap (λ (b : Bool). cond b ([] ∷ parted (f ++ (comma ∷ u))) (on_first c (parted (f ++ (comma ∷ u))))) (no-comma c (and_l (clean_byte c) (clean f) h))
    ∙ ap (on_first c) (front f u (and_r (clean_byte c) (clean f) h))

alone : (f : List ℕ) → T (clean f) → parted f ≡ f ∷ []
unfolding parted
alone [] h = refl
alone (c ∷ f) h =
    ap (λ (b : Bool). cond b ([] ∷ parted f) (on_first c (parted f))) (no-comma c (and_l (clean_byte c) (clean f) h))
    ∙ ap (on_first c) (alone f (and_r (clean_byte c) (clean f) h))

pub parted-joined : (f : List ℕ) (fs : List (List ℕ)) → T (clean f) → T (clean_all fs) → parted (joined (f ∷ fs)) ≡ f ∷ fs
unfolding joined tailed
parted-joined f [] a b = ap parted (append-nil f) ∙ alone f a
parted-joined f (g ∷ fs) a b =
    front f (g ++ tailed fs) a ∙ ap (λ (l : List (List ℕ)). f ∷ l) (parted-joined g fs (and_l (clean g) (clean_all fs) b) (and_r (clean g) (clean_all fs) b))

pub clean-all_append : (fs gs : List (List ℕ)) → T (clean_all fs) → T (clean_all gs) → T (clean_all (fs ++ gs))
clean-all_append [] gs a b = b
clean-all_append (f ∷ fs) gs a b =
    and_i (clean f) (clean_all (fs ++ gs)) (and_l (clean f) (clean_all fs) a) (clean-all_append fs gs (and_r (clean f) (clean_all fs) a) b)

pub clean-upto : (g : ℕ → List ℕ) (n : ℕ) → ((i : ℕ) → i < n → T (clean (g i))) → T (clean_all (upto g n))
unfolding upto
clean-upto g zero h = tt
clean-upto g (suc n) h =
    clean-all_append (upto g n) (g n ∷ []) (clean-upto g n (λ (i : ℕ) (l : i < n). h i (omega arith))) (and_i (clean (g n)) true (h n (omega arith)) tt)

-- ---- and joined as it was parted
first-joined : (c : ℕ) (fs : List (List ℕ)) → joined (on_first c fs) ≡ c ∷ joined fs
unfolding joined tailed
first-joined c [] = refl
first-joined c (f ∷ fs) = refl

nothing-joined : joined ([] ∷ []) ≡ []
unfolding joined tailed
nothing-joined = refl

gap-joined : (f : List ℕ) (fs : List (List ℕ)) → joined ([] ∷ f ∷ fs) ≡ comma ∷ joined (f ∷ fs)
unfolding joined tailed
gap-joined f fs = refl

record Some (fs : List (List ℕ)) : Type 0 where
  head : List ℕ
  tail : List (List ℕ)
  is : fs ≡ head ∷ tail

some-parts : (t : List ℕ) → Some (parted t)
unfolding parted
some-parts [] = record { head = []; tail = []; is = refl }
some-parts (c ∷ t) = go (eqb c comma) (parted t)
  where
    go : (b : Bool) (fs : List (List ℕ)) → Some (cond b ([] ∷ fs) (on_first c fs))
    go true fs = record { head = []; tail = fs; is = refl }
    go false [] = record { head = c ∷ []; tail = []; is = refl }
    go false (f ∷ fs) = record { head = c ∷ f; tail = fs; is = refl }

pub joined-parted : (t : List ℕ) → joined (parted t) ≡ t
unfolding parted
joined-parted [] = nothing-joined
joined-parted (c ∷ t) = go (eqb c comma) refl (some-parts t) (joined-parted t)
  where
    go : (b : Bool) → eqb c comma ≡ b → Some (parted t) → joined (parted t) ≡ t → joined (cond b ([] ∷ parted t) (on_first c (parted t))) ≡ c ∷ t
    go true e s r =
        ap (λ (fs : List (List ℕ)). joined ([] ∷ fs)) s.is
        ∙ gap-joined s.head s.tail
        ∙ ap (λ (fs : List (List ℕ)). comma ∷ joined fs) (sym s.is)
        ∙ ap (λ (u : List ℕ). comma ∷ u) r
        ∙ ap (λ (z : ℕ). z ∷ t) (sym (borrow.Author.Tests.eqb-true c comma e))
    go false e s r = first-joined c (parted t) ∙ ap (λ (u : List ℕ). c ∷ u) r
