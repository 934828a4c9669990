-- LAWS. `number` takes the texts that have the form of a number, and no others; so does `line_number` with line numbers. Assumes nothing.
use Rattle.std.specs.Prelude.{◌≡◌, ltb, drop, get_or, Float, Some, None}
use Rattle.std.proofs.Math.Path.{refl, ap}
use Rattle.std.proofs.Common.{sym, ◌∙◌, subst, le_refl, le_of_eq, arith, length-append, take_at, length-take-le}
use Prim.Native.Nat.{ℕ, zero, suc, ◌+◌, ◌-◌, ◌*◌, ◌≤◌, ◌<◌}
use mathlib.Core.Bool.{Bool, true, false, cond}
use mathlib.Core.List.{List, [], ◌∷◌, ◌++◌, append-nil}
use Rattle.std.proofs.Math.Dec.{T, eqb}
use Rattle.std.proofs.Math.ListN.{length, take}
use Rattle.std.proofs.lemmas.List.{get_or_at}
use Rattle.std.proofs.Math.Seq.{drop-append-add, take_all, split_at}
use Rattle.std.specs.Float.Ieee.Fits.{and_l, and_r, and_i}
use Rattle.std.specs.Float.Ieee.Bits.{is_true}
use borrow.Author.Tests.{ltb-true, ltb-false, eqb-true, eqb-false}
use Rattle.layout.specs.Layout.{line_numbers}
use Rattle.csv_decimal.specs.Decimal.{quotient}
use Rattle.csv_fields.specs.Read.{is_digit, run, num, fraction, unsigned, number, line_number}
use Rattle.csv_numbers.specs.Grammar.{all_digits, Unsigned, plain, point, Written, bare, minus, Numbered}
use Rattle.csv_fields.specs.Scans.{run-nil, run_more, run-stops, run-most, run_length_lem}
use Rattle.csv_fields.specs.Readers.{frac_some, uns_whole, uns_point, minus_in, no_minus, tail-is, line_at}

-- ---- runs of digits
run-digits : (m : ℕ) (w r : List ℕ) → T (all_digits w) → length w ≤ m → ((i : ℕ) → run i r ≡ 0) → run m (w ++ r) ≡ length w
run-digits m [] r d h e = e m
run-digits zero (c ∷ w) r d h e = absurd (omega arith)
run-digits (suc m) (c ∷ w) r d h e =
    run_more m c (w ++ r) (is_true (is_digit c) (and_l (is_digit c) (all_digits w) d))
    ∙ ap suc (run-digits m w r (and_r (is_digit c) (all_digits w) d) (omega arith) e)

all-run : (m : ℕ) (t : List ℕ) → T (all_digits (take (run m t) t))
unfolding run
all-run zero t = tt
all-run (suc m) [] = tt
all-run (suc m) (c ∷ t) = go (is_digit c) refl (all-run m t)
  where
    go : (b : Bool) → is_digit c ≡ b → T (all_digits (take (run m t) t)) → T (all_digits (take (cond b (suc (run m t)) 0) (c ∷ t)))
    go true e h = and_i (is_digit c) (all_digits (take (run m t) t)) (subst T (sym e) tt) h
    go false e h = tt

num_append : (s t : List ℕ) (n : ℕ) → num n (s ++ t) ≡ num (num n s) t
unfolding num
num_append [] t n = refl
num_append (c ∷ s) t n = num_append s t (n * 10 + (c - 48))

-- ---- what has the form is read
module _ (s : Bool) where
  fraction_of : (n : ℕ) (f : List ℕ) → T (all_digits f) → 1 ≤ length f → length f ≤ 6 → Some (quotient s (num n f) (length f)) ≡ fraction s n f
  fraction_of n f d l h =
      let r : run 6 f ≡ length f = ap (run 6) (sym (append-nil f)) ∙ run-digits 6 f [] d h run-nil in
      let t : take (length f) f ≡ f = take_all (length f) f (le_refl (length f)) in
      frac_some s n f (length f) (num n f) (sym r) (ap (num n) (sym t)) (λ (e : length f ≡ 0). omega arith) refl (quotient s (num n f) (length f)) refl

  unsigned_of : (t : List ℕ) (n k : ℕ) → Unsigned t n k → Some (quotient s n k) ≡ unsigned s t
  unsigned_of t n k (plain w d l h) =
      let r : run 9 w ≡ length w = ap (run 9) (sym (append-nil w)) ∙ run-digits 9 w [] d h run-nil in
      let e : take (length w) w ≡ w = take_all (length w) w (le_refl (length w)) in
      uns_whole s w (length w) (num 0 w) (sym r) (ap (num 0) (sym e)) (λ (z : length w ≡ 0). omega arith) refl (quotient s (num 0 w) 0) refl
  unsigned_of t n k (point w f d l h d' l' h') =
      let t : List ℕ = w ++ (46 ∷ f) in
      let a = length w in
      let r : run 9 t ≡ a = run-digits 9 w (46 ∷ f) d h (λ (i : ℕ). run-stops i 46 f refl) in
      let len : length t ≡ a + suc (length f) = length-append w (46 ∷ f) in
      let rest : drop (a + 1) t ≡ f = drop-append-add w (46 ∷ f) 1 in
      uns_point s t a (num 0 w) (sym r) (ap (num 0) (sym (take_at w (46 ∷ f) a refl))) (λ (z : a ≡ 0). omega arith) (λ (z : a ≡ length t). omega arith)
      (get_or_at w 46 f 0 a refl)
      (Some (quotient s (num 0 (w ++ f)) (length f)))
      (ap (λ (v : ℕ). Some (quotient s v (length f))) (num_append w f 0)
      ∙ fraction_of (num 0 w) f d' l' h'
      ∙ ap (fraction s (num 0 w)) (sym (tail-is t (a + 1) ∙ rest)))

no_sign : (w r : List ℕ) → T (all_digits w) → 1 ≤ length w → get_or (w ++ r) 0 0 ≡ 45 → ⊥
no_sign [] r d l e = omega arith
no_sign (c ∷ w) r d l e = go (ltb c 48) refl (and_l (is_digit c) (all_digits w) d)
  where
    go : (b : Bool) → ltb c 48 ≡ b → T (cond b false (ltb c 58)) → ⊥
    go true h t = t
    go false h t = omega (arith, ltb-false c 48 h)

bare-start : (t : List ℕ) (n k : ℕ) → Unsigned t n k → get_or t 0 0 ≡ 45 → ⊥
bare-start t n k (plain w d l h) e = no_sign w [] d l (ap (λ (x : List ℕ). get_or x 0 0) (append-nil w) ∙ e)
bare-start t n k (point w f d l h d' l' h') e = no_sign w (46 ∷ f) d l e

pub form_read : (t : List ℕ) (s : Bool) (n k : ℕ) → Written t s n k → number t ≡ Some (quotient s n k)
form_read t s n k (bare {t = u} u') = sym (no_minus u (bare-start u n k u') (Some (quotient false n k)) (unsigned_of false u n k u'))
form_read t s n k (minus {t = u} u') =
    let v : List ℕ = 45 ∷ u in
    sym (minus_in v refl (Some (quotient true n k)) (unsigned_of true u n k u' ∙ ap (unsigned true) (sym (tail-is v 1))))

-- ---- what is read has the form
pub record Formed (t : List ℕ) (x : Float) : Type 0 where
  pub sign : Bool
  pub whole : ℕ
  pub places : ℕ
  pub form : Written t sign whole places
  pub value : x ≡ quotient sign whole places

record Plain (s : Bool) (t : List ℕ) (x : Float) : Type 0 where
  whole : ℕ
  places : ℕ
  form : Unsigned t whole places
  value : x ≡ quotient s whole places

pub no_value : (x : Float) → None ≡ Some x → ⊥
no_value x e = let z : ◌≡◌ {A = ℕ} 0 1 = cc in omega arith

inner : (x y : Float) → Some y ≡ Some x → x ≡ y
inner x y e = cc

module _ (s : Bool) (x : Float) where
  of_fraction : (w t : List ℕ) → T (all_digits w) → 1 ≤ length w → length w ≤ 9 → fraction s (num 0 w) t ≡ Some x → Plain s (w ++ (46 ∷ t)) x
  unfolding fraction
  of_fraction w t d l h e = go (eqb (run 6 t) 0) (eqb (run 6 t) (length t)) refl refl e
    where
      go : (a b : Bool) → eqb (run 6 t) 0 ≡ a → eqb (run 6 t) (length t) ≡ b
          → cond a None (cond b (Some (quotient s (num (num 0 w) (take (run 6 t) t)) (run 6 t))) None) ≡ Some x
          → Plain s (w ++ (46 ∷ t)) x
      go true b p q e = absurd (no_value x e)
      go false false p q e = absurd (no_value x e)
      go false true p q e =
          let r : run 6 t ≡ length t = eqb-true (run 6 t) (length t) q in
          let n : run 6 t ≡ 0 → ⊥ = eqb-false (run 6 t) 0 p in
          let m : run 6 t ≤ 6 = run-most 6 t in
          let k : take (run 6 t) t ≡ t = take_all (run 6 t) t (le_of_eq (sym r)) in
          record {
            whole = num 0 (w ++ t);
            places = length t;
            form = point w t d l h (subst (λ (z : List ℕ). T (all_digits z)) k (all-run 6 t)) (omega arith) (omega arith);
            value =
                inner x (quotient s (num (num 0 w) (take (run 6 t) t)) (run 6 t)) e
                ∙ ap (λ (z : List ℕ). quotient s (num (num 0 w) z) (run 6 t)) k
                ∙ ap (λ (z : ℕ). quotient s z (run 6 t)) (sym (num_append w t 0))
                ∙ ap (quotient s (num 0 (w ++ t))) r;
          }

  of_unsigned : (t : List ℕ) → unsigned s t ≡ Some x → Plain s t x
  unfolding unsigned
  of_unsigned t e = go (eqb (run 9 t) 0) (eqb (run 9 t) (length t)) (eqb (get_or t (run 9 t) 0) 46) refl refl refl e
    where
      a : ℕ
      a = run 9 t

      w : List ℕ
      w = take (run 9 t) t

      go : (p q r : Bool) → eqb (run 9 t) 0 ≡ p → eqb (run 9 t) (length t) ≡ q → eqb (get_or t (run 9 t) 0) 46 ≡ r
          → cond p None (cond q (Some (quotient s (num 0 (take (run 9 t) t)) 0))
          (cond r (fraction s (num 0 (take (run 9 t) t)) (drop (suc (run 9 t)) t)) None)) ≡ Some x
          → Plain s t x
      go true q r f g i e = absurd (no_value x e)
      go false true r f g i e =
          let k : run 9 t ≡ length t = eqb-true (run 9 t) (length t) g in
          let n : run 9 t ≡ 0 → ⊥ = eqb-false (run 9 t) 0 f in
          let m : run 9 t ≤ 9 = run-most 9 t in
          let z : take (run 9 t) t ≡ t = take_all (run 9 t) t (le_of_eq (sym k)) in
          record {
            whole = num 0 t;
            places = 0;
            form = plain t (subst (λ (u : List ℕ). T (all_digits u)) z (all-run 9 t)) (omega arith) (omega arith);
            value = inner x (quotient s (num 0 (take (run 9 t) t)) 0) e ∙ ap (λ (u : List ℕ). quotient s (num 0 u) 0) z;
          }
      go false false false f g i e = absurd (no_value x e)
      go false false true f g i e =
          let n : run 9 t ≡ 0 → ⊥ = eqb-false (run 9 t) 0 f in
          let o : run 9 t ≡ length t → ⊥ = eqb-false (run 9 t) (length t) g in
          let m : run 9 t ≤ 9 = run-most 9 t in
          let j : run 9 t ≤ length t = run_length_lem 9 t in
          let l : length (take (run 9 t) t) ≡ run 9 t = length-take-le (run 9 t) t j in
          let p : get_or t (run 9 t) 0 ≡ 46 = eqb-true (get_or t (run 9 t) 0) 46 i in
          let u : t ≡ take (run 9 t) t ++ (46 ∷ drop (suc (run 9 t)) t) =
          split_at t (run 9 t) 0 (omega arith) ∙ ap (λ (c : ℕ). take (run 9 t) t ++ (c ∷ drop (suc (run 9 t)) t)) p in
          subst (λ (z : List ℕ). Plain s z x) (sym u) (of_fraction (take (run 9 t) t) (drop (suc (run 9 t)) t) (all-run 9 t) (omega arith) (omega arith) e)

pub read_form : (t : List ℕ) (x : Float) → number t ≡ Some x → Formed t x
unfolding number
read_form t x e = go t (eqb (get_or t 0 0) 45) refl e
  where
    go : (t : List ℕ) (b : Bool) → eqb (get_or t 0 0) 45 ≡ b → cond b (unsigned true (drop 1 t)) (unsigned false t) ≡ Some x → Formed t x
    go t false h e = let p = of_unsigned false x t e in record { sign = false; whole = p.whole; places = p.places; form = bare p.form; value = p.value }
    go [] true h e = absurd (mathlib.Core.Bool.false≢true h)
    go (c ∷ t) true h e =
        let p = of_unsigned true x t e in
        record {
          sign = true;
          whole = p.whole;
          places = p.places;
          form = subst (λ (z : ℕ). Written (z ∷ t) true p.whole p.places) (sym (eqb-true c 45 h)) (minus p.form);
          value = p.value;
        }

-- ---- line numbers
pub line-form_read : (t : List ℕ) (n : ℕ) → Numbered t n → line_number t ≡ Some n
line-form_read t n f =
    let r : run 10 t ≡ length t = ap (run 10) (sym (append-nil t)) ∙ run-digits 10 t [] f.digits f.few run-nil in
    let k : take (length t) t ≡ t = take_all (length t) t (le_refl (length t)) in
    sym (line_at t (length t) n (sym r) (f.value ∙ ap (num 0) (sym k)) (λ (e : length t ≡ 0). omega (arith, f.some)) refl f.low)

no_line : (n : ℕ) → None ≡ Some n → ⊥
no_line n e = let z : ◌≡◌ {A = ℕ} 0 1 = cc in omega arith

same_line : (a b : ℕ) → Some a ≡ Some b → a ≡ b
same_line a b e = cc

pub line_read_form : (t : List ℕ) (n : ℕ) → line_number t ≡ Some n → Numbered t n
unfolding line_number
line_read_form t n e = go (eqb (run 10 t) 0) (eqb (run 10 t) (length t)) (ltb (num 0 (take (run 10 t) t)) line_numbers) refl refl refl e
  where
    go : (a b c : Bool) → eqb (run 10 t) 0 ≡ a → eqb (run 10 t) (length t) ≡ b → ltb (num 0 (take (run 10 t) t)) line_numbers ≡ c
        → cond a None (cond b (cond c (Some (num 0 (take (run 10 t) t))) None) None) ≡ Some n → Numbered t n
    go true b c p q r e = absurd (no_line n e)
    go false false c p q r e = absurd (no_line n e)
    go false true false p q r e = absurd (no_line n e)
    go false true true p q r e =
        let k : run 10 t ≡ length t = eqb-true (run 10 t) (length t) q in
        let o : run 10 t ≡ 0 → ⊥ = eqb-false (run 10 t) 0 p in
        let m : run 10 t ≤ 10 = run-most 10 t in
        let z : take (run 10 t) t ≡ t = take_all (run 10 t) t (le_of_eq (sym k)) in
        let v : num 0 (take (run 10 t) t) ≡ n = same_line (num 0 (take (run 10 t) t)) n e in
        record {
          digits = subst (λ (u : List ℕ). T (all_digits u)) z (all-run 10 t);
          some = omega arith;
          few = omega arith;
          value = sym v ∙ ap (num 0) z;
          low = subst (λ (x : ℕ). x < line_numbers) v (ltb-true (num 0 (take (run 10 t) t)) line_numbers r);
        }
