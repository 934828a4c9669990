-- LAWS. Words written before others that are written already, from the last to the first; what is read before them. Assumes nothing.
use Prim.Native.Nat.{ℕ, suc, ◌+◌, ◌*◌, ◌≤◌, ◌<◌}
use mathlib.Core.Path.{◌≡◌, refl, sym, ◌∙◌, ap}
use mathlib.Core.List.{List, [], ◌++◌, append_assoc}
use native.Mathlib.Nat.{add_assoc}
use native.Mathlib.Numerals.{add-one}
use native.Mathlib.Omega.{arith}
use lib.ListN.{length, take, drop, length-append}
use lib.Seq.{drop_at, drop-cons, drop-length, take-append-le, take-take, length-take-le, take-add}
use Rattle.floats.specs.Lists.{upto, flatten, spliced}
use Rattle.floats.specs.Fill.{length-upto, at-upto}
use Rattle.floats.specs.Splice.{spliced-none}
use Rattle.spline_sample.specs.Raw.{raw_at}

spliced-before : (l : List ℕ) (i k : ℕ) (xs ys : List ℕ) → k ≡ i + length xs → k ≤ length l → spliced (spliced l k ys) i xs ≡ spliced l i (xs ++ ys)
unfolding spliced
spliced-before l i k xs ys e h =
    let rest : List ℕ = drop (k + length ys) l in
    let all : List ℕ = take k l ++ (ys ++ rest) in
    let short : i ≤ length (take k l) = rw (length-take-le k l h) (omega arith) in
    let t : take i all ≡ take i l = take-append-le i (take k l) (ys ++ rest) short ∙ take-take i k l (omega arith) in
    let d : drop (i + length xs) all ≡ ys ++ rest = drop_at (take k l) (ys ++ rest) (i + length xs) (length-take-le k l h ∙ e) in
    let n : k + length ys ≡ i + length (xs ++ ys) =
    ap (λ (z : ℕ). z + length ys) e ∙ add_assoc i (length xs) (length ys) ∙ ap (λ (z : ℕ). i + z) (sym (length-append xs ys)) in
    ap (λ (z : List ℕ). z ++ (xs ++ drop (i + length xs) all)) t
    ∙ ap (λ (z : List ℕ). take i l ++ (xs ++ z)) d
    ∙ ap (λ (z : List ℕ). take i l ++ z) (sym (append_assoc xs ys rest) ∙ ap (λ (z : ℕ). (xs ++ ys) ++ drop z l) n)

-- what stands before the place of writing
take-spliced : (l : List ℕ) (i a : ℕ) (xs : List ℕ) → a ≤ i → i ≤ length l → take a (spliced l i xs) ≡ take a l
unfolding spliced
take-spliced l i a xs h g = take-append-le a (take i l) (xs ++ drop (i + length xs) l) (rw (length-take-le i l g) (omega arith)) ∙ take-take a i l h

-- the part from a on, n long, goes by the first a + n
part_by : (l : List ℕ) (a n : ℕ) → a ≤ length l → take n (drop a l) ≡ drop a (take (a + n) l)
part_by l a n h = sym (ap (drop a) (take-add a n l) ∙ drop_at (take a l) (take n (drop a l)) a (length-take-le a l h))

long-spliced : (l : List ℕ) (i : ℕ) (xs : List ℕ) → i ≤ length l → i ≤ length (spliced l i xs)
unfolding spliced
long-spliced l i xs h = rw (length-append (take i l) (xs ++ drop (i + length xs) l), length-take-le i l h) (omega arith)

part-spliced : (l : List ℕ) (i a n : ℕ) (xs : List ℕ) → a + n ≤ i → i ≤ length l → take n (drop a (spliced l i xs)) ≡ take n (drop a l)
part-spliced l i a n xs h g =
    let long : a ≤ length (spliced l i xs) = omega (arith, long-spliced l i xs g) in
    part_by (spliced l i xs) a n long ∙ ap (drop a) (take-spliced l i (a + n) xs h g) ∙ sym (part_by l a n (omega arith))

-- ---- what is left to write before f t
more_left : {A : Type 0} (f : ℕ → List A) (c t : ℕ) → t < c → flatten (drop t (upto f c)) ≡ f t ++ flatten (drop (t + 1) (upto f c))
unfolding flatten
more_left f c t l =
    let n : t < length (upto f c) = rw (length-upto f c) l in
    rw (add-one) (ap flatten (drop-cons (upto f c) t [] n) ∙ ap (λ (x : List _). x ++ flatten (drop (suc t) (upto f c))) (at-upto f c t [] l))

none_left : {A : Type 0} (f : ℕ → List A) (c t : ℕ) → t ≡ c → flatten (drop t (upto f c)) ≡ []
unfolding flatten
none_left f c t e = ap flatten (ap (λ (k : ℕ). drop k (upto f c)) (e ∙ sym (length-upto f c)) ∙ drop-length (upto f c))

-- xs is l with f t, .., f (c - 1) written over it, f t from word b on
pub record Backward (f : ℕ → List ℕ) (c t b : ℕ) (l xs : List ℕ) : Type 0 where
  pub same : length xs ≡ length l
  pub is : xs ≡ spliced l b (flatten (drop t (upto f c)))

module _ (f : ℕ → List ℕ) (c t b : ℕ) where
  pub backward_none : (l : List ℕ) → t ≡ c → Backward f c t b l l
  backward_none l e = record { same = refl; is = spliced-none l b ∙ ap (spliced l b) (sym (none_left f c t e)) }

  pub backward_more : (a : ℕ) (l xs ys w : List ℕ) → t < c → Backward f c (t + 1) b l xs → b ≡ a + length (f t) → b ≤ length l
      → length ys ≡ length xs → w ≡ f t → ys ≡ spliced xs a w → Backward f c t a l ys
  backward_more a l xs ys w h r e g s ew is =
      let rest : List ℕ = flatten (drop (t + 1) (upto f c)) in
      record {
        same = s ∙ r.same;
        is = is ∙ rw (ew, r.is) (spliced-before l a b (f t) rest e g) ∙ ap (spliced l a) (sym (more_left f c t h));
      }

  pub backward_raw : (l xs : List ℕ) (ch q : ℕ) → Backward f c t b l xs → q * ch + ch ≤ b → b ≤ length l → raw_at ch xs q ≡ raw_at ch l q
  unfolding raw_at
  backward_raw l xs ch q r h g = rw r.is (part-spliced l b (q * ch) ch (flatten (drop t (upto f c))) h g)
