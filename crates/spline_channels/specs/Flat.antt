-- LAWS. Lists of rows of one length, one after another. Assumes nothing.
use Prim.Native.Nat.{ℕ, zero, suc, ◌+◌, ◌*◌, ◌<◌}
use Rattle.std.specs.Prelude.{◌≡◌, get_or, take, drop, Float}
use Rattle.std.proofs.Math.Path.{refl, sym}
use Rattle.std.proofs.Common.{◌∙◌, ap, zero-mul, add_comm, add-one, arith, take-append-drop, take_at, take-suc, ext_get_or}
use mathlib.Core.List.{List, [], ◌∷◌, ◌++◌, map, map-append, append_assoc}
use Rattle.std.proofs.Math.Nat.{suc-mul}
use Rattle.std.proofs.Math.ListN.{length, length-append}
use Rattle.std.proofs.Math.Seq.{drop-append-add}
use Rattle.floats.specs.Lists.{upto, flatten, row, rows_of}
use Rattle.floats.specs.Fill.{length-upto, at-upto, upto-below}

-- every row has n elements
unfoldable pub Sized : {A : Type 0} → ℕ → List (List A) → Type 0
Sized n [] = Unit
Sized n (x ∷ xs) = (length x ≡ n) × Sized n xs

module _ {A : Type 0} where
  pub sized_append : (n : ℕ) (xs ys : List (List A)) → Sized n xs → Sized n ys → Sized n (xs ++ ys)
  unfolding Sized
  sized_append n [] ys s t = t
  sized_append n (x ∷ xs) ys s t = (s.0, sized_append n xs ys s.1 t)

  pub sized-cons : (n : ℕ) (x : List A) (xs : List (List A)) → length x ≡ n → Sized n xs → Sized n (x ∷ xs)
  unfolding Sized
  sized-cons n x xs e s = (e, s)

  pub flatten-cons : (x : List A) (xs : List (List A)) → x ++ flatten xs ≡ flatten (x ∷ xs)
  unfolding flatten
  flatten-cons x xs = refl

  pub length-flatten : (n : ℕ) (xs : List (List A)) → Sized n xs → length (flatten xs) ≡ length xs * n
  unfolding Sized flatten
  length-flatten n [] s = sym (zero-mul n)
  length-flatten n (x ∷ xs) s = length-append x (flatten xs) ∙ rw (s.0, length-flatten n xs s.1, suc-mul) (add_comm n (length xs * n))

  -- row i of the flat list, whatever follows
  pub flat-row : (n : ℕ) (xs : List (List A)) (rest : List A) (i : ℕ) → Sized n xs → i < length xs → take n (drop (i * n) (flatten xs ++ rest)) ≡ get_or xs i []
  unfolding Sized flatten
  flat-row n [] rest i s h = absurd (omega arith)
  flat-row n (x ∷ xs) rest zero s h = rw (zero-mul, append_assoc) (take_at x (flatten xs ++ rest) n s.0)
  flat-row n (x ∷ xs) rest (suc i) s h =
      let e : suc i * n ≡ length x + i * n = suc-mul i n ∙ rw s.0 (add_comm (i * n) n) in
      rw (e, append_assoc, drop-append-add) (flat-row n xs rest i s.1 (omega arith))

  pub list_is : (d : A) (xs : List A) → upto (λ (i : ℕ). get_or xs i d) (length xs) ≡ xs
  list_is d xs =
      let f : ℕ → A = λ i. get_or xs i d in
      ext_get_or d (upto f (length xs)) xs (length-upto f (length xs)) (λ i h. at-upto f (length xs) i d (rw (length-upto f (length xs)) at h))

pub map_next : {A B : Type 0} (f : A → B) (l : List A) (i : ℕ) (d : A) → i < length l → map f (take (i + 1) l) ≡ map f (take i l) ++ (f (get_or l i d) ∷ [])
map_next f l i d h = rw (add-one, take-suc l i d) (map-append f (take i l) (get_or l i d ∷ []))

pub flat_rows : (n : ℕ) (ps : List (List Float)) (xs : List Float) (k : ℕ) → Sized n ps → k ≡ length ps → take (k * n) xs ≡ flatten ps → rows_of xs n k ≡ ps
unfolding rows_of
flat_rows n ps xs k s e h =
    let all : flatten ps ++ drop (k * n) xs ≡ xs = ap (λ (l : List Float). l ++ drop (k * n) xs) (sym h) ∙ take-append-drop (k * n) xs in
    upto-below (row xs n) (λ (i : ℕ). get_or ps i []) k
    (λ i l. ap (λ (z : List Float). take n (drop (i * n) z)) (sym all) ∙ flat-row n ps (drop (k * n) xs) i s (omega arith))
    ∙ rw e (list_is [] ps)
