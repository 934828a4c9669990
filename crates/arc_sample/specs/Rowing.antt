-- LAWS. Rows written one after another over a list of words, as a loop does it. Assumes nothing.
use Rattle.std.specs.Prelude.{◌≡◌, ℕ, zero, suc, ◌+◌, ◌*◌, ◌<◌, ◌≤◌, List, [], ◌∷◌, ◌++◌, length, refl}
use Rattle.std.proofs.Common.{sym, ◌∙◌, ap, append_assoc, append-nil, arith, add-one, length-append}
use Rattle.floats.specs.Lists.{upto, flatten, spliced}
use Rattle.floats.specs.Fill.{upto-below}
use Rattle.floats.specs.Splice.{length-spliced, spliced-none, spliced-spliced}
use Rattle.layout.specs.Layout.{row_words}

flatten_snoc : (xs : List (List ℕ)) (x : List ℕ) → flatten (xs ++ (x ∷ [])) ≡ flatten xs ++ x
unfolding flatten
flatten_snoc [] x = append-nil x
flatten_snoc (y ∷ xs) x = ap (λ (l : List ℕ). y ++ l) (flatten_snoc xs x) ∙ sym (append_assoc y (flatten xs) x)

pub flatten-more : (f : ℕ → List ℕ) (k : ℕ) → flatten (upto f (k + 1)) ≡ flatten (upto f k) ++ f k
unfolding upto
flatten-more f k = rw add-one (flatten_snoc (upto f k) (f k))

pub flatten-one : (x : List ℕ) → flatten (x ∷ []) ≡ x
unfolding flatten
flatten-one x = append-nil x

pub length-rows : (f : ℕ → List ℕ) → ((k : ℕ) → length (f k) ≡ row_words) → (n : ℕ) → length (flatten (upto f n)) ≡ n * row_words
unfolding upto flatten
length-rows f h zero = refl
length-rows f h (suc n) =
    let e : length (flatten (upto f n) ++ f n) ≡ n * row_words + row_words = length-append (flatten (upto f n)) (f n) ∙ rw (length-rows f h n, h n) in
    ap length (flatten_snoc (upto f n) (f n)) ∙ e ∙ omega arith

-- A loop's invariant: xs is l with the rows f 0 .. f (k - 1) written over it from word i on, and they end at `place`.
pub record Rowing (f : ℕ → List ℕ) (i k : ℕ) (l xs : List ℕ) (place : ℕ) : Type 0 where
  pub same : length xs ≡ length l
  pub is : xs ≡ spliced l i (flatten (upto f k))
  pub ends : place ≡ i + k * row_words

pub rowing_none : {f : ℕ → List ℕ} {i : ℕ} {l : List ℕ} → Rowing f i 0 l l i
unfolding upto flatten
rowing_none {f} {i} {l} = record { same = refl; is = spliced-none l i; ends = omega arith }

pub rowing_more : {f : ℕ → List ℕ} {i k : ℕ} {l xs ys : List ℕ} {place : ℕ} → ((j : ℕ) → length (f j) ≡ row_words) → Rowing f i k l xs place
    → i + (k + 1) * row_words ≤ length l → ys ≡ spliced xs place (f k) → Rowing f i (k + 1) l ys (place + row_words)
rowing_more {f} {i} {k} {l} {xs} {ys} {place} h s room e =
    let n : length (flatten (upto f k)) ≡ k * row_words = length-rows f h k in
    let p : place ≡ i + length (flatten (upto f k)) = s.ends ∙ ap (λ (m : ℕ). i + m) (sym n) in
    let z : ys ≡ spliced l i (flatten (upto f (k + 1))) =
    e ∙ rw (s.is, p) (spliced-spliced l i (flatten (upto f k)) (f k) (rw n (omega arith))) ∙ ap (spliced l i) (sym (flatten-more f k)) in
    let m : length (flatten (upto f (k + 1))) ≡ (k + 1) * row_words = length-rows f h (k + 1) in
    record {
      same = ap length z ∙ length-spliced l i (flatten (upto f (k + 1))) (rw m room);
      is = z;
      ends = rw s.ends (omega arith);
    }

-- the same with other rows that agree
pub rowing_same : {f g : ℕ → List ℕ} {i k : ℕ} {l xs : List ℕ} {place : ℕ} → ((j : ℕ) → j < k → f j ≡ g j) → Rowing f i k l xs place → Rowing g i k l xs place
rowing_same {f} {g} {i} {k} {l} {xs} {place} e s =
    record { same = s.same; is = s.is ∙ ap (λ (w : List (List ℕ)). spliced l i (flatten w)) (upto-below f g k e); ends = s.ends }
