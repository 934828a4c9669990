-- LAWS. What is remembered and recalled, one part of a curve after another. Assumes nothing.
use Rattle.std.specs.Prelude.{◌≡◌, List, [], ◌++◌, ℕ, zero, suc, ◌+◌, ◌-◌, ◌*◌, ◌^◌, ◌<◌, ◌≤◌, length}
use Rattle.std.proofs.Math.Path.{refl}
use Rattle.std.proofs.Common.{ap, ◌∙◌, subst, add-one, mul-le-mul_right, suc-mul, arith, length-append}
use Rattle.floats.specs.Lists.{upto, flatten}
use Rattle.floats.specs.Joins.{flatten_snoc}
use Rattle.layout.specs.Layout.{most_points}
use Rattle.curve_metric.specs.Walk.{depth}
use Rattle.curve_walk.specs.Asks.{Recalls, Stored, Cursor}
use Rattle.curve_walk.specs.Lefts.{joined}
use Rattle.curve_walk.proofs.Remembering.{stored_none, stored_two, recalls_first, recalls_second}

pub flat-more : {A : Type 0} (f : ℕ → List A) (i : ℕ) → flatten (upto f (i + 1)) ≡ flatten (upto f i) ++ f i
unfolding upto
flat-more f i = rw (add-one i) (flatten_snoc (upto f i) (f i))

module _ (f : ℕ → List ℕ) where
  joined-none : joined f 0 ≡ []
  unfolding upto flatten
  joined-none = refl

  pub stored_start : {l : List ℕ} → Stored l 0 (joined f 0) 0 l
  stored_start = rw joined-none stored_none

  pub stored_more : {l : List ℕ} (j : ℕ) {r r' : ℕ} {ys zs : List ℕ} → Stored l 0 (joined f j) r ys → Stored ys r (f j) r' zs
      → Stored l 0 (joined f (j + 1)) r' zs
  stored_more j a b = stored_two (flat-more f j) a b

  pub passed_none : 0 ≡ 0 + length (joined f 0)
  passed_none = rw joined-none refl

  pub passed-more : (j : ℕ) {r r' : ℕ} → r ≡ 0 + length (joined f j) → r' ≡ r + length (f j) → r' ≡ 0 + length (joined f (j + 1))
  passed-more j a b =
      let n : length (joined f (j + 1)) ≡ length (joined f j) + length (f j) = ap length (flat-more f j)
      ∙ length-append (joined f j) (f j) in omega arith

  recalls_fewer : {l : List ℕ} (j d : ℕ) → Recalls l 0 (joined f (j + d)) → Recalls l 0 (joined f j)
  recalls_fewer {l} j zero r = let e : j + 0 ≡ j = omega arith in subst (λ (k : ℕ). Recalls l 0 (joined f k)) e r
  recalls_fewer {l} j (suc d) r =
      let e : j + suc d ≡ j + d + 1 = omega arith in
      recalls_fewer j d (recalls_first (joined f (j + d)) (f (j + d)) (flat-more f (j + d)) (subst (λ (k : ℕ). Recalls l 0 (joined f k)) e r))

  pub recalls_part : {l : List ℕ} (j n : ℕ) {r : ℕ} → j < n → r ≡ 0 + length (joined f j) → Recalls l 0 (joined f n) → Recalls l r (f j)
  recalls_part {l} j n h e m =
      let k : n ≡ j + 1 + (n - (j + 1)) = omega arith in
      recalls_second (joined f j) (f j) (flat-more f j) e (recalls_fewer (j + 1) (n - (j + 1)) (subst (λ (k : ℕ). Recalls l 0 (joined f k)) k m))

  module _ (few : (i : ℕ) → length (f i) ≤ 2 ^ depth) where
    joined-few : (j : ℕ) → length (joined f j) ≤ j * 2 ^ depth
    joined-few zero = rw joined-none (omega arith)
    joined-few (suc j) =
        let e : j + 1 ≡ suc j = add-one j in
        let n : length (joined f (j + 1)) ≡ length (joined f j) + length (f j) = ap length (flat-more f j) ∙ length-append (joined f j) (f j) in
        let m : length (joined f (j + 1)) ≡ length (joined f (suc j)) = ap (λ (k : ℕ). length (joined f k)) e in
        omega (arith, joined-few j, few j, suc-mul j (2 ^ depth))

    pub cursor_part : (j : ℕ) {r : ℕ} → j ≤ most_points → r ≡ 0 + length (joined f j) → Cursor r depth
    cursor_part j h e =
        let m : j * 2 ^ depth ≤ most_points * 2 ^ depth = mul-le-mul_right (2 ^ depth) h in
        record { low = omega arith; room = omega (arith, joined-few j) }
