-- LAWS. Masks of axes by their bits: whether some geometric axis is programmed, and which are held. Assumes nothing.
use Prim.Native.Nat.{ℕ, ◌-◌, ◌^◌, ◌<◌}
use mathlib.Core.Path.{◌≡◌, refl, sym, ◌∙◌, ap}
use mathlib.Core.Bool.{Bool, true, false, not, ◌&&◌, true≢false, and-false, and-true, or-true}
use mathlib.Core.List.{List, [], ◌∷◌}
use native.Mathlib.Nat.{lt_of_le_of_lt}
use native.Mathlib.Omega.{arith}
use lib.Bits.{bit_and, and_le_l}
use lib.Dec.{ltb, eqb}
use lib.Pow.{pow_pos}
use borrow.Author.Tests.{ltb-true, lt-ltb, eqb-true, eqb-false, eq-eqb}
use Rattle.floats.specs.Lists.{member, any_of}
use Rattle.floats.specs.Truth.{and_left, and_right, and_i, by_bit}
use Rattle.layout.specs.Layout.{axis_codes}
use Rattle.row_cells.specs.Bits.{has, with_bit, mask_sum}
use Rattle.row_cells.specs.BitOps.{has_and, has-not}
use Rattle.row_cells.specs.Row.{present_of, has_point, axes_of}
use Rattle.row_cells.specs.Masks.{has-none, with-same, with-other, with-lt, mask-of, same_bits, member-axes}
use Rattle.arc_block.specs.Block.{holds}

-- ---- some of a list passes: by its members alone
any_there : (f : ℕ → Bool) (xs : List ℕ) (k : ℕ) → member k xs ≡ true → f k ≡ true → any_of f xs ≡ true
unfolding member any_of
any_there f [] k m h = m
any_there f (x ∷ xs) k m h =
    by_bit (eqb x k)
    (λ a. rw (eqb-true x k a, h))
    (λ a. rw (any_there f xs k (rw a at m) h, or-true))

any_none : (f : ℕ → Bool) (xs : List ℕ) → ((k : ℕ) → member k xs ≡ true → f k ≡ false) → any_of f xs ≡ false
unfolding member any_of
any_none f [] h = refl
any_none f (x ∷ xs) h =
    let a : f x ≡ false = h x (rw (eq-eqb x x refl)) in
    let b : any_of f xs ≡ false = any_none f xs (λ k m. h k (rw (m, or-true))) in
    rw (a, b)

-- ---- a programmed axis
point-there : (gs : ℕ) (r : List ℕ) (k : ℕ) → k < axis_codes → (has gs k && has (present_of r) k) ≡ true → has_point (axes_of gs) r ≡ true
unfolding has_point
point-there gs r k l h =
    any_there (has (present_of r)) (axes_of gs) k
    (member-axes gs k ∙ and_i (and_left (has gs k) (has (present_of r) k) h) (lt-ltb k axis_codes l)) (and_right (has gs k) (has (present_of r) k) h)

point-none : (gs : ℕ) (r : List ℕ) → ((k : ℕ) → k < axis_codes → (has gs k && has (present_of r) k) ≡ false) → has_point (axes_of gs) r ≡ false
unfolding has_point
point-none gs r h =
    any_none (has (present_of r)) (axes_of gs) (λ k m.
    let w : (has gs k && ltb k axis_codes) ≡ true = sym (member-axes gs k) ∙ m in
    let l : k < axis_codes = ltb-true k axis_codes (and_right (has gs k) (ltb k axis_codes) w) in
    let g : has gs k ≡ true = and_left (has gs k) (ltb k axis_codes) w in
    rw g at (h k l))

-- ---- by the bits that both masks have
module _ (gs : ℕ) (r : List ℕ) where
  point-off : bit_and gs (present_of r) ≡ 0 → has_point (axes_of gs) r ≡ false
  point-off e = point-none gs r (λ k l. sym (has_and gs (present_of r) k) ∙ ap (λ (m : ℕ). has m k) e ∙ has-none k)

  point-on : gs < 2 ^ axis_codes → (bit_and gs (present_of r) ≡ 0 → ⊥) → has_point (axes_of gs) r ≡ true
  point-on small some =
      by_bit (has_point (axes_of gs) r)
      (λ t. t)
      (λ f. absurd (some (same_bits (bit_and gs (present_of r)) 0 axis_codes (lt_of_le_of_lt (and_le_l gs (present_of r)) small) (pow_pos axis_codes) (λ k l.
      has_and gs (present_of r) k ∙ by_bit (has gs k && has (present_of r) k)
      (λ y. absurd (true≢false (sym (point-there gs r k l y) ∙ f)))
      (λ n. n ∙ sym (has-none k))))))

  pub point-is : gs < 2 ^ axis_codes → not (eqb (bit_and gs (present_of r)) 0) ≡ has_point (axes_of gs) r
  point-is small =
      by_bit (eqb (bit_and gs (present_of r)) 0)
      (λ z. rw z (sym (point-off (eqb-true (bit_and gs (present_of r)) 0 z))))
      (λ z. rw z (sym (point-on small (eqb-false (bit_and gs (present_of r)) 0 z))))

-- ---- the held axes, by bits
module _ (gs p known u v : ℕ) (word : known < 2 ^ 64) (on_u : u < axis_codes) (on_v : v < axis_codes) where
  not-started : (k : ℕ) → not (has (with_bit (with_bit known u) v) k) ≡ (not (has known k) && (not (eqb k u) && not (eqb k v)))
  not-started k =
      let m = with_bit known u in
      by_bit (eqb k v)
      (λ b. ap not (ap (has (with_bit m v)) (eqb-true k v b) ∙ with-same m v) ∙ sym (rw (b, and-false, and-false)))
      (λ b. ap not (with-other m v k (eqb-false k v b)) ∙ by_bit (eqb k u)
      (λ a. ap not (ap (has m) (eqb-true k u a) ∙ with-same known u) ∙ sym (rw (a, and-false)))
      (λ a. ap not (with-other known u k (eqb-false k u a)) ∙ sym (rw (a, b, and-true))))

  pub held-bits : gs < 2 ^ axis_codes
      → bit_and (bit_and gs p) (2 ^ 64 - 1 - with_bit (with_bit known u) v) ≡ mask_sum (holds gs p known u v) axis_codes
  unfolding holds
  held-bits small =
      let q = with_bit (with_bit known u) v in
      let top : q < 2 ^ 64 = with-lt (with_bit known u) v 64 (with-lt known u 64 word (omega arith)) (omega arith) in
      let named = bit_and gs p in
      let few : bit_and named (2 ^ 64 - 1 - q) < 2 ^ axis_codes =
      lt_of_le_of_lt (and_le_l named (2 ^ 64 - 1 - q)) (lt_of_le_of_lt (and_le_l gs p) small) in
      mask-of (bit_and named (2 ^ 64 - 1 - q)) axis_codes (holds gs p known u v) few (λ k h.
      has_and named (2 ^ 64 - 1 - q) k ∙ rw (has_and gs p k, has-not q 64 k top (omega arith), not-started k))
