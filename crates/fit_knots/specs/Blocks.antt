-- LAWS. A slice written a block of n numbers at a time. Assumes nothing.
use Rattle.std.specs.Prelude.{◌≡◌, refl, List, ℕ, ◌+◌, ◌*◌, ◌<◌, length, set, Float}
use Rattle.std.proofs.Common.{◌∙◌, ⊎_elim, eq-or-lt_of_le, ne_of_lt, arith, length-set, get_or-set_same, get_or-set_other}
use Rattle.std.specs.Float.{nan}
use Rattle.floats.specs.Numbers.{at}
use Rattle.curve_metric.specs.Points.{row_fits_lem}

-- of xs, which was l, the n from a on are f 0 .. f (n - 1), and those before a are as they were
pub record Block (f : ℕ → Float) (a n : ℕ) (l xs : List Float) : Type 0 where
  pub same : length xs ≡ length l
  pub is : (j : ℕ) → j < n → at xs (a + j) ≡ f j
  pub before : (k : ℕ) → k < a → at xs k ≡ at l k

-- the first b blocks of xs are f 0, f 1, .., each with its n numbers
pub record Blocks (f : ℕ → ℕ → Float) (n b : ℕ) (xs : List Float) : Type 0 where
  pub is : (i j : ℕ) → i < b → j < n → at xs (i * n + j) ≡ f i j

pub block_none : {f : ℕ → Float} {a : ℕ} {l : List Float} → Block f a 0 l l
block_none {f} {a} {l} = record { same = refl; is = λ j h. absurd (omega arith); before = λ k h. refl }

pub block_more : {f : ℕ → Float} {a n : ℕ} {l xs : List Float} {v : Float} → Block f a n l xs → a + n < length l → v ≡ f n
    → Block f a (n + 1) l (set xs (a + n) v)
block_more {f} {a} {n} {l} {xs} {v} b h e = record {
  same = length-set xs (a + n) v ∙ b.same;
  is = λ j g. ⊎_elim
      (λ ej. rw ej (get_or-set_same xs (a + n) v nan (omega (arith, b.same)) ∙ e))
      (λ lt. get_or-set_other xs (a + n) (a + j) v nan (ne_of_lt (omega arith)) ∙ b.is j lt)
      (eq-or-lt_of_le {n = j} {m = n} (omega arith));
  before = λ k g. get_or-set_other xs (a + n) k v nan (ne_of_lt (omega arith)) ∙ b.before k g;
}

pub block-end : {f : ℕ → Float} {a i : ℕ} {l xs : List Float} → Block f a i l xs → (n : ℕ) → i ≡ n → Block f a n l xs
block-end {f} {a} {i} {l} {xs} b n e = rw (← e) b

pub blocks-none : {f : ℕ → ℕ → Float} {n : ℕ} {xs : List Float} → Blocks f n 0 xs
blocks-none = record { is = λ i j h g. absurd (omega arith) }

pub blocks_more : {f : ℕ → ℕ → Float} {n b : ℕ} {xs ys : List Float} → Blocks f n b xs → Block (f b) (b * n) n xs ys → Blocks f n (b + 1) ys
blocks_more {f} {n} {b} {xs} {ys} bs w = record {
  is = λ i j h g. ⊎_elim
      (λ e. rw e (w.is j g))
      (λ lt. w.before (i * n + j) (omega (arith, row_fits_lem i b n (b * n) lt (omega arith))) ∙ bs.is i j lt g)
      (eq-or-lt_of_le {n = i} {m = b} (omega arith));
}

pub blocks_end : {f : ℕ → ℕ → Float} {n i : ℕ} {xs : List Float} → Blocks f n i xs → (b : ℕ) → i ≡ b → Blocks f n b xs
blocks_end {f} {n} {i} {xs} bs b e = rw (← e) bs
