-- LAWS. `samples`: one step of it, its end, and how many there are at most. Assumes nothing.
use Rattle.std.specs.Prelude.{◌≡◌, Bool, true, false, List, [], ◌∷◌, ◌++◌, length, Float}
use Rattle.std.proofs.Math.Path.{refl}
use Prim.Native.Nat.{ℕ, zero, suc, ◌≤◌, ◌^◌}
use Rattle.std.proofs.Common.{pow-suc, arith, length-append, pow_pos}
use Rattle.curve_metric.specs.Ends.{EndsWith, ends-one, ends_append}
use Rattle.curve_metric.specs.Walk.{Sample, samples, flat, middle}

module _ (eval : Float → List Float) (ms : List ℕ) (tol : Float) where
  pub samples-zero : (left : ℕ) (t0 : Float) (p0 : List Float) (t1 : Float) (p1 : List Float) → left ≡ 0
      → samples eval ms tol left t0 p0 t1 p1 ≡ record { time = t1; point = p1 } ∷ []
  unfolding samples
  samples-zero left t0 p0 t1 p1 e = rw e

  pub samples-flat : (left : ℕ) (t0 : Float) (p0 : List Float) (t1 : Float) (p1 : List Float) {pm : List Float} → pm ≡ eval (middle t0 t1)
      → flat eval ms tol t0 p0 t1 p1 pm ≡ true
      → samples eval ms tol left t0 p0 t1 p1 ≡ record { time = t1; point = p1 } ∷ []
  unfolding samples
  samples-flat zero t0 p0 t1 p1 ep e = refl
  samples-flat (suc left) t0 p0 t1 p1 ep e = rw (← ep, e)

  pub samples-halves : (left k : ℕ) (t0 : Float) (p0 : List Float) (t1 : Float) (p1 : List Float) {pm : List Float} → left ≡ suc k
      → pm ≡ eval (middle t0 t1) → flat eval ms tol t0 p0 t1 p1 pm ≡ false
      → samples eval ms tol left t0 p0 t1 p1 ≡ samples eval ms tol k t0 p0 (middle t0 t1) pm ++ samples eval ms tol k (middle t0 t1) pm t1 p1
  unfolding samples
  samples-halves left k t0 p0 t1 p1 el ep e = rw (el, ← ep, e)

  -- whatever holds of one sample and of two halves holds of the samples
  module _ (P : ℕ → Float → List Float → List Float → List Sample → Type 0)
      (one : (left : ℕ) (t1 : Float) (p0 p1 : List Float) → P left t1 p0 p1 (record { time = t1; point = p1 } ∷ []))
      (two : (left : ℕ) (tm t1 : Float) (p0 p1 : List Float) (us vs : List Sample)
      → P left tm p0 (eval tm) us → P left t1 (eval tm) p1 vs → P (suc left) t1 p0 p1 (us ++ vs)) where
    pub samples-all : (left : ℕ) (t0 : Float) (p0 : List Float) (t1 : Float) (p1 : List Float) → P left t1 p0 p1 (samples eval ms tol left t0 p0 t1 p1)
    samples-all zero t0 p0 t1 p1 = rw (samples-zero zero t0 p0 t1 p1 refl) (one zero t1 p0 p1)
    samples-all (suc k) t0 p0 t1 p1 = by-flat
        (flat eval ms tol t0 p0 t1 p1 (eval (middle t0 t1)))
        refl
        (samples-all k t0 p0 (middle t0 t1) (eval (middle t0 t1)))
        (samples-all k (middle t0 t1) (eval (middle t0 t1)) t1 p1)
      where
        by-flat : (b : Bool) → flat eval ms tol t0 p0 t1 p1 (eval (middle t0 t1)) ≡ b
            → P k (middle t0 t1) p0 (eval (middle t0 t1)) (samples eval ms tol k t0 p0 (middle t0 t1) (eval (middle t0 t1)))
            → P k t1 (eval (middle t0 t1)) p1 (samples eval ms tol k (middle t0 t1) (eval (middle t0 t1)) t1 p1)
            → P (suc k) t1 p0 p1 (samples eval ms tol (suc k) t0 p0 t1 p1)
        by-flat true e a b = rw (samples-flat (suc k) t0 p0 t1 p1 refl e) (one (suc k) t1 p0 p1)
        by-flat false e a b = rw (samples-halves (suc k) k t0 p0 t1 p1 refl refl e) (two k (middle t0 t1) t1 p0 p1 _ _ a b)

  pub samples-end : (left : ℕ) (t0 : Float) (p0 : List Float) (t1 : Float) (p1 : List Float)
      → EndsWith (samples eval ms tol left t0 p0 t1 p1) (record { time = t1; point = p1 })
  samples-end = samples-all
      (λ left t1 p0 p1 ss. EndsWith ss (record { time = t1; point = p1 }))
      (λ left t1 p0 p1. ends-one (record { time = t1; point = p1 }))
      (λ left tm t1 p0 p1 us vs a b. ends_append us b)

  pub samples_le : (left : ℕ) (t0 : Float) (p0 : List Float) (t1 : Float) (p1 : List Float) → length (samples eval ms tol left t0 p0 t1 p1) ≤ 2 ^ left
  samples_le = samples-all
      (λ left t1 p0 p1 ss. length ss ≤ 2 ^ left)
      (λ left t1 p0 p1. pow_pos left)
      (λ left tm t1 p0 p1 us vs a b. rw (length-append, pow-suc) (omega arith))
