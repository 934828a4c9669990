-- LAWS. One more point kept, or not. Assumes nothing.
use mathlib.Core.Path.{◌≡◌, refl, sym, ap, ◌∙◌}
use mathlib.Core.List.{List, [], ◌∷◌, ◌++◌}
use mathlib.Core.Bool.{Bool, true, false, cond}
use Prim.Native.Nat.{ℕ, suc, ◌+◌, ◌-◌, ◌<◌, ◌≤◌}
use native.Mathlib.Numerals.{add-one}
use native.Mathlib.Omega.{arith}
use lib.ListN.{length, get_or, drop, set, length-append, length-set}
use lib.Seq.{drop-cons, set_at, append_snoc, drop-set-lt}
use lib.Ieee.{Float}
use Rattle.fit_knots.specs.Fit.{kept_to}
use Rattle.fit_knots.specs.Kept.{grown, last_of, Kept, Judged}
use Rattle.fit_knots.proofs.KeptLaws.{kept_in, last-kept}

pub keep-first : (ts : List Float) (l : List ℕ) → 0 < length l → Kept ts 0 (set l 0 0) (set l 0 0) 1
unfolding kept_to
keep-first ts [] h = absurd (omega arith)
keep-first ts (x ∷ xs) h = record { same = refl; count = refl; is = refl }

-- a push behind the kept ones
pushed : (ks l : List ℕ) (m v : ℕ) → m ≡ length ks → m < length l → set (ks ++ drop m l) m v ≡ (ks ++ (v ∷ [])) ++ drop (m + 1) l
pushed ks l m v e h = rw (add-one, drop-cons l m v, append_snoc) (set_at ks _ _ _ m (sym e))

step : (ts : List Float) (k : ℕ) {l xs ys : List ℕ} {m r : ℕ} (b : Bool) → grown ts (last_of (kept_to ts k)) (k + 1) ≡ b → Kept ts k l xs m → m < length l
    → ys ≡ cond b (set xs m (k + 1)) xs → r ≡ cond b (m + 1) m → Kept ts (suc k) l ys r
unfolding kept_to
step ts k {l} {xs} {ys} {m} {r} true eb q h ey er = record {
  same = ap length ey ∙ length-set xs m (k + 1) ∙ q.same;
  count = rw (eb, length-append) (er ∙ ap (λ (z : ℕ). z + 1) q.count);
  is = rw (eb, er) (ey ∙ ap (λ (z : List ℕ). set z m (k + 1)) q.is ∙ pushed (kept_to ts k) l m (k + 1) q.count h);
}
step ts k {l} {xs} {ys} {m} {r} false eb q h ey er = record {
  same = ap length ey ∙ q.same;
  count = rw eb (er ∙ q.count);
  is = rw (eb, er) (ey ∙ q.is);
}

pub keep-more : (ts : List Float) (i : ℕ) {l xs ys : List ℕ} {m r : ℕ} → 1 ≤ i → i < length l → Kept ts (i - 1) l xs m
    → Judged ts i m xs ys r → Kept ts (i + 1 - 1) l ys r
keep-more ts i {l} {xs} {ys} {m} {r} p h q s =
    let e : i + 1 - 1 ≡ suc (i - 1) = omega arith in
    let f : i - 1 + 1 ≡ i = omega arith in
    let b : grown ts (get_or xs (m - 1) 0) i ≡ grown ts (last_of (kept_to ts (i - 1))) (i - 1 + 1) = rw (f, last-kept ts (i - 1) q) in
    let n : m < length l = omega (arith, q.count, (kept_in ts (i - 1)).few) in
    rw e (step ts (i - 1) (grown ts (last_of (kept_to ts (i - 1))) (i - 1 + 1)) refl q n (s.is ∙ rw (b, f)) (s.count ∙ rw b))

-- what judging point i asks
pub keep-room : (ts : List Float) (i : ℕ) {l xs : List ℕ} {m : ℕ} → 1 ≤ i → Kept ts (i - 1) l xs m → (0 < m) × ((m ≤ i) × (get_or xs (m - 1) 0 < i))
keep-room ts i {l} {xs} {m} p q =
    let k = kept_in ts (i - 1) in
    omega (arith, q.count, k.some, k.few, last-kept ts (i - 1) q, k.below (length (kept_to ts (i - 1)) - 1) (omega (arith, k.some)))

pub keep-end : (ts : List Float) (i n : ℕ) (l : List ℕ) {xs : List ℕ} {m : ℕ} → i ≡ n → Kept ts (i - 1) (set l 0 0) xs m → Kept ts (n - 1) l xs m
keep-end ts i n l {xs} {m} e q =
    let p : 0 < m = omega (arith, q.count, (kept_in ts (i - 1)).some) in
    let d : drop m (set l 0 0) ≡ drop m l = drop-set-lt m l 0 0 p in
    record {
      same = q.same ∙ length-set l 0 0;
      count = q.count ∙ ap (λ (z : ℕ). length (kept_to ts (z - 1))) e;
      is = q.is ∙ rw (d, e);
    }
