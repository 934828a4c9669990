-- LAWS. Which values have a root: those that are 0 or more. Assumes nothing.
use mathlib.Core.Path.{◌≡◌, refl, sym, ap, ◌∙◌, subst}
use Prim.Native.Nat.{ℕ, zero, suc, ◌+◌, ◌-◌, ◌*◌, ◌/◌, ◌^◌, ◌<◌}
use native.Mathlib.Nat.{lt_irrefl, zero-mul, mul-one, mul-pos, zero-lt-suc}
use mathlib.Core.Bool.{Bool, true, false, not, ◌||◌, ◌&&◌, cond}
use lib.Dec.{T, ltb, eqb, eqb→eq, lt→ltb}
use lib.IntN.{ℤ}
use lib.Ieee.{Float, nan, inf, fin, Format, binary64, up, down, below, level, lt, eq, le, is_nan, of_bits, odd, units, div, low, prec, emax}
use lib.Ieee.Fits.{up_pos, and_l}
use lib.Ieee.Bits.{is_true}
use Rattle.root.specs.Root.{root_units, sqrt}

-- 0.0 ≤ x, as the machine asks it
abbrev pub least : Float
least = of_bits binary64 0

no : {X : Type 0} → true ≡ false → X
no e = absurd (subst T e tt)

zeros : (s : Bool) (a b : ℕ) → a ≡ 0 → b ≡ 0 → (below false a s b || level false a s b) ≡ true
zeros true a b p q = ap (λ (x : ℕ). below false x true b || level false x true b) p ∙ ap (λ (x : ℕ). below false 0 true x || level false 0 true x) q
zeros false a b p q = ap (λ (x : ℕ). below false x false b || level false x false b) p ∙ ap (λ (x : ℕ). below false 0 false x || level false 0 false x) q

above : (a b : ℕ) → a ≡ 0 → 0 < b → (below false a false b || level false a false b) ≡ true
above a b p q = ap (λ (t : Bool). t || level false a false b) (is_true (ltb a b) (lt→ltb a b (subst (λ (x : ℕ). x < b) (sym p) q)))

under : (a b : ℕ) → a ≡ 0 → 0 < b → (below false a true b || level false a true b) ≡ true → ⊥
under a b p q h =
    let t : T (eqb a b && (false || eqb a 0)) = subst T (sym h) tt in
    lt_irrefl 0 (subst (λ (x : ℕ). 0 < x) (sym (eqb→eq a b (and_l (eqb a b) (false || eqb a 0) t)) ∙ p) q)

zero_left : (d : ℕ) → 0 * d ≡ 0
zero_left d = zero-mul d

zero_right : (e : ℤ) → 0 * up e * 1 ≡ 0
zero_right e = mul-one (0 * up e) ∙ zero-mul (up e)

some : (m : ℕ) (e : ℤ) → 0 < suc m * up e * 1
some m e = mul-pos (mul-pos (zero-lt-suc m) (up_pos e)) (zero-lt-suc 0)

pub rootless : (x : Float) → le least x ≡ false → sqrt binary64 x ≡ nan
unfolding le lt eq sqrt of_bits
rootless nan h = refl
rootless (inf true) h = refl
rootless (inf false) h = no h
rootless (fin true (suc m) e) h = refl
rootless (fin s zero e) h = no (sym (zeros s (0 * down e) (0 * up e * 1) (zero_left (down e)) (zero_right e)) ∙ h)
rootless (fin false (suc m) e) h = no (sym (above (0 * down e) (suc m * up e * 1) (zero_left (down e)) (some m e)) ∙ h)

pub number : (x : Float) → le least x ≡ true → T (not (is_nan x))
unfolding le lt eq is_nan of_bits
number nan h = no (sym h)
number (inf s) h = tt
number (fin s m e) h = tt

odd_no_nan : (d : ℕ) (s : Bool) (q k l : ℕ) → is_nan (odd d s q k l) ≡ false
unfolding odd is_nan
odd_no_nan d s zero k l = refl
odd_no_nan d s (suc q) k l = refl

units_no_nan : (f : Format) (s : Bool) (q k : ℕ) → is_nan (units f s q k) ≡ false
unfolding units is_nan
units_no_nan f s q k = go (ltb (q * 2 ^ k) (2 ^ (low f + suc (emax f))))
  where
    go : (b : Bool) → is_nan (cond b (odd (suc (prec f)) s q k (low f)) (inf s)) ≡ false
    go true = odd_no_nan (suc (prec f)) s q k (low f)
    go false = refl

root_no_nan : (f : Format) (n : ℕ) → is_nan (root_units f n) ≡ false
unfolding root_units
root_no_nan f n = units_no_nan f false _ _

pub rooted : (x : Float) → le least x ≡ true → is_nan (sqrt binary64 x) ≡ false
unfolding le lt eq is_nan sqrt of_bits
rooted nan h = no (sym h)
rooted (inf true) h = no (sym h)
rooted (inf false) h = refl
rooted (fin s zero e) h = refl
rooted (fin true (suc m) e) h = absurd (under (0 * down e) (suc m * up e * 1) (zero_left (down e)) (some m e) h)
rooted (fin false (suc m) e) h = root_no_nan binary64 (suc m * up e * 2 ^ 1074 / down e * 2 ^ 1074)

pub no_number : div binary64 least least ≡ nan
unfolding div of_bits
no_number = refl
