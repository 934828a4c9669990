-- LAWS. The order of floats: `le` is transitive, and a difference above zero tells it. Assumes nothing.
use Rattle.std.specs.Prelude.{◌≡◌, refl, ◌⊎◌, Bool, true, false, not, ◌&&◌, ◌||◌, cond, ℕ, zero, suc, ◌+◌, ◌-◌, ◌*◌, ◌^◌, ◌≤◌, ◌<◌, T, ltb, eqb, ℤ}
use Rattle.std.specs.Prelude.{negsuc, Float}
use Rattle.std.proofs.Common.{sym, inl, inr, ⊎_elim, zero-mul, eq-or-lt_of_le, mul-pos, zero-lt-suc, arith, lt-ltb, le-ltb, eq-eqb, ltb-true}
use Rattle.std.proofs.Common.{ltb-false, ltb→lt, eqb→eq}
use Rattle.std.specs.Float.{nan, inf, fin, Format, binary64}
use Rattle.std.specs.Float.Ieee.{prec, emax, low, up, down, below, level, odd, units, round, sum, add, sub, neg, lt, eq, le, of_bits, of_fields}
use Rattle.std.specs.Float.Ieee.Fits.{down_pos, and_l, and_r}
use Rattle.std.specs.Float.Ieee.Positive.{through}
use Rattle.floats.specs.Numbers.{◌⊖◌, 1e-12}

-- ±a ≤ ±b
Under : Bool → ℕ → Bool → ℕ → Type 0
Under false a false b = a ≤ b
Under false a true b = a + b ≤ 0
Under true a false b = Unit {0}
Under true a true b = b ≤ a

or_cases : (p q : Bool) → T (p || q) → T p ⊎ T q
or_cases true q t = inl t
or_cases false q t = inr t

under_of : (s : Bool) (a : ℕ) (t : Bool) (b : ℕ) → T (below s a t b || level s a t b) → Under s a t b
unfolding Under
under_of false a false b h = ⊎_elim
    (λ l. let g : a < b = ltb→lt a b l in omega arith)
    (λ e. let g : a ≡ b = eqb→eq a b (and_l (eqb a b) true e) in omega arith)
    (or_cases (ltb a b) (eqb a b && true) h)
under_of false a true b h =
    let e : a ≡ b = eqb→eq a b (and_l (eqb a b) (eqb a 0) h) in
    let z : a ≡ 0 = eqb→eq a 0 (and_r (eqb a b) (eqb a 0) h) in
    omega arith
under_of true a false b h = tt
under_of true a true b h = ⊎_elim
    (λ l. let g : b < a = ltb→lt b a l in omega arith)
    (λ e. let g : a ≡ b = eqb→eq a b (and_l (eqb a b) true e) in omega arith)
    (or_cases (ltb b a) (eqb a b && true) h)

of_under : (s : Bool) (a : ℕ) (t : Bool) (b : ℕ) → Under s a t b → T (below s a t b || level s a t b)
unfolding Under
of_under false a false b h = ⊎_elim
    (λ e. rw (le-ltb a b (omega arith), eq-eqb a b e) tt)
    (λ l. rw (lt-ltb a b l) tt)
    (eq-or-lt_of_le h)
of_under false a true b h = rw (eq-eqb a b (omega arith), eq-eqb a 0 (omega arith)) tt
of_under true a false b h = ⊎_elim
    (λ e. rw (le-ltb 0 (a + b) (omega arith), eq-eqb a b (omega arith), eq-eqb a 0 (omega arith)) tt)
    (λ l. rw (lt-ltb 0 (a + b) l) tt)
    (eq-or-lt_of_le {n = 0} {m = a + b} (omega arith))
of_under true a true b h = ⊎_elim
    (λ e. rw (le-ltb b a (omega arith), eq-eqb a b (sym e)) tt)
    (λ l. rw (lt-ltb b a l) tt)
    (eq-or-lt_of_le h)

below_mul : (x q : ℕ) → 0 < q → 0 < suc x * q
below_mul x q h = mul-pos (zero-lt-suc x) h

-- a product with a number above 0 is 0 only at 0
none_of : (x q : ℕ) → 0 < q → x * q ≤ 0 → x ≡ 0
none_of zero q h g = refl
none_of (suc x) q h g = absurd (omega (arith, below_mul x q h))

-- ±x / p ≤ ±y / q ≤ ±z / r
under_trans : (s t u : Bool) (x y z p q r : ℕ) → 0 < p → 0 < q → 0 < r → Under s (x * q) t (y * p) → Under t (y * r) u (z * q) → Under s (x * r) u (z * p)
unfolding Under
under_trans false false false x y z p q r P Q R h g = through x y z p q r Q h g
under_trans false false true x y z p q r P Q R h g =
    let ey : y ≡ 0 = none_of y r R (omega arith) in
    let ez : z ≡ 0 = none_of z q Q (omega arith) in
    let ex : x ≡ 0 = none_of x q Q (rw (ey, zero-mul) at h) in
    rw (ex, ez, zero-mul, zero-mul) (omega arith)
under_trans false true false x y z p q r P Q R h g =
    let ex : x ≡ 0 = none_of x q Q (omega arith) in
    rw (ex, zero-mul) (omega arith)
under_trans false true true x y z p q r P Q R h g =
    let ex : x ≡ 0 = none_of x q Q (omega arith) in
    let ey : y ≡ 0 = none_of y p P (omega arith) in
    let ez : z ≡ 0 = none_of z q Q (rw (ey, zero-mul) at g) in
    rw (ex, ez, zero-mul, zero-mul) (omega arith)
under_trans true false false x y z p q r P Q R h g = tt
under_trans true false true x y z p q r P Q R h g =
    let ez : z ≡ 0 = none_of z q Q (omega arith) in
    rw (ez, zero-mul) (omega arith)
under_trans true true false x y z p q r P Q R h g = tt
under_trans true true true x y z p q r P Q R h g = through z y x r q p Q g h

le_to : (x y : Float) → le x y ≡ true → T (le x y)
le_to x y e = rw e tt

of_t : (b : Bool) → T b → b ≡ true
of_t true t = refl
of_t false t = absurd t

trans_t : (x y z : Float) → T (le x y) → T (le y z) → T (le x z)
unfolding le lt eq
trans_t nan y z h g = absurd h
trans_t (inf s) nan z h g = absurd h
trans_t (inf true) (inf t) nan h g = absurd g
trans_t (inf true) (inf t) (inf true) h g = tt
trans_t (inf true) (inf t) (inf false) h g = tt
trans_t (inf true) (inf t) (fin u l c) h g = tt
trans_t (inf true) (fin t n d) nan h g = absurd g
trans_t (inf true) (fin t n d) (inf true) h g = tt
trans_t (inf true) (fin t n d) (inf false) h g = tt
trans_t (inf true) (fin t n d) (fin u l c) h g = tt
trans_t (inf false) (inf true) z h g = absurd h
trans_t (inf false) (inf false) z h g = g
trans_t (inf false) (fin t n d) z h g = absurd h
trans_t (fin s m e) nan z h g = absurd h
trans_t (fin s m e) (inf true) z h g = absurd h
trans_t (fin s m e) (inf false) nan h g = absurd g
trans_t (fin s m e) (inf false) (inf true) h g = absurd g
trans_t (fin s m e) (inf false) (inf false) h g = tt
trans_t (fin s m e) (inf false) (fin u l c) h g = absurd g
trans_t (fin s m e) (fin t n d) nan h g = absurd g
trans_t (fin s m e) (fin t n d) (inf true) h g = absurd g
trans_t (fin s m e) (fin t n d) (inf false) h g = tt
trans_t (fin s m e) (fin t n d) (fin u l c) h g =
    of_under s (m * up e * down c) u (l * up c * down e)
    (under_trans s t u (m * up e) (n * up d) (l * up c) (down e) (down d) (down c) (down_pos e) (down_pos d) (down_pos c)
    (under_of s (m * up e * down d) t (n * up d * down e) h)
    (under_of t (n * up d * down c) u (l * up c * down d) g))

pub le_trans : (x y z : Float) → le x y ≡ true → le y z ≡ true → le x z ≡ true
le_trans x y z h g = of_t (le x z) (trans_t x y z (le_to x y h) (le_to y z g))

-- ---- a difference above a number that is not negative

-- nothing negative is above it
odd_not : (p : ℕ) (k : ℤ) (d q j l : ℕ) → T (lt (fin false p k) (odd d true q j l)) → ⊥
unfolding lt odd
odd_not p k d zero j l h = h
odd_not p k d (suc q) j l h = h

units-not : (f : Format) (p : ℕ) (k : ℤ) (q j : ℕ) → T (lt (fin false p k) (units f true q j)) → ⊥
unfolding units lt
units-not f p k q j h = go (ltb (q * 2 ^ j) (2 ^ (low f + suc (emax f)))) h
  where
    go : (b : Bool) → T (lt (fin false p k) (cond b (odd (suc (prec f)) true q j (low f)) (inf true))) → ⊥
    go true g = odd_not p k (suc (prec f)) q j (low f) g
    go false g = g

round_not : (f : Format) (p : ℕ) (k : ℤ) (a c : ℕ) → T (lt (fin false p k) (round f true a c)) → ⊥
unfolding round
round_not f p k a c h = units-not f p k _ _ h

sum_tells : (f : Format) (p : ℕ) (k : ℤ) (s t : Bool) (a b c : ℕ) → T (lt (fin false p k) (sum f s a (not t) b c)) → Under t b s a
unfolding sum Under
sum_tells f p k false true a b c h = tt
sum_tells f p k true false a b c h = absurd (round_not f p k (a + b) c h)
sum_tells f p k false false a b c h = go (ltb a b) refl h
  where
    go : (x : Bool) → ltb a b ≡ x → T (lt (fin false p k) (cond x (round f true (b - a) c) (round f false (a - b) c))) → b ≤ a
    go true e g = absurd (round_not f p k (b - a) c g)
    go false e g = ltb-false a b e
sum_tells f p k true true a b c h = go (ltb a b) (ltb b a) refl refl h
  where
    go : (x y : Bool) → ltb a b ≡ x → ltb b a ≡ y → T (lt (fin false p k) (cond x (round f false (b - a) c) (round f (true && y) (a - b) c))) → a ≤ b
    go true y e d g = let l = ltb-true a b e in omega arith
    go false true e d g = absurd (round_not f p k (a - b) c g)
    go false false e d g = ltb-false b a d

sub_tells : (f : Format) (p : ℕ) (k : ℤ) (x y : Float) → T (lt (fin false p k) (sub f x y)) → T (le y x)
unfolding sub add neg lt le eq
sub_tells f p k nan y h = absurd h
sub_tells f p k (inf s) nan h = absurd h
sub_tells f p k (inf true) (inf true) h = absurd h
sub_tells f p k (inf true) (inf false) h = absurd h
sub_tells f p k (inf false) (inf true) h = tt
sub_tells f p k (inf false) (inf false) h = absurd h
sub_tells f p k (inf true) (fin t n d) h = absurd h
sub_tells f p k (inf false) (fin t n d) h = tt
sub_tells f p k (fin s m e) nan h = absurd h
sub_tells f p k (fin s m e) (inf true) h = tt
sub_tells f p k (fin s m e) (inf false) h = absurd h
sub_tells f p k (fin s m e) (fin t n d) h =
    of_under t (n * up d * down e) s (m * up e * down d) (sum_tells f p k s t (m * up e * down d) (n * up d * down e) (down e * down d) h)

small_is : 1e-12 ≡ fin false 0x11_9799_812d_ea11 (negsuc 91)
unfolding of_bits of_fields
small_is = refl

pub grown_le : (x y : Float) → lt 1e-12 (x ⊖ y) ≡ true → le y x ≡ true
grown_le x y h =
    let t : T (lt 1e-12 (x ⊖ y)) = rw h tt in
    of_t (le y x) (sub_tells binary64 0x11_9799_812d_ea11 (negsuc 91) x y (rw small_is at t))
