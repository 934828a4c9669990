-- LAWS. What is counted, one part after another. Assumes nothing.
use Rattle.std.specs.Prelude.{◌≡◌, refl, List, [], ◌∷◌, ◌++◌, Bool, true, false, cond, ℕ, zero, suc, ◌+◌, ◌-◌, ◌*◌, ◌^◌, ◌≤◌, length, get_or, Float}
use Rattle.std.proofs.Common.{sym, ap, ◌∙◌, arith, pow_pos, length-set}
use Rattle.std.proofs.Math.Nat.{pow-succ'}
use Rattle.std.specs.Float.Ieee.{lt}
use Rattle.bspline_tables.specs.Tables.{advanced, greville_at}
use Rattle.curve_metric.specs.Walk.{Sample, samples, flat, middle}
use Rattle.curve_metric.proofs.WalkLaws.{samples-zero, samples-flat, samples-halves, samples_le}
use Rattle.curve_walk.specs.declared.Form.{Form}
use Rattle.curve_walk.specs.declared.Form.TheVariants.{Basis, Fit}
use Rattle.curve_walk.specs.declared.Shape.{Shape}
use Rattle.curve_walk.specs.Walks.{own_in, own_of, end_owner, bumped, counted}
use Rattle.curve_walk.specs.Asks.{Bumped, Counted, Counts}

-- ---- owners never fall, and stay in place

advanced_in : (ks : List Float) (p : ℕ) (t : Float) (left o : ℕ) → (o ≤ advanced ks p t left o) × (advanced ks p t left o ≤ o + left)
unfolding advanced
advanced_in ks p t zero o = omega arith
advanced_in ks p t (suc left) o = go (lt (greville_at ks p o) t) (advanced_in ks p t left (o + 1))
  where
    go : (c : Bool) → (o + 1 ≤ advanced ks p t left (o + 1)) × (advanced ks p t left (o + 1) ≤ o + 1 + left)
        → (o ≤ cond c (advanced ks p t left (o + 1)) o) × (cond c (advanced ks p t left (o + 1)) o ≤ o + suc left)
    go true h = omega arith
    go false h = omega arith

pub own_in_lem : (s : Shape) (ks : List Float) (o : ℕ) (t : Float) → o ≤ s.n - 1 → (o ≤ own_of s ks o t) × (own_of s ks o t ≤ s.n - 1)
unfolding own_in
own_in_lem s ks o t h = go s.form
  where
    go : (f : Form) → (o ≤ own_in f s.n ks o t) × (own_in f s.n ks o t ≤ s.n - 1)
    go (Basis p) = omega (arith, advanced_in ks p t (s.n - 1 - o) o)
    go (Fit k) = omega arith

-- ---- one after another

owner_append : (own : ℕ → Float → ℕ) (o : ℕ) (us vs : List Sample) → end_owner own o (us ++ vs) ≡ end_owner own (end_owner own o us) vs
unfolding end_owner
owner_append own o [] vs = refl
owner_append own o (u ∷ us) vs = owner_append own (own o u.time) us vs

counted_append : (own : ℕ → Float → ℕ) (o : ℕ) (us vs : List Sample) (l : List ℕ)
    → counted own o (us ++ vs) l ≡ counted own (end_owner own o us) vs (counted own o us l)
unfolding end_owner counted
counted_append own o [] vs l = refl
counted_append own o (u ∷ us) vs l = counted_append own (own o u.time) us vs (bumped l (own o u.time - 1))

counted-one : {own : ℕ → Float → ℕ} {o : ℕ} {ss : List Sample} {l : List ℕ} {r : ℕ} {xs : List ℕ} (s : Sample) → ss ≡ s ∷ [] → r ≡ own o s.time
    → xs ≡ bumped l (own o s.time - 1) → Counted own o ss l r xs
unfolding end_owner counted
counted-one s es er ex = rw es (record { owner = er; is = ex })

pub counted-two : {own : ℕ → Float → ℕ} {o : ℕ} {ss us vs : List Sample} {l : List ℕ} {r r' : ℕ} {xs xs' : List ℕ} → ss ≡ us ++ vs
    → Counted own o us l r xs → Counted own r vs xs r' xs' → Counted own o ss l r' xs'
counted-two {own} {o} {ss} {us} {vs} {l} {r} {r'} {xs} {xs'} es a b = record {
  owner = b.owner ∙ ap (λ (k : ℕ). end_owner own k vs) a.owner ∙ sym (owner_append own o us vs) ∙ ap (end_owner own o) (sym es);
  is =
      b.is ∙ ap (λ (k : ℕ). counted own k vs xs) a.owner ∙ ap (counted own (end_owner own o us) vs) a.is ∙ sym (counted_append own o us vs l)
      ∙ ap (λ (z : List Sample). counted own o z l) (sym es);
}

-- ---- a stretch

module _ (ev : Float → List Float) (ms : List ℕ) (tol : Float) (left : ℕ) (t0 : Float) (p0 : List Float) (t1 : Float) (p1 : List Float)
    {own : ℕ → Float → ℕ} {o : ℕ} {l : List ℕ} {r : ℕ} {xs : List ℕ} where
  pub counted-zero : left ≡ 0 → Bumped own o t1 l r xs → Counted own o (samples ev ms tol left t0 p0 t1 p1) l r xs
  counted-zero h e = counted-one (record { time = t1; point = p1 }) (samples-zero ev ms tol left t0 p0 t1 p1 h) e.0 e.1

  pub counted-flat : {pm : List Float} {b : Bool} → pm ≡ ev (middle t0 t1) → b ≡ flat ev ms tol t0 p0 t1 p1 pm → b ≡ true → Bumped own o t1 l r xs
      → Counted own o (samples ev ms tol left t0 p0 t1 p1) l r xs
  counted-flat ep eb h e = counted-one (record { time = t1; point = p1 }) (samples-flat ev ms tol left t0 p0 t1 p1 ep (sym eb ∙ h)) e.0 e.1

  pub counted-halves : {pm : List Float} {b : Bool} {r' : ℕ} {xs' : List ℕ} → (left ≡ 0 → ⊥) → pm ≡ ev (middle t0 t1)
      → b ≡ flat ev ms tol t0 p0 t1 p1 pm → b ≡ false
      → Counted own o (samples ev ms tol (left - 1) t0 p0 (middle t0 t1) pm) l r xs
      → Counted own r (samples ev ms tol (left - 1) (middle t0 t1) pm t1 p1) xs r' xs'
      → Counted own o (samples ev ms tol left t0 p0 t1 p1) l r' xs'
  counted-halves some ep eb h a b = counted-two (samples-halves ev ms tol left (left - 1) t0 p0 t1 p1 (omega arith) ep (sym eb ∙ h)) a b

-- ---- room

bump_le : (l : List ℕ) (i k : ℕ) → get_or (bumped l i) k 0 ≤ get_or l k 0 + 1
bump_le [] i k = omega arith
bump_le (x ∷ xs) zero zero = omega arith
bump_le (x ∷ xs) zero (suc k) = omega arith
bump_le (x ∷ xs) (suc i) zero = omega arith
bump_le (x ∷ xs) (suc i) (suc k) = bump_le xs i k

pub counted_le : (own : ℕ → Float → ℕ) (o : ℕ) (ss : List Sample) (l : List ℕ) (k : ℕ) → get_or (counted own o ss l) k 0 ≤ get_or l k 0 + length ss
unfolding counted
counted_le own o [] l k = omega arith
counted_le own o (s ∷ ss) l k =
    let a = counted_le own (own o s.time) ss (bumped l (own o s.time - 1)) k in
    let b = bump_le l (own o s.time - 1) k in
    omega arith

pub counted-length : (own : ℕ → Float → ℕ) (o : ℕ) (ss : List Sample) (l : List ℕ) → length (counted own o ss l) ≡ length l
unfolding counted
counted-length own o [] l = refl
counted-length own o (s ∷ ss) l =
    counted-length own (own o s.time) ss (bumped l (own o s.time - 1)) ∙ length-set l (own o s.time - 1) (get_or l (own o s.time - 1) 0 + 1)

pub end_in : (s : Shape) (ks : List Float) (o : ℕ) (ss : List Sample) → o ≤ s.n - 1
    → (o ≤ end_owner (own_of s ks) o ss) × (end_owner (own_of s ks) o ss ≤ s.n - 1)
unfolding end_owner
end_in s ks o [] h = omega arith
end_in s ks o (x ∷ xs) h =
    let i = own_in_lem s ks o x.time h in
    let j = end_in s ks (own_of s ks o x.time) xs i.1 in
    omega arith

pub counts-one : {s : Shape} {o left : ℕ} {l : List ℕ} → Counts s o left l → Counts s o 0 l
counts-one {left = left} c = record { some = c.some; owned = c.owned; table = c.table; room = λ k h. omega (arith, c.room k h, pow_pos left) }

pub pow_half : (k : ℕ) → (k ≡ 0 → ⊥) → 2 ^ k ≡ 2 * 2 ^ (k - 1)
pow_half k h = let e : k ≡ suc (k - 1) = omega arith in ap (λ (z : ℕ). 2 ^ z) e ∙ pow-succ' 2 (k - 1)

pub counts-half : {s : Shape} {o left : ℕ} {l : List ℕ} → Counts s o left l → (left ≡ 0 → ⊥) → Counts s o (left - 1) l
counts-half {left = left} c some = record { some = c.some; owned = c.owned; table = c.table; room = λ k h. omega (arith, c.room k h, pow_half left some) }

pub counts-other : {s : Shape} {o left : ℕ} {l : List ℕ} {r : ℕ} {xs : List ℕ} (ks : List Float)
    (ev : Float → List Float) (ms : List ℕ) (tol t0 : Float) (p0 : List Float) (t1 : Float) (p1 : List Float)
    → Counts s o left l → (left ≡ 0 → ⊥) → Counted (own_of s ks) o (samples ev ms tol (left - 1) t0 p0 t1 p1) l r xs → Counts s r (left - 1) xs
counts-other {s} {o} {left} {l} {r} {xs} ks ev ms tol t0 p0 t1 p1 c some t =
    let i = end_in s ks o (samples ev ms tol (left - 1) t0 p0 t1 p1) c.owned in
    let n : length xs ≡ length l = ap length t.is ∙ counted-length (own_of s ks) o (samples ev ms tol (left - 1) t0 p0 t1 p1) l in
    record {
      some = omega (arith, c.some, t.owner);
      owned = omega (arith, t.owner);
      table = omega (arith, c.table);
      room = λ k h.
          let g : get_or xs k 0 ≡ get_or (counted (own_of s ks) o (samples ev ms tol (left - 1) t0 p0 t1 p1) l) k 0 = ap (λ (z : List ℕ). get_or z k 0) t.is in
          let more = counted_le (own_of s ks) o (samples ev ms tol (left - 1) t0 p0 t1 p1) l k in
          omega (arith, g, c.room k h, pow_half left some, more, samples_le ev ms tol (left - 1) t0 p0 t1 p1);
    }
