-- LAWS. What the counting walk remembers and the writing walk recalls. Assumes nothing.
use Rattle.std.specs.Prelude.{◌≡◌, List, [], ◌∷◌, ◌++◌, ltb, eqb, Float}
use Rattle.std.proofs.Math.Path.{refl}
use Rattle.std.proofs.Common.{sym, ap, ◌∙◌, subst, pow-suc, arith, pow_pos, get_or-append-add, get_or-set_same, get_or-set_other, eq-eqb, ne_eqb, ltb-true}
use mathlib.Core.Bool.{Bool, true, false, cond, ◌&&◌}
use Prim.Native.Nat.{ℕ, zero, suc, ◌+◌, ◌-◌, ◌^◌, ◌<◌, ◌≤◌}
use lib.ListN.{length, get_or, set, length-append, get_or-append}
use Rattle.std.proofs.lemmas.List.Edits.{sets}
use Rattle.std.proofs.Math.Seq.{length-sets}
use Rattle.curve_metric.specs.Walk.{flat, middle}
use Rattle.curve_walk.specs.Lefts.{lefts_of}
use Rattle.curve_walk.specs.Asks.{Recalls, Stored, Cursor}
use Rattle.curve_walk.specs.Counting.{pow_half}

-- ---- stores, one list after another

sets_append : (l : List ℕ) (c : ℕ) (us vs : List ℕ) → sets l c (us ++ vs) ≡ sets (sets l c us) (c + length us) vs
sets_append l c [] vs = let e : c ≡ c + 0 = omega arith in ap (λ (k : ℕ). sets l k vs) e
sets_append l c (u ∷ us) vs =
    let e : suc c + length us ≡ c + suc (length us) = omega arith in
    sets_append (set l c u) (suc c) us vs ∙ ap (λ (k : ℕ). sets (sets (set l c u) (suc c) us) k vs) e

sets_before : (l : List ℕ) (c : ℕ) (xs : List ℕ) (j : ℕ) → j < c → get_or (sets l c xs) j 0 ≡ get_or l j 0
sets_before l c [] j h = refl
sets_before l c (x ∷ xs) j h = sets_before (set l c x) (suc c) xs j (omega arith) ∙ get_or-set_other l c j x 0 (λ e. absurd (omega arith))

sets_at : (l : List ℕ) (c : ℕ) (xs : List ℕ) (i : ℕ) → i < length xs → c + i < length l → get_or (sets l c xs) (c + i) 0 ≡ get_or xs i 0
sets_at l c [] i h g = absurd (omega arith)
sets_at l c (x ∷ xs) zero h g =
    let e : c + 0 ≡ c = omega arith in
    ap (λ (k : ℕ). get_or (sets (set l c x) (suc c) xs) k 0) e ∙ sets_before (set l c x) (suc c) xs c (omega arith) ∙ get_or-set_same l c x 0 (omega arith)
sets_at l c (x ∷ xs) (suc i) h g =
    let e : c + suc i ≡ suc c + i = omega arith in
    ap (λ (k : ℕ). get_or (sets (set l c x) (suc c) xs) k 0) e ∙ sets_at (set l c x) (suc c) xs i (omega arith) (omega (arith, lib.ListN.length-set l c x))

pub stored_recalls : (l : List ℕ) (c : ℕ) (xs : List ℕ) {ys : List ℕ} → ys ≡ sets l c xs → Recalls ys c xs
stored_recalls l c xs {ys} e = record {
  is = λ i h g.
      let n : length ys ≡ length l = ap length e ∙ length-sets l c xs in
      ap (λ (z : List ℕ). get_or z (c + i) 0) e ∙ sets_at l c xs i h (omega arith);
}

pub stored_none : {l : List ℕ} {c : ℕ} → Stored l c [] c l
stored_none = record { end = omega arith; is = refl }

pub stored_two : {l : List ℕ} {c : ℕ} {xs us vs : List ℕ} {r r' : ℕ} {ys zs : List ℕ} → xs ≡ us ++ vs → Stored l c us r ys → Stored ys r vs r' zs
    → Stored l c xs r' zs
stored_two {l} {c} {xs} {us} {vs} {r} {r'} {ys} {zs} e a b =
    let n : length xs ≡ length us + length vs = ap length e ∙ length-append us vs in
    record {
      end = omega (arith, a.end, b.end);
      is =
          b.is ∙ ap (λ (z : List ℕ). sets z r vs) a.is ∙ ap (λ (k : ℕ). sets (sets l c us) k vs) a.end ∙ sym (sets_append l c us vs)
          ∙ ap (sets l c) (sym e);
    }

pub stored_length : {l : List ℕ} {c : ℕ} {xs : List ℕ} {r : ℕ} {ys : List ℕ} → Stored l c xs r ys → length ys ≡ length l
stored_length {l} {c} {xs} s = ap length s.is ∙ length-sets l c xs

pub stored_as : {l : List ℕ} {c : ℕ} {xs zs : List ℕ} {r : ℕ} {ys : List ℕ} → xs ≡ zs → Stored l c zs r ys → Stored l c xs r ys
stored_as {l} {c} {r = r} {ys = ys} e s = subst (λ (z : List ℕ). Stored l c z r ys) (sym e) s

-- one sample
pub stored_one : {l : List ℕ} {c x r : ℕ} {xs ys : List ℕ} → xs ≡ x ∷ [] → r ≡ c + 1 → ys ≡ set l c x → Stored l c xs r ys
stored_one {l} {c} {x} {r} {xs} {ys} e er ey = rw e (record { end = er; is = ey })

-- ---- the memory's parts

pub recalls_as : {l : List ℕ} {c : ℕ} {xs zs : List ℕ} → xs ≡ zs → Recalls l c xs → Recalls l c zs
recalls_as {l} {c} e r = subst (λ (z : List ℕ). Recalls l c z) e r

pub recalls_first : {l : List ℕ} {c : ℕ} {xs : List ℕ} (us vs : List ℕ) → xs ≡ us ++ vs → Recalls l c xs → Recalls l c us
recalls_first {l} {c} {xs} us vs e r = record {
  is = λ i h g.
      let n : length xs ≡ length us + length vs = ap length e ∙ length-append us vs in
      r.is i (omega arith) g ∙ ap (λ (z : List ℕ). get_or z i 0) e ∙ get_or-append us vs 0 i h;
}

pub recalls_second : {l : List ℕ} {c r : ℕ} {xs : List ℕ} (us vs : List ℕ) → xs ≡ us ++ vs → r ≡ c + length us → Recalls l c xs → Recalls l r vs
recalls_second {l} {c} {r} {xs} us vs e er m = record {
  is = λ i h g.
      let n : length xs ≡ length us + length vs = ap length e ∙ length-append us vs in
      let k : r + i ≡ c + (length us + i) = omega arith in
      ap (λ (z : ℕ). get_or l z 0) k ∙ m.is (length us + i) (omega arith) (omega arith) ∙ ap (λ (z : List ℕ). get_or z (length us + i) 0) e
      ∙ get_or-append-add us vs i 0;
}

-- ---- one step of the list

module _ (ev : Float → List Float) (ms : List ℕ) (tol : Float) where
  pub lefts-zero : (left : ℕ) (t0 : Float) (p0 : List Float) (t1 : Float) (p1 : List Float) → left ≡ 0 → lefts_of ev ms tol left t0 p0 t1 p1 ≡ left ∷ []
  unfolding lefts_of
  lefts-zero left t0 p0 t1 p1 e = rw e

  pub lefts-flat : (left : ℕ) (t0 : Float) (p0 : List Float) (t1 : Float) (p1 : List Float) {pm : List Float} → pm ≡ ev (middle t0 t1)
      → flat ev ms tol t0 p0 t1 p1 pm ≡ true
      → lefts_of ev ms tol left t0 p0 t1 p1 ≡ left ∷ []
  unfolding lefts_of
  lefts-flat zero t0 p0 t1 p1 ep e = refl
  lefts-flat (suc left) t0 p0 t1 p1 ep e = rw (← ep, e)

  pub lefts-halves : (left k : ℕ) (t0 : Float) (p0 : List Float) (t1 : Float) (p1 : List Float) {pm : List Float} → left ≡ suc k
      → pm ≡ ev (middle t0 t1) → flat ev ms tol t0 p0 t1 p1 pm ≡ false
      → lefts_of ev ms tol left t0 p0 t1 p1 ≡ lefts_of ev ms tol k t0 p0 (middle t0 t1) pm ++ lefts_of ev ms tol k (middle t0 t1) pm t1 p1
  unfolding lefts_of
  lefts-halves left k t0 p0 t1 p1 el ep e = rw (el, ← ep, e)

-- what is known of a list of lefts: some, the first no more than left, and no more than the halvings can give
pub record Led (left : ℕ) (xs : List ℕ) : Type 0 where
  pub some : 1 ≤ length xs
  pub head : get_or xs 0 0 ≤ left
  pub few : length xs ≤ 2 ^ left

led-one : (left : ℕ) {xs : List ℕ} → xs ≡ left ∷ [] → Led left xs
led-one left e = rw e (record { some = omega arith; head = omega arith; few = pow_pos left })

led-two : (left : ℕ) {xs us vs : List ℕ} → xs ≡ us ++ vs → Led left us → Led left vs → Led (suc left) xs
led-two left {xs} {us} {vs} e a b =
    let n : length xs ≡ length us + length vs = ap length e ∙ length-append us vs in
    let h : get_or xs 0 0 ≡ get_or us 0 0 = ap (λ (z : List ℕ). get_or z 0 0) e ∙ get_or-append us vs 0 0 a.some in
    record { some = omega (arith, a.some); head = omega (arith, a.head); few = rw pow-suc (omega (arith, a.few, b.few)) }

module _ (ev : Float → List Float) (ms : List ℕ) (tol : Float) where
  pub lefts-led : (left : ℕ) (t0 : Float) (p0 : List Float) (t1 : Float) (p1 : List Float) → Led left (lefts_of ev ms tol left t0 p0 t1 p1)
  lefts-led zero t0 p0 t1 p1 = led-one zero (lefts-zero ev ms tol zero t0 p0 t1 p1 refl)
  lefts-led (suc k) t0 p0 t1 p1 = by-flat
      (flat ev ms tol t0 p0 t1 p1 (ev (middle t0 t1)))
      refl
      (lefts-led k t0 p0 (middle t0 t1) (ev (middle t0 t1)))
      (lefts-led k (middle t0 t1) (ev (middle t0 t1)) t1 p1)
    where
      by-flat : (b : Bool) → flat ev ms tol t0 p0 t1 p1 (ev (middle t0 t1)) ≡ b
          → Led k (lefts_of ev ms tol k t0 p0 (middle t0 t1) (ev (middle t0 t1)))
          → Led k (lefts_of ev ms tol k (middle t0 t1) (ev (middle t0 t1)) t1 p1)
          → Led (suc k) (lefts_of ev ms tol (suc k) t0 p0 t1 p1)
      by-flat true e a b = led-one (suc k) (lefts-flat ev ms tol (suc k) t0 p0 t1 p1 refl e)
      by-flat false e a b = led-two k (lefts-halves ev ms tol (suc k) k t0 p0 t1 p1 refl refl e) a b

-- ---- a stretch

module _ (ev : Float → List Float) (ms : List ℕ) (tol : Float) (left : ℕ) (t0 : Float) (p0 : List Float) (t1 : Float) (p1 : List Float) where
  -- remembered
  pub stored_zero : {l : List ℕ} {c r : ℕ} {ys : List ℕ} → left ≡ 0 → (r ≡ c + 1) × (ys ≡ set l c 0) → Stored l c (lefts_of ev ms tol left t0 p0 t1 p1) r ys
  stored_zero h e = stored_one (lefts-zero ev ms tol left t0 p0 t1 p1 h ∙ ap (λ (k : ℕ). k ∷ []) h) e.0 e.1

  pub stored_flat : {l : List ℕ} {c r : ℕ} {ys : List ℕ} {pm : List Float} {b : Bool} → pm ≡ ev (middle t0 t1) → b ≡ flat ev ms tol t0 p0 t1 p1 pm
      → b ≡ true → (r ≡ c + 1) × (ys ≡ set l c left)
      → Stored l c (lefts_of ev ms tol left t0 p0 t1 p1) r ys
  stored_flat ep eb h e = stored_one (lefts-flat ev ms tol left t0 p0 t1 p1 ep (sym eb ∙ h)) e.0 e.1

  pub stored_halves : {l : List ℕ} {c r r' : ℕ} {ys zs : List ℕ} {pm : List Float} {b : Bool} → (left ≡ 0 → ⊥) → pm ≡ ev (middle t0 t1)
      → b ≡ flat ev ms tol t0 p0 t1 p1 pm → b ≡ false
      → Stored l c (lefts_of ev ms tol (left - 1) t0 p0 (middle t0 t1) pm) r ys → Stored ys r (lefts_of ev ms tol (left - 1) (middle t0 t1) pm t1 p1) r' zs
      → Stored l c (lefts_of ev ms tol left t0 p0 t1 p1) r' zs
  stored_halves some ep eb h a b = stored_two (lefts-halves ev ms tol left (left - 1) t0 p0 t1 p1 (omega arith) ep (sym eb ∙ h)) a b

  -- the memory says whether the chord will do, as far as it reaches
  known : {l : List ℕ} {c : ℕ} → Recalls l c (lefts_of ev ms tol left t0 p0 t1 p1) → (left ≡ 0 → ⊥) → c < length l
      → eqb (get_or l c 0) left ≡ flat ev ms tol t0 p0 t1 p1 (ev (middle t0 t1))
  known {l} {c} r some h = by-flat (flat ev ms tol t0 p0 t1 p1 (ev (middle t0 t1))) refl
    where
      led : Led left (lefts_of ev ms tol left t0 p0 t1 p1)
      led = lefts-led ev ms tol left t0 p0 t1 p1

      first : get_or l c 0 ≡ get_or (lefts_of ev ms tol left t0 p0 t1 p1) 0 0
      first = let e : c ≡ c + 0 = omega arith in ap (λ (k : ℕ). get_or l k 0) e ∙ r.is 0 led.some (omega arith)

      by-flat : (b : Bool) → flat ev ms tol t0 p0 t1 p1 (ev (middle t0 t1)) ≡ b → eqb (get_or l c 0) left ≡ flat ev ms tol t0 p0 t1 p1 (ev (middle t0 t1))
      by-flat true e = eq-eqb (get_or l c 0) left (first ∙ ap (λ (z : List ℕ). get_or z 0 0) (lefts-flat ev ms tol left t0 p0 t1 p1 refl e)) ∙ sym e
      by-flat false e =
          let us : List ℕ = lefts_of ev ms tol (left - 1) t0 p0 (middle t0 t1) (ev (middle t0 t1)) in
          let vs : List ℕ = lefts_of ev ms tol (left - 1) (middle t0 t1) (ev (middle t0 t1)) t1 p1 in
          let a : Led (left - 1) us = lefts-led ev ms tol (left - 1) t0 p0 (middle t0 t1) (ev (middle t0 t1)) in
          let v : get_or (lefts_of ev ms tol left t0 p0 t1 p1) 0 0 ≡ get_or us 0 0 =
          ap (λ (z : List ℕ). get_or z 0 0) (lefts-halves ev ms tol left (left - 1) t0 p0 t1 p1 (omega arith) refl e)
          ∙ get_or-append us vs 0 0 a.some in
          ne_eqb (get_or l c 0) left (λ q. some (omega (arith, first, a.head))) ∙ sym e

  module _ {l : List ℕ} {c : ℕ} (r : Recalls l c (lefts_of ev ms tol left t0 p0 t1 p1)) (some : left ≡ 0 → ⊥) where
    pub flat-known : {b : Bool} → b ≡ (ltb c (length l) && eqb (get_or l c 0) left) → b ≡ true → true ≡ flat ev ms tol t0 p0 t1 p1 (ev (middle t0 t1))
    flat-known {b} eb h = go (ltb c (length l)) refl
      where
        go : (t : Bool) → ltb c (length l) ≡ t → true ≡ flat ev ms tol t0 p0 t1 p1 (ev (middle t0 t1))
        go true e = sym h ∙ eb ∙ ap (λ (z : Bool). z && eqb (get_or l c 0) left) e ∙ known r some (ltb-true c (length l) e)
        go false e = absurd (mathlib.Core.Bool.true≢false (sym h ∙ eb ∙ ap (λ (z : Bool). z && eqb (get_or l c 0) left) e))

    pub not-flat : {b b' : Bool} {pm : List Float} → pm ≡ ev (middle t0 t1) → b ≡ (ltb c (length l) && eqb (get_or l c 0) left) → b ≡ false
        → b' ≡ cond (ltb c (length l)) false (flat ev ms tol t0 p0 t1 p1 pm) → b' ≡ false → false ≡ flat ev ms tol t0 p0 t1 p1 pm
    not-flat {b} {b'} {pm} ep eb h eb' h' = go (ltb c (length l)) refl
      where
        go : (t : Bool) → ltb c (length l) ≡ t → false ≡ flat ev ms tol t0 p0 t1 p1 pm
        go true e =
            sym h ∙ eb ∙ ap (λ (z : Bool). z && eqb (get_or l c 0) left) e ∙ known r some (ltb-true c (length l) e)
            ∙ ap (λ (z : List Float). flat ev ms tol t0 p0 t1 p1 z) (sym ep)
        go false e = sym h' ∙ eb' ∙ ap (λ (z : Bool). cond z false (flat ev ms tol t0 p0 t1 p1 pm)) e

-- the curve says so where the memory does not reach
module _ (ev : Float → List Float) (ms : List ℕ) (tol t0 : Float) (p0 : List Float) (t1 : Float) (p1 : List Float) where
  pub flat-new : (n c : ℕ) (pm : List Float) {b : Bool} → b ≡ cond (ltb c n) false (flat ev ms tol t0 p0 t1 p1 pm) → b ≡ true
      → true ≡ flat ev ms tol t0 p0 t1 p1 pm
  flat-new n c pm eb h = go (ltb c n) refl
    where
      go : (t : Bool) → ltb c n ≡ t → true ≡ flat ev ms tol t0 p0 t1 p1 pm
      go true e = absurd (mathlib.Core.Bool.true≢false (sym h ∙ eb ∙ ap (λ (z : Bool). cond z false (flat ev ms tol t0 p0 t1 p1 pm)) e))
      go false e = sym h ∙ eb ∙ ap (λ (z : Bool). cond z false (flat ev ms tol t0 p0 t1 p1 pm)) e

-- ---- the cursor

pub cursor_one : {c left : ℕ} → Cursor c left → c + 1 ≤ 2 ^ 60
cursor_one {c} {left} k = omega (arith, k.room, pow_pos left)

pub cursor_half : {c left : ℕ} → Cursor c left → (left ≡ 0 → ⊥) → Cursor c (left - 1)
cursor_half {c} {left} k some = record { low = omega (arith, k.low); room = omega (arith, k.room, pow_half left some) }

pub cursor_other : {c left r : ℕ} (ev : Float → List Float) (ms : List ℕ) (tol t0 : Float) (p0 : List Float) (t1 : Float) (p1 : List Float)
    → Cursor c left → (left ≡ 0 → ⊥) → r ≡ c + length (lefts_of ev ms tol (left - 1) t0 p0 t1 p1) → Cursor r (left - 1)
cursor_other {c} {left} {r} ev ms tol t0 p0 t1 p1 k some e = record {
  low = omega (arith, k.low);
  room = omega (arith, k.room, pow_half left some, (lefts-led ev ms tol (left - 1) t0 p0 t1 p1).few);
}

-- past one sample
pub passed-one : (c : ℕ) {x r : ℕ} {xs : List ℕ} → xs ≡ x ∷ [] → r ≡ c + 1 → r ≡ c + length xs
passed-one c e er = er ∙ ap (λ (z : List ℕ). c + length z) (sym e)
