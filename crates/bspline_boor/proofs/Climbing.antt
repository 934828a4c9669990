-- LAWS. The triangle in work memory: numbers put one after another, rows, levels. Assumes nothing.
use mathlib.Core.Path.{◌≡◌, refl, sym, ap, ◌∙◌}
use mathlib.Core.List.{List}
use mathlib.Core.Logic.{⊎_elim}
use Prim.Native.Nat.{ℕ, suc, ◌+◌, ◌*◌, ◌-◌, ◌<◌, ◌≤◌, min}
use native.Mathlib.Numerals.{add-one}
use native.Mathlib.Nat.{suc-mul, eq-or-lt_of_le}
use native.Mathlib.Omega.{arith}
use lib.Ieee.{Float, nan}
use Rattle.floats.specs.Numbers.{at}
use Rattle.floats.specs.Fill.{length-upto, at-upto, lt_or_le}
use Rattle.bspline_tables.specs.Basis.{share, levels}
use Rattle.bspline_tables.specs.RowLaws.{row-order}
use Rattle.bspline_low.specs.Low.{mix_of}
use Rattle.bspline_raise.specs.Climb.{Put, Raised, Level, column, Climbed, Loaded}
use Rattle.bspline_boor.specs.Levels.{level-at}

-- ---- numbers put one after another
module _ {f : ℕ → Float} {l : List Float} {i : ℕ} where
  pub put-end : {xs : List Float} {n m : ℕ} → n ≡ m → Put f l xs i n → Put f l xs i m
  put-end e p = record { same = p.same; done = λ c h. p.done c (omega arith); under = p.under; over = λ j h. p.over j (omega arith) }

pub put_join : (f g : ℕ → Float) {l xs ys : List Float} {i j n m : ℕ} → Put f l xs i n → j ≡ i + n → ((c : ℕ) → c < m → g c ≡ f (n + c)) → Put g xs ys j m
    → Put f l ys i (n + m)
put_join f g {l} {xs} {ys} {i} {j} {n} {m} p ej e q = record {
  same = q.same ∙ p.same;
  done = λ c h. ⊎_elim
      (λ (lt : c < n). q.under (i + c) (omega arith) ∙ p.done c lt)
      (λ (ge : n ≤ c).
      let e0 : j + (c - n) ≡ i + c = omega arith in
      let e1 : n + (c - n) ≡ c = omega arith in
      ap (at ys) (sym e0) ∙ q.done (c - n) (omega arith) ∙ e (c - n) (omega arith) ∙ ap f e1)
      (lt_or_le c n);
  under = λ k h. q.under k (omega arith) ∙ p.under k h;
  over = λ k h. q.over k (omega arith) ∙ p.over k (omega arith);
}

pub raised_join : {l xs ys : List Float} {i j n m wide : ℕ} {a : Float} → Raised l xs i n wide a → j ≡ i + n → Raised xs ys j m wide a
    → Raised l ys i (n + m) wide a
raised_join {l} {xs} {ys} {i} {j} {n} {m} {wide} {a} v ej w =
    record {
      is = put_join (λ c. mix_of a (at l (i + wide + c)) (at l (i + c))) (λ c. mix_of a (at xs (j + wide + c)) (at xs (j + c))) v.is ej (λ c h.
          let e0 : j + c ≡ i + (n + c) = omega arith in
          let e1 : j + wide + c ≡ i + wide + (n + c) = omega arith in
          ap (λ (z : ℕ). mix_of a (at xs z) (at xs (j + c))) e1
          ∙ ap (λ (z : ℕ). mix_of a (at xs (i + wide + (n + c))) (at xs z)) e0
          ∙ ap (λ (x : Float). mix_of a x (at xs (i + (n + c)))) (v.is.over (i + wide + (n + c)) (omega arith))
          ∙ ap (λ (x : Float). mix_of a (at l (i + wide + (n + c))) x) (v.is.over (i + (n + c)) (omega arith))) w.is;
    }

pub raised_end : {l xs : List Float} {i n m wide : ℕ} {a : Float} → n ≡ m → Raised l xs i n wide a → Raised l xs i m wide a
raised_end e v = record { is = put-end e v.is }

-- ---- a level, row by row
module _ {l : List Float} {wide : ℕ} {a : ℕ → Float} where
  pub level-more : {xs ys : List Float} {h i : ℕ} {x : Float} → Level l xs wide h a → i ≡ h * wide → x ≡ a h → Raised xs ys i wide wide x
      → Level l ys wide (h + 1) a
  level-more {xs} {ys} {h} {i} {x} v ei ex w =
      let q = w.is in
      let s : (h + 1) * wide ≡ h * wide + wide = rw (add-one, suc-mul) in
      record {
        same = q.same ∙ v.same;
        done = λ g c hg hc. ⊎_elim
            (λ (e : g ≡ h). rw e (here c hc))
            (λ (lt : g < h). q.under (g * wide + c) (rw ei (row-order g h wide c lt hc)) ∙ v.done g c lt hc)
            (eq-or-lt_of_le {n = g} {m = h} (omega arith));
        todo = λ j hj. q.over j (omega arith) ∙ v.todo j (omega arith);
      }
    where
      here : (c : ℕ) → c < wide → at ys (h * wide + c) ≡ mix_of (a h) (at l (h * wide + wide + c)) (at l (h * wide + c))
      here c hc =
          ap (λ (z : ℕ). at ys (z + c)) (sym ei) ∙ w.is.done c hc
          ∙ ap (λ (z : Float). mix_of z (at xs (i + wide + c)) (at xs (i + c))) ex
          ∙ ap (λ (z : ℕ). mix_of (a h) (at xs (z + wide + c)) (at xs (z + c))) ei
          ∙ ap (λ (y : Float). mix_of (a h) y (at xs (h * wide + c))) (v.todo (h * wide + wide + c) (omega arith))
          ∙ ap (λ (y : Float). mix_of (a h) (at l (h * wide + wide + c)) y) (v.todo (h * wide + c) (omega arith))

-- ---- the levels

module _ (ks : List Float) (u : Float) (p k wide : ℕ) (l : List Float) where
  pub climbed_none : Climbed ks u p k wide l l 0
  unfolding levels
  climbed_none = record {
    same = refl;
    is = λ c h hc g.
        let e : p - (p - h) ≡ h = omega arith in
        sym (at-upto (λ j. at l ((p - j) * wide + c)) (p + 1) (p - h) nan (omega arith) ∙ ap (λ (z : ℕ). at l (z * wide + c)) e);
  }

  pub climbed_more : {xs ys : List Float} {r j m : ℕ} → j ≡ suc r → m ≡ p - r → r < p → Climbed ks u p k wide l xs r
      → Level xs ys wide m (λ h. share ks u p k j (p - h)) → Climbed ks u p k wide l ys j
  climbed_more {xs} {ys} {r} {j} {m} ej em hr cx v = record {
    same = v.same ∙ cx.same;
    is = λ c h hc g.
        let q : h + suc r ≤ p = omega arith in
        let lt : h < m = omega arith in
        let nx : h * wide + wide + c ≡ (h + 1) * wide + c = rw (add-one, suc-mul) in
        let e : p - (h + 1) ≡ p - h - 1 = omega arith in
        let level = levels ks u p k (column l wide p c) r in
        let x0 : at xs (h * wide + c) ≡ at level (p - h) = cx.is c h hc (omega arith) in
        let x1 : at xs (h * wide + wide + c) ≡ at level (p - h - 1) = ap (at xs) nx ∙ cx.is c (h + 1) hc (omega arith) ∙ ap (at level) e in
        v.done h c lt hc
        ∙ ap (λ (z : ℕ). mix_of (share ks u p k z (p - h)) (at xs (h * wide + wide + c)) (at xs (h * wide + c))) ej
        ∙ rw (x0, x1) (sym (level-at ks u p k (column l wide p c) r (p - h) (length-upto (λ i. at l ((p - i) * wide + c)) (p + 1)) (omega arith) (omega arith)))
        ∙ ap (λ (z : ℕ). at (levels ks u p k (column l wide p c) z) (p - h)) (sym ej);
  }

-- ---- the control numbers, row by row
pub loaded_more : {cw xs ys : List Float} {n k ch wide h i : ℕ} → Loaded cw xs n k ch wide h → i ≡ h * wide → ch < wide
    → Put (λ c. at cw (min c ch * n + (k - h))) xs ys i wide → Loaded cw ys n k ch wide (h + 1)
loaded_more {cw} {xs} {ys} {n} {k} {ch} {wide} {h} {i} v ei fit q = record {
  is = λ g c hg hc. ⊎_elim
      (λ (e : g ≡ h).
      let ec : min c ch ≡ c = omega arith in
      rw (e, ← ei) (q.done c (omega arith) ∙ ap (λ (z : ℕ). at cw (z * n + (k - h))) ec))
      (λ (lt : g < h). q.under (g * wide + c) (rw ei (row-order g h wide c lt (omega arith))) ∙ v.is g c lt hc)
      (eq-or-lt_of_le {n = g} {m = h} (omega arith));
}
