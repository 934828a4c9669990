-- LAWS. The triangle in work memory gives the curve's point. Assumes nothing.
use mathlib.Core.Path.{◌≡◌, sym, ap, ◌∙◌}
use mathlib.Core.List.{List, ◌++◌}
use Prim.Native.Nat.{ℕ, ◌+◌, ◌*◌, ◌-◌, ◌<◌, ◌≤◌}
use native.Mathlib.Nat.{zero-mul}
use native.Mathlib.Omega.{arith}
use lib.ListN.{length, drop}
use lib.Seq.{ext_get_or}
use lib.Ieee.{Float, nan}
use Rattle.floats.specs.Numbers.{◌⊘◌, of_nat, f0, held_in, at}
use Rattle.floats.specs.Lists.{filled}
use Rattle.floats.specs.Fill.{length-upto, at-upto, upto-below}
use Rattle.bspline_tables.specs.Basis.{levels}
use Rattle.bspline_tables.specs.Tables.{weighted, window, held_at, span_in, curve_at}
use Rattle.bspline_raise.specs.Climb.{column, Climbed, Loaded}
use Rattle.bspline_boor.specs.Levels.{window-at, window-length}

module _ (ks cw : List Float) (n p ch : ℕ) (t : Float) (l : List Float) where
  top-is : (u : Float) (k c wide : ℕ) {d1 d2 : List Float} → c < ch + 1 → ch < wide → p ≤ k → k < n → length (window cw n p k c) ≡ p + 1
      → Loaded cw d1 n k ch wide (p + 1) → Climbed ks u p k wide d1 d2 p → at d2 c ≡ weighted ks cw n p u k c
  unfolding weighted
  top-is u k c wide {d1} {d2} hc fit in_span under len e1 e2 =
      let b : column d1 wide p c ≡ window cw n p k c =
      ext_get_or nan (column d1 wide p c) (window cw n p k c) (length-upto (λ j. at d1 ((p - j) * wide + c)) (p + 1) ∙ sym len) (λ j g.
      let h : j < p + 1 = omega (arith, length-upto (λ i. at d1 ((p - i) * wide + c)) (p + 1)) in
      let e : c * n + (k - (p - j)) ≡ c * n + (k - p) + j = omega arith in
      at-upto (λ i. at d1 ((p - i) * wide + c)) (p + 1) j nan h ∙ e1.is (p - j) c (omega arith) hc ∙ window-at cw n p k c j in_span under (omega arith) e) in
      let z0 : 0 * wide + c ≡ c = rw zero-mul (omega arith) in
      let z1 : p - 0 ≡ p = omega arith in
      ap (at d2) (sym z0) ∙ e2.is c 0 (omega arith) (omega arith)
      ∙ ap (at (levels ks u p k (column d1 wide p c) p)) z1 ∙ ap (λ (z : List Float). at (levels ks u p k z p) p) b

  -- the channels' numbers in the span of t, over that of channel ch
  pub curve-is : {u : Float} {k : ℕ} {r : List Float} (top : ℕ → Float) → at ks n ≡ of_nat (n - p) → u ≡ held_in f0 (at ks n) t → k ≡ span_in n p u
      → ((c : ℕ) → c < ch + 1 → top c ≡ weighted ks cw n p u k c)
      → r ≡ filled (λ c. top c ⊘ top ch) ch l
      → r ≡ filled (curve_at ks cw n p ch t) ch l
  unfolding curve_at
  curve-is {u} {k} {r} top hi eh ek is er =
      let eu : u ≡ held_at n p t = eh ∙ ap (λ (z : Float). held_in f0 z t) hi in
      let es : k ≡ span_in n p (held_at n p t) = ek ∙ ap (span_in n p) eu in
      er ∙ ap (λ (z : List Float). z ++ drop ch l) (upto-below _ _ ch (λ c h.
      ap (λ (x : Float). x ⊘ top ch) (is c (omega arith))
      ∙ ap (λ (x : Float). weighted ks cw n p u k c ⊘ x) (is ch (omega arith))
      ∙ ap (λ (j : ℕ). weighted ks cw n p u j c ⊘ weighted ks cw n p u j ch) es
      ∙ ap (λ (x : Float). weighted ks cw n p x (span_in n p (held_at n p t)) c ⊘ weighted ks cw n p x (span_in n p (held_at n p t)) ch) eu))

  pub eval_is : {u : Float} {k wide : ℕ} {d1 d2 r : List Float} → (ch + 1) * n ≤ length cw → p ≤ k → k < n → ch < wide → at ks n ≡ of_nat (n - p)
      → u ≡ held_in f0 (at ks n) t → k ≡ span_in n p u
      → Loaded cw d1 n k ch wide (p + 1)
      → Climbed ks u p k wide d1 d2 p
      → r ≡ filled (λ c. at d2 c ⊘ at d2 ch) ch l
      → r ≡ filled (curve_at ks cw n p ch t) ch l
  eval_is {u} {k} {wide} {d1} {d2} {r} room in_span under fit hi eh ek e1 e2 er =
      curve-is (at d2) hi eh ek (λ c h. top-is u k c wide h fit in_span under (window-length cw n p ch k room in_span under c h) e1 e2) er
