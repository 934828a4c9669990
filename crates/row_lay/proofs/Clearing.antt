-- LAWS. Zeros written over a part of a slice. Assumes nothing.
use Prim.Native.Nat.{ℕ, zero, suc, ◌+◌, ◌-◌, ◌≤◌}
use mathlib.Core.Path.{◌≡◌, refl, sym, ap, ◌∙◌}
use mathlib.Core.List.{List, [], ◌∷◌, ◌++◌}
use native.Mathlib.Omega.{arith}
use native.Mathlib.Numerals.{add-one}
use lib.ListN.{length, take, drop, replicate, length-drop}
use lib.Seq.{length-take-le, drop-drop}
use Rattle.std.proofs.lemmas.List.{replicate_more}
use Rattle.floats.specs.Lists.{upto, spliced}
use Rattle.floats.specs.Fill.{length-upto}
use Rattle.row_lay.specs.Over.{zeros}

zeros-are : (n : ℕ) → replicate n 0 ≡ upto zeros n
unfolding upto
zeros-are zero = refl
zeros-are (suc n) = ap (λ (k : ℕ). replicate k 0) (sym (add-one n)) ∙ sym (replicate_more n 0) ∙ ap (λ (l : List ℕ). l ++ (0 ∷ [])) (zeros-are n)

pub cleared : (l : List ℕ) (i n : ℕ) {ys : List ℕ} → i + n ≤ length l → ys ≡ replicate (length (take (i + n - i) (drop i l))) 0
    → take i l ++ (ys ++ drop (i + n - i) (drop i l)) ≡ spliced l i (upto zeros n)
unfolding spliced
cleared l i n h e =
    let k : i + n - i ≡ n = omega arith in
    let long : length (take n (drop i l)) ≡ n = length-take-le n (drop i l) (omega (arith, length-drop i l)) in
    rw (e, k, long, zeros-are n, length-upto zeros n, drop-drop n i l)
