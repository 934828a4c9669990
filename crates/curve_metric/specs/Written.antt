-- LAWS. A point written out, number by number, with zeros past its channels. Assumes nothing.
use Rattle.std.specs.Prelude.{◌≡◌, [], ◌∷◌, ℕ, ◌<◌, ◌≤◌, replicate, Float}
use Rattle.std.proofs.Common.{sym, ◌∙◌, ⊎_elim, arith, ext_get_or}
use Rattle.std.proofs.lemmas.List.{get_or-replicate}
use Rattle.std.specs.Float.{nan}
use Rattle.floats.specs.Numbers.{f0}
use Rattle.floats.specs.Lists.{upto, filled}
use Rattle.floats.specs.Fill.{length-upto, at-upto, length-filled, at-filled, past-filled, lt_or_le}
use Rattle.curve_metric.specs.Widest.{widest}

pub written : (f : ℕ → Float) {v0 v1 v2 v3 v4 v5 v6 v7 v8 v9 v10 v11 v12 v13 v14 v15 : Float}
    → v0 ≡ f 0 → v1 ≡ f 1 → v2 ≡ f 2 → v3 ≡ f 3 → v4 ≡ f 4 → v5 ≡ f 5 → v6 ≡ f 6 → v7 ≡ f 7
    → v8 ≡ f 8 → v9 ≡ f 9 → v10 ≡ f 10 → v11 ≡ f 11 → v12 ≡ f 12 → v13 ≡ f 13 → v14 ≡ f 14 → v15 ≡ f 15
    → v0 ∷ v1 ∷ v2 ∷ v3 ∷ v4 ∷ v5 ∷ v6 ∷ v7 ∷ v8 ∷ v9 ∷ v10 ∷ v11 ∷ v12 ∷ v13 ∷ v14 ∷ v15 ∷ [] ≡ upto f widest
unfolding upto
written f e0 e1 e2 e3 e4 e5 e6 e7 e8 e9 e10 e11 e12 e13 e14 e15 =
    rw (e0, e1, e2, e3, e4, e5, e6, e7, e8, e9, e10, e11, e12, e13, e14, e15)

pub padded : (o g : ℕ → Float) (ch : ℕ) → ch ≤ widest → ((c : ℕ) → c < ch → g c ≡ o c) → ((c : ℕ) → ch ≤ c → g c ≡ f0)
    → upto g widest ≡ filled o ch (replicate widest f0)
padded o g ch few inside outside =
    let l = replicate widest f0 in
    ext_get_or nan (upto g widest) (filled o ch l) (length-upto g widest ∙ sym (length-filled o l ch few)) (λ c h.
    let less : c < widest = omega (arith, length-upto g widest) in
    at-upto g widest c nan less ∙ ⊎_elim
    (λ q. inside c q ∙ sym (at-filled o l ch c nan q))
    (λ q. outside c q ∙ sym (past-filled o l ch c nan q ∙ get_or-replicate widest c f0 nan less))
    (lt_or_le c ch))
