-- LAWS. What code learns by asking the kind of a word, and which words are curves. Assumes nothing.
use Rattle.std.specs.Prelude.{ℕ, ◌≤◌, ◌<◌, ◌≡◌, refl, Bool, true, false, cond, leb, eqb}
use Rattle.std.proofs.Common.{sym, ◌∙◌, ap, arith, ne_eqb, le-leb, leb-true, leb-false}
use Rattle.std.proofs.lemmas.Bool.{eqb-false, lt-leb}
use Rattle.floats.specs.Truth.{by_bit, cond-t, cond-f}
use Rattle.motion.specs.Motion.{last_motion, kind_of, other_kind, curve_kind, is_other, is_curve}
use Rattle.motion.specs.declared.Kind.{Kind}
use Rattle.motion.specs.declared.Kind.TheVariants.{Linear, Clockwise, Counter, Akima, Basis, Cubic, Other, Refused}

pub other-told : (m : ℕ) (k : Kind) (b : Bool) → k ≡ kind_of m → b ≡ other_kind k → is_other m ≡ b
unfolding is_other
other-told m k b f g = ap other_kind (sym f) ∙ sym g

pub curve-told : (m : ℕ) (k : Kind) (b : Bool) → k ≡ kind_of m → b ≡ curve_kind k → b ≡ is_curve m
unfolding is_curve
curve-told m k b f g = g ∙ ap curve_kind f

-- ---- a word is a curve's from 3 on
curved_arms : (a b c d e f : Bool)
    → curve_kind (cond a Clockwise (cond b Counter (cond c Akima (cond d Basis (cond e Cubic (cond f Other Refused)))))) ≡ true
curved_arms true b c d e f = refl
curved_arms false true c d e f = refl
curved_arms false false true d e f = refl
curved_arms false false false true e f = refl
curved_arms false false false false true f = refl
curved_arms false false false false false true = refl
curved_arms false false false false false false = refl

-- G0 and G1
pub linear_is : (m : ℕ) → (m ≡ 0 → ⊥) → m < 3 → kind_of m ≡ Linear
unfolding kind_of
linear_is m d h = cond-f _ _ (ne_eqb m 0 d) ∙ cond-t _ _ (le-leb m 2 (omega arith))

straight : (m : ℕ) → m < 3 → is_curve m ≡ false
unfolding is_curve kind_of
straight m h =
    by_bit (eqb m 0)
    (λ z. ap curve_kind (cond-t _ _ z))
    (λ n. ap curve_kind (linear_is m (eqb-false m 0 n) h))

curved : (m : ℕ) → 3 ≤ m → is_curve m ≡ true
unfolding is_curve kind_of
curved m h =
    ap curve_kind (cond-f _ _ (ne_eqb m 0 (λ e. omega (arith, e))) ∙ cond-f _ _ (lt-leb m 2 (omega arith)))
    ∙ curved_arms (eqb m 3) (eqb m 4) (eqb m 5) (eqb m 6) (eqb m 7) (leb m last_motion)

pub curve-from : (m : ℕ) → is_curve m ≡ leb 3 m
curve-from m =
    by_bit (leb 3 m)
    (λ t. curved m (leb-true 3 m t) ∙ sym t)
    (λ f. straight m (leb-false 3 m f) ∙ sym f)

-- what is no curve's and not none is G0 or G1
pub straight-kind : (m : ℕ) → (m ≡ 0 → ⊥) → is_curve m ≡ false → kind_of m ≡ Linear
straight-kind m d f = linear_is m d (leb-false 3 m (sym (curve-from m) ∙ f))
