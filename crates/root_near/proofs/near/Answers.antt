-- `root_near::near`: the answers to its goals. Assumes nothing.
use Prim.Native.Nat.{ℕ, ◌+◌, ◌-◌, ◌*◌, ◌^◌, ◌≤◌}
use mathlib.Core.Path.{◌≡◌, sym, ◌∙◌, subst}
use mathlib.Core.Bool.{Bool, true, false}
use mathlib.Core.Logic.{◌⊎◌, ⊎_elim}
use native.Mathlib.Omega.{arith}
use lib.Dec.{T}
use Rattle.root_near.specs.Nearest.{Nearest}
use Rattle.root_near.proofs.near.Goals as goal

-- what `settles` says where it is true
abbrev Settled : ℕ → ℕ → ℕ → Type 0
Settled u a b = (m : ℕ) → u + a * a ≡ m * 2 ^ 8 → Nearest m (a * 2 ^ 22 + b)

settled : (u a b : ℕ) (t : Bool) → t ≡ true → (t ≡ false) ⊎ Settled u a b → Settled u a b
settled u a b t h = ⊎_elim (λ (e : t ≡ false). absurd (subst T (sym h ∙ e) tt)) (λ (n : Settled u a b). n)

over : (m base r k : ℕ) → r ≡ base + k → Nearest m k → (base ≤ r) × Nearest m (r - base)
over m base r k e n =
    let back : k ≡ r - base = omega arith in
    (omega arith, subst (λ (x : ℕ). Nearest m x) back n)

pub returns-then-settles : goal.returns-then-settles
returns-then-settles c =
    let at = c in
    let x = at.args in
    let b = c.lower-b.result in
    let q = c.square-q.result in
    let k = at.upper-a.result * 2 ^ 22 + b in
    over x.m x.base (x.base + at.upper-a.result * 2 ^ 22 + b) k (omega arith)
    (settled (x.m * 2 ^ 8 - q) at.upper-a.result b c.settles.result c.if-settles.true c.settles.ensures x.m (omega arith))

pub returns-then-settles-2 : goal.returns-then-settles-2
returns-then-settles-2 c =
    let at = c in
    let x = at.args in
    let b = c.lower-b.result in
    let q = c.square-q.result in
    let k = at.upper-a.result * 2 ^ 22 + (b + 1) in
    over x.m x.base (x.base + at.upper-a.result * 2 ^ 22 + (b + 1)) k (omega arith)
    (settled (x.m * 2 ^ 8 - q) at.upper-a.result (b + 1) c.settles-then-u-lt30064771072.result c.if-settles-2.true
    c.settles-then-u-lt30064771072.ensures x.m (omega arith))
