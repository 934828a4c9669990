-- LAWS. The control numbers, as they are filled. Assumes nothing.
use mathlib.Core.Path.{◌≡◌, sym, ◌∙◌}
use mathlib.Core.List.{List}
use Prim.Native.Nat.{ℕ, ◌+◌, ◌*◌, ◌<◌, ◌≤◌}
use native.Mathlib.Omega.{arith}
use borrow.Author.Tests.{lt-ltb, le-ltb}
use lib.ListN.{length, take}
use lib.Seq.{ext_get_or, get_or-take, length-take-le}
use lib.Ieee.{Float, nan}
use Rattle.floats.specs.Numbers.{◌⊗◌, at}
use Rattle.floats.specs.Lists.{upto}
use Rattle.floats.specs.Fill.{length-upto, at-upto}
use Rattle.bspline_tables.specs.Tables.{control_at}

pub cell-is : (pts ws : List Float) (ch c i x : ℕ) → c < ch → x ≡ i * ch + c → at pts x ⊗ at ws i ≡ control_at pts ws ch c i
unfolding control_at
cell-is pts ws ch c i x h e = rw (lt-ltb c ch h, e)

pub weights_are : (pts ws : List Float) (ch c n : ℕ) → c ≡ ch → n ≤ length ws → take n ws ≡ upto (control_at pts ws ch c) n
unfolding control_at
weights_are pts ws ch c n e h = ext_get_or nan (take n ws) (upto _ n) (length-take-le n ws h ∙ sym (length-upto _ n)) (λ k g.
    let lt : k < n = omega (arith, length-take-le n ws h) in
    get_or-take n ws k nan lt ∙ sym (at-upto _ n k nan lt ∙ rw (le-ltb c ch (omega arith))))

pub lift1 : {a b : ℕ} → a < b → a < b + 1
lift1 h = omega arith
