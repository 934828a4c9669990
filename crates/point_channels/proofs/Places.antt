-- LAWS. The channels' numbers, each at its place. Assumes nothing.
use mathlib.Core.Path.{◌≡◌, ◌∙◌}
use mathlib.Core.Bool.{cond}
use mathlib.Core.Logic.{⊎_elim}
use mathlib.Core.List.{List}
use Prim.Native.Nat.{ℕ, ◌<◌, ◌≤◌}
use borrow.Author.Tests.{lt-ltb, le-ltb}
use lib.Dec.{ltb}
use lib.ListN.{replicate}
use lib.Ieee.{Float}
use Rattle.floats.specs.Numbers.{f0}
use Rattle.floats.specs.Lists.{upto, filled}
use Rattle.floats.specs.Fill.{lt_or_le}
use Rattle.curve_metric.specs.Widest.{widest}
use Rattle.curve_metric.specs.Written.{padded}

-- the number of channel c; 0 where there is none
abbrev pub placed : (ℕ → Float) → ℕ → ℕ → Float
placed f ch c = cond (ltb c ch) (f c) f0

-- P is what is known of a channel's number
pub placed-is : {P : ℕ → Float → Type 0} (f : ℕ → Float) (ch : ℕ) → ((c : ℕ) (x : Float) → c < ch → P c x → x ≡ f c)
    → (c : ℕ) {x : Float} → (c < ch → P c x) → (ch ≤ c → x ≡ f0) → x ≡ placed f ch c
placed-is f ch is c {x} inside outside = ⊎_elim
    (λ (h : c < ch). rw (lt-ltb c ch h) (is c x h (inside h)))
    (λ (h : ch ≤ c). rw (le-ltb c ch h) (outside h))
    (lt_or_le c ch)

pub placed-all : (f : ℕ → Float) (ch : ℕ) {r : List Float} → ch ≤ widest → r ≡ upto (placed f ch) widest → r ≡ filled f ch (replicate widest f0)
placed-all f ch narrow e = e ∙ padded f (placed f ch) ch narrow (λ c h. rw (lt-ltb c ch h)) (λ c h. rw (le-ltb c ch h))
