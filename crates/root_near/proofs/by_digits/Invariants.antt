-- `root_near::by_digits`: what holds at each turn of its loops. Assumes nothing.
use Prim.Native.Nat.{ℕ, ◌+◌, ◌*◌, ◌^◌, ◌≤◌, ◌<◌}
use mathlib.Core.Path.{◌≡◌}
use Rattle.root_near.proofs.by_digits.Given as goal

pub record Digits (x₀ x root rest i : ℕ) : Type 0 where
  pub small : root < 2 ^ i
  pub word : x < 2 ^ 64
  pub whole : rest ≤ root * 2
  pub all : (root * root + rest) * 2 ^ 64 + x ≡ x₀ * 4 ^ i

abbrev pub invariant-loop : goal.invariant-loop
invariant-loop l = Digits l.initial.x l.x l.root l.rest l.counter
