-- LAWS. 8.10: the same calls without the refused ones leave and write the same; and what each call keeps, a run keeps. Assumes nothing.
use Rattle.std.specs.Prelude.{ℕ, ◌≡◌, false, cond}
use Rattle.std.proofs.Math.Path.{refl}
use Rattle.std.proofs.Common.{sym, ◌∙◌, ap}
use mathlib.Core.List.{List, [], ◌∷◌, ◌++◌}
use Rattle.floats.specs.Truth.{by_bit, cond-t, cond-f}
use Rattle.call_reply.specs.Replies.{After}
use Rattle.demand_calls.specs.Runs.{Call, Answering, accepts, wrote, taken, Ran, run, accepted_of, Traceless}

-- what holds of the state and the store, and stays with each call
pub run-keeps : (f : Answering) (P : List ℕ → List ℕ → Type 0)
    → ((st store : List ℕ) (c : Call) → P st store → P (f st store c).state (f st store c).store)
    → (st store : List ℕ) (cs : List Call) → P st store → P (run f st store cs).state (run f st store cs).store
unfolding run
run-keeps f P step st store [] p = p
run-keeps f P step st store (c ∷ cs) p = run-keeps f P step (f st store c).state (f st store c).store cs (step st store c p)

-- a call before others: what it wrote and took, and then theirs
before : After → Call → Ran → Ran
before a c x = record { state = x.state; store = x.store; out = wrote a ++ x.out; events = taken a c ++ x.events }

nothing : (a : After) (c : Call) (x : Ran) → accepts a ≡ false → before a c x ≡ x
unfolding before wrote taken
nothing a c x f =
    let w : wrote a ≡ [] = cond-f _ [] f in
    let e : taken a c ≡ [] = cond-f _ [] f in
    λ i. record { state = x.state; store = x.store; out = w i ++ x.out; events = e i ++ x.events }

-- a refused call leaves the state and the store
module _ (f : Answering)
    (leaves : (st store : List ℕ) (c : Call) → accepts (f st store c) ≡ false → ((f st store c).state ≡ st) × ((f st store c).store ≡ store)) where
  run-cons : (st store : List ℕ) (c : Call) (cs : List Call)
      → run f st store (c ∷ cs) ≡ before (f st store c) c (run f (f st store c).state (f st store c).store cs)
  unfolding run before
  run-cons st store c cs = refl

  -- a call before others that already leave no trace
  with_call : (st store : List ℕ) (c : Call) (cs kept : List Call)
      → run f (f st store c).state (f st store c).store kept ≡ run f (f st store c).state (f st store c).store cs
      → run f st store (cond (accepts (f st store c)) (c ∷ kept) kept) ≡ run f st store (c ∷ cs)
  with_call st store c cs kept ih =
      by_bit (accepts (f st store c))
      (λ y. ap (run f st store) (cond-t (c ∷ kept) kept y) ∙ run-cons st store c kept ∙ ap (before (f st store c) c) ih ∙ sym (run-cons st store c cs))
      (λ n. let k : ((f st store c).state ≡ st) × ((f st store c).store ≡ store) = leaves st store c n in
      ap (run f st store) (cond-f (c ∷ kept) kept n)
      ∙ (λ i. run f (sym k.0 i) (sym k.1 i) kept)
      ∙ ih
      ∙ sym (run-cons st store c cs ∙ nothing (f st store c) c (run f (f st store c).state (f st store c).store cs) n))

  pub traceless : Traceless f
  unfolding accepted_of
  traceless st store [] = refl
  traceless st store (c ∷ cs) =
      with_call st store c cs (accepted_of f (f st store c).state (f st store c).store cs) (traceless (f st store c).state (f st store c).store cs)
