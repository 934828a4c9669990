-- DEFINITIONS. A saved state that is turned down for its length: rule 2.25. Assumes nothing.
use Rattle.std.specs.Prelude.{ℕ, ◌≡◌, List}
use Rattle.call_reply.specs.Replies.{plain, untouched, AfterState}
use Rattle.call_start.specs.Start.{start_spec}
use Rattle.call_seed.specs.Seed.{seed_spec}
use Rattle.call_answer.specs.Push.{push_spec}
use Rattle.call_answer.specs.Close.{close_spec}

-- the words of a saved state while there were ten axes, before order 3
abbrev pub old_state_words : ℕ
old_state_words = 44

-- a call on the state alone that answers 9 and leaves it
abbrev pub nine_alone : List ℕ → AfterState
nine_alone st = record { reply = plain 9; state = st }

-- whatever the call, it answers 9 and leaves every word
pub record TurnedDown (st : List ℕ) : Type 0 where
  pub start : (tol : ℕ) (axes : List ℕ) → start_spec st tol axes ≡ nine_alone st
  pub seed : (code x : ℕ) → seed_spec st code x ≡ nine_alone st
  pub push : (store rows r : List ℕ) → push_spec st store rows r ≡ untouched (plain 9) st store rows
  pub close : (store rows : List ℕ) → close_spec st store rows ≡ untouched (plain 9) st store rows
