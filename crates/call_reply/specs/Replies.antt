-- DEFINITIONS. Replies, and what a call answers and leaves, as its contract says it. Assumes nothing.
use Rattle.std.specs.Prelude.{ℕ, ◌≡◌, List}
use Rattle.call_reply.specs.declared.Reply.{Reply}

-- 2.4: a reply that has its number alone
abbrev pub plain : ℕ → Reply
plain n = record { code = n; count = 0; warning = 0; wanted = 0; held = 0 }

-- 2.11: 7, with the rows that the call needs
unfoldable pub too_few : ℕ → Reply
too_few n = record { code = 7; count = n; warning = 0; wanted = 0; held = 0 }

-- what a call that is done answers
abbrev pub done_reply : ℕ → ℕ → ℕ → ℕ → Reply
done_reply count warning wanted held = record { code = 0; count = count; warning = warning; wanted = wanted; held = held }

-- ---- a call on the state alone: what it answers and leaves
pub record AfterState : Type 0 where
  pub reply : Reply
  pub state : List ℕ

-- its contract: the reply and the state are what p says
pub record StateIs (p : AfterState) (r : Reply) (s : List ℕ) : Type 0 where
  pub reply : r ≡ p.reply
  pub state : s ≡ p.state

-- ---- a push or a close: what it answers, and what it leaves in each slice
pub record After : Type 0 where
  pub reply : Reply
  pub state : List ℕ
  pub store : List ℕ
  pub rows : List ℕ

-- its contract: the reply and each slice are what p says
pub record PushIs (p : After) (r : Reply) (s t u : List ℕ) : Type 0 where
  pub reply : r ≡ p.reply
  pub state : s ≡ p.state
  pub store : t ≡ p.store
  pub rows : u ≡ p.rows

-- 2.3: a refusal leaves every word
unfoldable pub untouched : Reply → List ℕ → List ℕ → List ℕ → After
untouched p st store rows = record { reply = p; state = st; store = store; rows = rows }
