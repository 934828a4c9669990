-- DEFINITIONS. What any call may answer, and that a refusal leaves every word: rules 8.2, 8.3. Assumes nothing.
use Rattle.std.specs.Prelude.{ℕ, ◌≤◌, ◌≡◌, List, length}
use Rattle.call_reply.specs.declared.Reply.{Reply}
use Rattle.call_reply.specs.Replies.{After, AfterState}

-- That no call halts or leaves its memory is what the proof of each exported function, which has no `requires`, says: every input
-- has an answer, and the slices keep their lengths. Here is what the answers are.

-- 8.2: the number of a refusal is one of 1 to 9 (10 is `flatcsv`'s own), and 2.4: it says nothing else
pub record Turned (p : Reply) : Type 0 where
  pub ten : p.code ≤ 9
  pub none : (p.code ≡ 0 → ⊥) → (p.warning ≡ 0) × (p.wanted ≡ 0) × (p.held ≡ 0)
  pub count : (p.code ≡ 0 → ⊥) → (p.code ≡ 7 → ⊥) → p.count ≡ 0

-- 8.2, 8.3: a refusal leaves every word, and no call changes a length
pub record Safe (a : After) (st store rows : List ℕ) : Type 0 where
  pub turned : Turned a.reply
  pub same : (a.reply.code ≡ 0 → ⊥) → (a.state ≡ st) × (a.store ≡ store) × (a.rows ≡ rows)
  pub long : (length a.state ≡ length st) × (length a.store ≡ length store) × (length a.rows ≡ length rows)

pub record SafeState (a : AfterState) (st : List ℕ) : Type 0 where
  pub turned : Turned a.reply
  pub same : (a.reply.code ≡ 0 → ⊥) → a.state ≡ st
  pub long : length a.state ≡ length st
