-- LAWS. 8.4: two answers that a contract allows for one call are one. Assumes nothing.
use Rattle.std.specs.Prelude.{ℕ, ◌≡◌, List}
use Rattle.std.proofs.Common.{sym, ◌∙◌}
use Rattle.call_reply.specs.declared.Reply.{Reply}
use Rattle.call_reply.specs.Replies.{After, AfterState, StateIs, PushIs}

pub one_answer : {p : After} {r r' : Reply} {s s' t t' u u' : List ℕ} → PushIs p r s t u → PushIs p r' s' t' u'
    → (r ≡ r') × (s ≡ s') × (t ≡ t') × (u ≡ u')
one_answer a b = (a.reply ∙ sym b.reply, a.state ∙ sym b.state, a.store ∙ sym b.store, a.rows ∙ sym b.rows)

pub one_state : {p : AfterState} {r r' : Reply} {s s' : List ℕ} → StateIs p r s → StateIs p r' s' → (r ≡ r') × (s ≡ s')
one_state a b = (a.reply ∙ sym b.reply, a.state ∙ sym b.state)
