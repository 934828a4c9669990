-- LAWS. A call that comes to what another definition says meets its contract. Assumes nothing.
use Rattle.std.specs.Prelude.{ℕ, ◌≡◌, List}
use Rattle.std.proofs.Common.{sym, ◌∙◌, ap}
use Rattle.call_reply.specs.declared.Reply.{Reply}
use Rattle.call_reply.specs.Replies.{AfterState, StateIs, After, PushIs}

pub state-is : {a b : AfterState} {r : Reply} {s : List ℕ} → a ≡ b → r ≡ b.reply → s ≡ b.state → StateIs a r s
state-is e p q = record { reply = p ∙ sym (ap (λ (z : AfterState). z.reply) e); state = q ∙ sym (ap (λ (z : AfterState). z.state) e) }

pub answers : {a b : After} {r : Reply} {s t u : List ℕ} → a ≡ b → r ≡ b.reply → s ≡ b.state → t ≡ b.store → u ≡ b.rows → PushIs a r s t u
answers e p q x y =
    record {
      reply = p ∙ sym (ap (λ (z : After). z.reply) e);
      state = q ∙ sym (ap (λ (z : After). z.state) e);
      store = x ∙ sym (ap (λ (z : After). z.store) e);
      rows = y ∙ sym (ap (λ (z : After). z.rows) e);
    }
