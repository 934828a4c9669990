-- `push_settle::settle`: the answers to its goals. Assumes nothing.
use mathlib.Core.Path.{ap, ◌∙◌}
use mathlib.Core.Bool.{cond}
use Prim.Native.Nat.{ℕ, ◌+◌}
use native.Mathlib.Omega.{arith}
use Rattle.call_reply.specs.Replies.{done_reply}
use Rattle.push_resolve.specs.declared.Resolved.{Resolved}
use Rattle.push_state.specs.StoredLaws.{stores, store_is}
use Rattle.push_settle.specs.Settle.{settled}
use Rattle.push_settle.proofs.settle.Goals as goal

pub overflow_add-needed : goal.overflow_add-needed
overflow_add-needed c = omega (arith, c.requires.small)

pub overflow_mul-first : goal.overflow_mul-first
overflow_mul-first c = omega (arith, c.requires.small)

pub write_own-requires : goal.write_own-requires
write_own-requires c =
    let b8 = c in
    record { ready = b8.requires.ready; planned = b8.requires.planned; room = omega (arith, b8.requires.room) }

pub push_store-requires : goal.push_store-requires
push_store-requires c =
    let b12 = c in
    stores _ _ _ _ b12.requires.ready.told b12.requires.ready.block b12.requires.space

pub push_state-requires : goal.push_state-requires
push_state-requires c =
    let b14 = c in
    let b16 = b14 in
    (b16.requires.ready.block, (b16.requires.ready.told, b16.requires.few))

pub returns : goal.returns
unfolding settled
returns c =
    let b3 = c in
    let b7 = b3 in
    let b11 = b7 in
    let b14 = b11 in
    let b20 = b14 in
    let s = b20.requires in
    let p = b20.args.plan in
    let n = b20.args.first + p.count in
    record {
      reply = c.done_reply.ensures
          ∙ ap (λ (w : ℕ). done_reply n w p.wanted p.held)
          (b14.warning_of-warning.ensures ∙ ap (λ (x : Resolved). cond x.news 7 p.warning) s.ready.told);
      state = b3.push_state.ensures;
      store = b7.push_store.ensures ∙ store_is _ _ _ _ s.ready.told;
      rows = b11.write_own.ensures;
    }
