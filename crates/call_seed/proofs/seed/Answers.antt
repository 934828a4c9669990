-- `call_seed::seed`: the answers to its goals. Assumes nothing.
use Rattle.std.proofs.Common.{◌≡◌, refl, sym, ◌∙◌}
use borrow.Author.Tests.{le-leb, lt-leb}
use Rattle.floats.specs.Truth.{cond-t, cond-f}
use Rattle.call_seed.specs.Seed.{seed_spec, seeded}
use Rattle.call_reply.specs.ReplyLaws.{state-is}
use Rattle.saved_state.specs.StateLaws.{good, good-listed, geometric-small}
use Rattle.call_seed.proofs.seed.Goals as goal
use Rattle.call_seed.proofs.seed.Goals.{then-listed, else-listed}

pub returns-then-not-state_ok : goal.returns-then-not-state_ok
unfolding seed_spec
returns-then-not-state_ok c = state-is (cond-f _ _ (sym c.state_ok.ensures ∙ c.if-not-state_ok.true)) c.into.ensures refl

pub returns-then-axis : goal.returns-then-axis
unfolding seed_spec
returns-then-axis c =
    let state = cond-t _ _ (sym c.state_ok.ensures ∙ c.if-not-state_ok.false) in
    state-is (state ∙ cond-f _ _ (lt-leb _ _ c.if-axis.true)) c.into-then-axis.ensures refl

pub returns-then-not-within_range : goal.returns-then-not-within_range
unfolding seed_spec
returns-then-not-within_range c =
    let state = cond-t _ _ (sym c.state_ok.ensures ∙ c.if-not-state_ok.false) in
    let code = state ∙ cond-t _ _ (le-leb _ _ c.if-axis.false) in
    state-is (code ∙ cond-f _ _ (sym c.within_range.ensures ∙ c.if-not-within_range.true)) c.into-then-not-within_range.ensures refl

pub is_geometric-listed-requires : goal.is_geometric-listed-requires
is_geometric-listed-requires c = good-listed _ (good _ (sym c.state_ok.ensures ∙ c.if-not-state_ok.false))

pub place-requires : goal.place-requires
place-requires c =
    ((good _ (sym c.state_ok.ensures ∙ c.if-not-state_ok.false)).long, geometric-small _ _ (sym c.is_geometric-listed.ensures ∙ c.if-listed.true))

pub returns : goal.returns
unfolding seed_spec seeded
returns c =
    let state = cond-t _ _ (sym c.state_ok.ensures ∙ c.if-not-state_ok.false) in
    let code = state ∙ cond-t _ _ (le-leb _ _ c.if-axis.false) in
    let range = code ∙ cond-t _ _ (sym c.within_range.ensures ∙ c.if-not-within_range.false) in
    let is : c.if-listed.state ≡ seeded c.args.state.now c.args.axis c.args.value = elim c.if-listed.branch [
      | then-listed w ↦ w.state-is ∙ w.place.ensures ∙ sym (cond-t _ _ (sym c.is_geometric-listed.ensures ∙ w.if-listed.true))
      | else-listed w ↦ w.state-is ∙ sym (cond-f _ _ (sym c.is_geometric-listed.ensures ∙ w.if-listed.false))
    ] in
    state-is range c.plain_reply.ensures is
