-- `call_start::start`: the answers to its goals. Assumes nothing.
use Rattle.std.proofs.Common.{refl, sym, ◌∙◌}
use borrow.Author.Tests.{eq-eqb, ne_eqb}
use Rattle.floats.specs.Truth.{cond-t, cond-f}
use Rattle.call_start.specs.Start.{start_spec}
use Rattle.call_reply.specs.ReplyLaws.{state-is}
use Rattle.call_start.proofs.start.Goals as goal

pub returns-then-state-ne-STATE_WORDS : goal.returns-then-state-ne-STATE_WORDS
unfolding start_spec
returns-then-state-ne-STATE_WORDS c = state-is (cond-f _ _ (ne_eqb _ _ c.if-state-ne-STATE_WORDS.true)) c.into.ensures refl

pub returns-then-not-tol_ok : goal.returns-then-not-tol_ok
unfolding start_spec
returns-then-not-tol_ok c =
    let long = cond-t _ _ (eq-eqb _ _ c.if-state-ne-STATE_WORDS.false) in
    state-is (long ∙ cond-f _ _ (sym c.tol_ok.ensures ∙ c.if-not-tol_ok.true)) c.into-then-not-tol_ok.ensures refl

pub returns-then-not-codes_ok : goal.returns-then-not-codes_ok
unfolding start_spec
returns-then-not-codes_ok c =
    let long = cond-t _ _ (eq-eqb _ _ c.if-state-ne-STATE_WORDS.false) in
    let tolerance = long ∙ cond-t _ _ (sym c.tol_ok.ensures ∙ c.if-not-tol_ok.false) in
    state-is (tolerance ∙ cond-f _ _ (sym c.codes_ok.ensures ∙ c.if-not-codes_ok.true)) c.into-then-not-codes_ok.ensures refl

pub returns : goal.returns
unfolding start_spec
returns c =
    let long = cond-t _ _ (eq-eqb _ _ c.if-state-ne-STATE_WORDS.false) in
    let tolerance = long ∙ cond-t _ _ (sym c.tol_ok.ensures ∙ c.if-not-tol_ok.false) in
    let codes = tolerance ∙ cond-t _ _ (sym c.codes_ok.ensures ∙ c.if-not-codes_ok.false) in
    state-is codes c.plain_reply.ensures c.write_fresh.ensures
