-- `saved_state::state::codes_ok`: the answers to its goals. Assumes nothing.
use Rattle.std.proofs.Common.{◌≡◌, ℕ, true, length, sym, ◌∙◌, subst, arith}
use borrow.Author.Tests.{le-leb}
use Rattle.floats.specs.Truth.{and_t, all-fails}
use Rattle.floats.specs.Lists.{all}
use Rattle.saved_state.specs.State.{code_ok, codes_ok}
use Rattle.std.proofs.lemmas.Bool.Decides.{nat_tests}
use Rattle.saved_state.proofs.Marks.{seen_none, new_ok, new-small, seen_more}
use Rattle.saved_state.proofs.state.codes_ok.Goals as goal

pub returns-then-axes-gt-LIST_CODES : goal.returns-then-axes-gt-LIST_CODES
unfolding codes_ok
returns-then-axes-gt-LIST_CODES c = grind (arith, nat_tests)

pub loop-code-init : goal.loop-code-init
loop-code-init c = seen_none _

pub returns-then-not-is_new : goal.returns-then-not-is_new
unfolding codes_ok
returns-then-not-is_new c =
    let out = sym (new_ok _ _ _ c.loop-code.invariant) ∙ sym c.is_new.ensures ∙ c.if-not-is_new.true in
    sym (and_t _ (le-leb _ _ c.if-axes-gt-LIST_CODES.false) ∙ all-fails _ (code_ok _) c.loop-code.code-index c.loop-code-test.true out)

pub loop-code-preserved : goal.loop-code-preserved
loop-code-preserved c =
    let fine = sym (new_ok _ _ _ c.loop-code.invariant) ∙ sym c.is_new.ensures ∙ c.if-not-is_new.false in
    seen_more _ _ _ c.loop-code.invariant c.set_bit-seen.ensures fine (new-small _ _ _ c.is_new.ensures c.if-not-is_new.false)

pub returns : goal.returns
unfolding codes_ok
returns c =
    let e : c.loop-code.code-index ≡ length c.args.axes.now = omega arith in
    sym (and_t _ (le-leb _ _ c.if-axes-gt-LIST_CODES.false) ∙ subst (λ (n : ℕ). all n (code_ok c.args.axes.now) ≡ true) e c.loop-code.invariant.ok)
