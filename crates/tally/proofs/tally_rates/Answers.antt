-- `tally::tally_rates`: the answers to its goals. Assumes nothing.
use Rattle.std.proofs.Common.{◌∙◌}
use mathlib.Core.Path.{sym}
use native.Mathlib.Omega.{arith}
use Rattle.floats.specs.Truth.{cond-f}
use Rattle.tally.specs.Tally.{rates_spec}
use Rattle.tally.specs.TallyLaws.{counting, rates_is}
use Rattle.tally.proofs.tally_rates.Goals as goal

pub returns-then-not-tally_ok : goal.returns-then-not-tally_ok
unfolding rates_spec
returns-then-not-tally_ok c = rw c.refusal_code.ensures (sym (cond-f _ _ (sym c.tally_ok.ensures ∙ c.if-not-tally_ok.true)))

pub jobs_with-closed-requires : goal.jobs_with-closed-requires
jobs_with-closed-requires c =
    counting _ (sym c.tally_ok.ensures ∙ c.if-not-tally_ok.false) (omega arith)

pub jobs_with-first_passed-requires : goal.jobs_with-first_passed-requires
jobs_with-first_passed-requires c =
    counting _ (sym c.tally_ok.ensures ∙ c.if-not-tally_ok.false) (omega arith)

pub jobs_with-final_passed-requires : goal.jobs_with-final_passed-requires
jobs_with-final_passed-requires c =
    counting _ (sym c.tally_ok.ensures ∙ c.if-not-tally_ok.false) (omega arith)

pub returns : goal.returns
returns c =
    rates_is _ _ _ _ (sym c.tally_ok.ensures ∙ c.if-not-tally_ok.false)
    c.jobs_with-first_passed.ensures c.jobs_with-closed.ensures c.jobs_with-final_passed.ensures
