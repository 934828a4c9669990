-- `night_names::is_our_name`: the answers to its goals. Assumes nothing.
use mathlib.Core.Path.{sym, ◌∙◌}
use Rattle.std.proofs.lemmas.Bool.{false≢true}
use Rattle.csv_words.specs.Text.{bytes}
use Rattle.night_names.proofs.Naming.{as_same, is_tries, is-curved, is-rows}
use Rattle.night_names.proofs.is_our_name.Goals as goal
use Rattle.night_names.proofs.is_our_name.Goals.{then-eq, else-eq}

pub returns-then-eq-2 : goal.returns-then-eq-2
returns-then-eq-2 c =
    elim c.if-eq.branch [
      | then-eq w ↦ w.value-is ∙ w.if-eq.true ∙ is_tries _ (sym (as_same c.args.name.now (bytes "tries") _ _ c.as_slice.ensures c.eq.ensures) ∙ w.if-eq.true)
      | else-eq w ↦
          c.if-eq-2.true
          ∙ is-curved _ (sym (as_same c.args.name.now (bytes "tries") _ _ c.as_slice.ensures c.eq.ensures) ∙ w.if-eq.false)
          (sym (as_same c.args.name.now (bytes "curved") _ _ w.as_slice-else-eq.ensures w.eq-else-eq.ensures) ∙ sym w.value-is ∙ c.if-eq-2.true)
    ]

pub returns-else-eq-2 : goal.returns-else-eq-2
returns-else-eq-2 c =
    elim c.if-eq.branch [
      | then-eq w ↦ absurd (false≢true (sym c.if-eq-2.false ∙ w.value-is ∙ w.if-eq.true))
      | else-eq w ↦
          is-rows _ _ (sym (as_same c.args.name.now (bytes "tries") _ _ c.as_slice.ensures c.eq.ensures) ∙ w.if-eq.false)
          (sym (as_same c.args.name.now (bytes "curved") _ _ w.as_slice-else-eq.ensures w.eq-else-eq.ensures) ∙ sym w.value-is ∙ c.if-eq-2.false)
          c.ends_try.ensures
    ]
