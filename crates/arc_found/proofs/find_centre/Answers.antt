-- `arc_found::find_centre`: the answers to its goals. Assumes nothing.
use mathlib.Core.Path.{◌≡◌, sym, ◌∙◌}
use mathlib.Core.Bool.{true}
use mathlib.Core.Logic.{◌⊎◌, inl, inr}
use Rattle.std.specs.Option.{is_some}
use Rattle.arc_centre.specs.Centre.{wide_centre, centre_of}
use Rattle.arc_centre.specs.Types.{number_is, ends_is}
use Rattle.arc_found.proofs.Finding.{by-offset, no-offset}
use Rattle.arc_found.proofs.find_centre.Goals as goal
use Rattle.arc_found.proofs.find_centre.Goals.{then-is_some-via-then-is_some, then-is_some-via-else-is_some+then-is_some-2}

pub returns-then-is_some : goal.returns-then-is_some
returns-then-is_some c =
    let a = c.args in
    let some : (is_some a.i ≡ true) ⊎ (is_some a.j ≡ true) = elim c.then-is_some.branch [
      | then-is_some-via-then-is_some w ↦ inl (sym c.is_some.ensures ∙ w.if-is_some.true)
      | then-is_some-via-else-is_some+then-is_some-2 w ↦ inr (sym w.is_some-else-is_some.ensures ∙ w.if-is_some-2.true)
    ] in
    rw (by-offset a.cw (ends_is a.e) a.i a.j (number_is a.cr) some, ← c.unwrap_or.ensures, ← c.unwrap_or-then-is_some.ensures) c.wide.ensures

pub returns-in-Some : goal.returns-in-Some
unfolding centre_of
returns-in-Some c =
    let a = c.args in
    let no_i = sym c.is_some.ensures ∙ c.if-is_some.false in
    let no_j = sym c.is_some-else-is_some.ensures ∙ c.if-is_some-2.false in
    rw (no-offset a.cw (ends_is a.e) a.i a.j (number_is a.cr) no_i no_j, c.in-Some.is) c.by_radius.ensures

pub returns-in-None : goal.returns-in-None
unfolding centre_of wide_centre
returns-in-None c =
    let a = c.args in
    let no_i = sym c.is_some.ensures ∙ c.if-is_some.false in
    let no_j = sym c.is_some-else-is_some.ensures ∙ c.if-is_some-2.false in
    rw (no-offset a.cw (ends_is a.e) a.i a.j (number_is a.cr) no_i no_j, c.in-None.is)
