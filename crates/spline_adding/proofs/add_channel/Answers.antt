-- `spline_adding::add_channel`: the answers to its goals. Assumes nothing.
use mathlib.Core.Path.{sym, ap, ◌∙◌}
use native.Mathlib.Omega.{arith}
use lib.ListN.{length, take}
use lib.Seq.{length-take-le}
use Rattle.spline_channels.specs.Gathers.{is_new}
use Rattle.spline_channels.specs.Keeps.{keep-yes}
use Rattle.spline_channels.specs.Append.{appended_kept, appended_left}
use Rattle.spline_adding.proofs.add_channel.Goals as goal

pub slice_bounds-is_new-end-2 : goal.slice_bounds-is_new-end-2
slice_bounds-is_new-end-2 c = sym (length-take-le _ _ c.requires.0)

pub bounds-chans-m : goal.bounds-chans-m
bounds-chans-m c =
    let f = c.args in
    let new = sym c.is_new.ensures ∙ c.if-is_new.true in
    omega (arith, ap length (keep-yes (is_new f.present (take f.n f.chans.now)) f.k new))

pub returns-then-is_new : goal.returns-then-is_new
returns-then-is_new c =
    let f = c.args in
    let new = sym c.is_new.ensures ∙ c.if-is_new.true in
    appended_kept _ _ new (omega (arith, ap length (keep-yes (is_new f.present (take f.n f.chans.now)) f.k new)))

pub returns : goal.returns
returns c = appended_left _ _ (sym c.is_new.ensures ∙ c.if-is_new.false)
