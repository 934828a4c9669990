-- `curve_flat::is_flat`: the answers to its goals. Assumes nothing.
use native.Mathlib.Omega.{arith}
use mathlib.Core.Path.{sym, ◌∙◌}
use Rattle.std.proofs.Common.{true≢false}
use Rattle.curve_walk.specs.Walks.{eval_of}
use Rattle.curve_flat.proofs.Flats.{flat-no, flat_no_2, flat-last}
use Rattle.curve_flat.proofs.is_flat.Goals as goal
use Rattle.curve_flat.proofs.is_flat.Goals.{then-is_near, else-is_near}

pub is_near-requires : goal.is_near-requires
is_near-requires c =
    let pre = c.requires.stretch in
    record { below = rw pre.first pre.metric; a_in_bounds = (omega (arith, pre.first, pre.end), omega (arith, pre.first, c.requires.pm_len)) }

pub returns-then-near_at : goal.returns-then-near_at
returns-then-near_at c =
    let a = c.args in
    let ev = eval_of a.s a.ks.now a.cs.now in
    let yes = c.if-near_at.true in
    let last = c.near_at-then-near_at.ensures in
    elim c.if-is_near.branch [
      | then-is_near w ↦ flat-last ev _ _ _ _ _ _ _ c.is_near.ensures w.if-is_near.true w.near_at.ensures (sym w.value-is ∙ yes) last
      | else-is_near w ↦ absurd (true≢false (sym yes ∙ w.value-is ∙ w.if-is_near.false))
    ]

pub returns-else-near_at : goal.returns-else-near_at
returns-else-near_at c =
    let a = c.args in
    let ev = eval_of a.s a.ks.now a.cs.now in
    let no = c.if-near_at.false in
    elim c.if-is_near.branch [
      | then-is_near w ↦ no ∙ flat_no_2 ev _ _ _ _ _ _ _ c.is_near.ensures w.if-is_near.true w.near_at.ensures (sym w.value-is ∙ no)
      | else-is_near w ↦ no ∙ flat-no ev _ _ _ _ _ _ _ c.is_near.ensures w.if-is_near.false
    ]
