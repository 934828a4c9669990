-- `curve_owner::count_one`: the answers to its goals. Assumes nothing.
use mathlib.Core.Path.{ap}
use Prim.Native.Nat.{ℕ, ◌-◌}
use native.Mathlib.Omega.{arith}
use Rattle.curve_walk.specs.Walks.{bumped}
use Rattle.curve_owner.proofs.Owners.{owner_index}
use Rattle.curve_owner.proofs.count_one.Goals as goal

pub overflow_sub-i : goal.overflow_sub-i
overflow_sub-i c = omega (arith, owner_index c.args.t (c.requires.owners, c.requires.counts) c.owner_at-owner.ensures)

pub offset_bounds-counts-i : goal.offset_bounds-counts-i
offset_bounds-counts-i c =
    let start = c in
    omega (arith, owner_index start.args.t (start.requires.owners, start.requires.counts) c.owner_at-owner.ensures, start.requires.counts.table)

pub bounds-counts-i : goal.bounds-counts-i
bounds-counts-i c =
    let at-owner-at = c in
    let start = at-owner-at in
    omega (arith, owner_index start.args.t (start.requires.owners, start.requires.counts) at-owner-at.owner_at-owner.ensures, start.requires.counts.table)

pub overflow_add-counts : goal.overflow_add-counts
overflow_add-counts c =
    let at-owner-at = c in
    let start = at-owner-at in
    omega (
      arith,
      start.requires.counts.room (at-owner-at.owner_at-owner.result - 1) (owner_index start.args.t (
        start.requires.owners,
        start.requires.counts,
      ) at-owner-at.owner_at-owner.ensures).1,
    )

pub bounds-counts-i-2 : goal.bounds-counts-i-2
bounds-counts-i-2 c =
    let at-owner-at = c in
    let start = at-owner-at in
    omega (arith, owner_index start.args.t (start.requires.owners, start.requires.counts) at-owner-at.owner_at-owner.ensures, start.requires.counts.table)

pub returns : goal.returns
returns c =
    let at-owner-at = c in
    let start = at-owner-at in
    (at-owner-at.owner_at-owner.ensures, ap (λ (z : ℕ). bumped start.args.counts.now (z - 1)) at-owner-at.owner_at-owner.ensures)
