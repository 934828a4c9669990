-- `curve_write::+write_walk`: the answers to its goals. Assumes nothing.
use mathlib.Core.Path.{refl, sym, ◌∙◌}
use native.Mathlib.Omega.{arith}
use lib.ListN.{length}
use Rattle.curve_walk.specs.Walks.{eval_of}
use Rattle.curve_walk.specs.Points.{point-is, point-length, point-room}
use Rattle.curve_walk.proofs.Remembering.{flat-known, flat-new, not-flat}
use Rattle.curve_walk.specs.Forms.{stretch-at}
use Rattle.curve_write.proofs.Stopping.{leaf_zero, leaf_flat, halves_of, leaf_room, leaf_written, first-half, second-half, both_halves}
use Rattle.curve_write.proofs.+write_walk.Goals as goal

pub put_sample-requires : goal.put_sample-requires
put_sample-requires t c =
    let at-if1 = c in
    let start = at-if1 in
    let ev = eval_of start.args.s start.args.ks.now start.args.cs.now in
    leaf_room (leaf_zero ev _ _ _ _ _ _ _ at-if1.if-left-eq0.true) start.args.out.now _ start.requires.p1_in_bounds start.requires.recalls.1

pub shape_of-out-then-left-eq0 : goal.shape_of-out-then-left-eq0
shape_of-out-then-left-eq0 t c = c.put_sample.auto.out

pub returns-then-left-eq0 : goal.returns-then-left-eq0
returns-then-left-eq0 t c =
    let at-put-sample = c in
    let at-if1 = at-put-sample in
    let start = at-if1 in
    let ev = eval_of start.args.s start.args.ks.now start.args.cs.now in
    let both = leaf_written (leaf_zero ev _ _ _ _ _ _ _ at-if1.if-left-eq0.true) start.args.at.sample at-put-sample.put_sample.ensures in
    record { written = both.0; sample_value = both.1 }

pub is_remembered-requires : goal.is_remembered-requires
is_remembered-requires t c = tt

pub put_sample-requires-then-is_remembered : goal.put_sample-requires-then-is_remembered
put_sample-requires-then-is_remembered t c =
    let at-if2 = c in
    let at-is-remembered = at-if2 in
    let at-if1 = at-is-remembered in
    let start = at-if1 in
    let ev = eval_of start.args.s start.args.ks.now start.args.cs.now in
    let flat = flat-known ev _ _ _ _ _ _ _ start.requires.recalls.0 at-if1.if-left-eq0.false at-is-remembered.is_remembered.ensures
    at-if2.if-is_remembered.true in
    leaf_room (leaf_flat ev _ _ _ _ _ _ _ refl flat) start.args.out.now _ start.requires.p1_in_bounds start.requires.recalls.1

pub shape_of-out-then-is_remembered : goal.shape_of-out-then-is_remembered
shape_of-out-then-is_remembered t c = c.put_sample-then-is_remembered.auto.out

pub returns-then-is_remembered : goal.returns-then-is_remembered
returns-then-is_remembered t c =
    let at-put-sample2 = c in
    let at-if2 = at-put-sample2 in
    let at-is-remembered = at-if2 in
    let at-if1 = at-is-remembered in
    let start = at-if1 in
    let ev = eval_of start.args.s start.args.ks.now start.args.cs.now in
    let flat = flat-known ev _ _ _ _ _ _ _ start.requires.recalls.0 at-if1.if-left-eq0.false at-is-remembered.is_remembered.ensures
    at-if2.if-is_remembered.true in
    let both = leaf_written (leaf_flat ev _ _ _ _ _ _ _ refl flat) start.args.at.sample at-put-sample2.put_sample-then-is_remembered.ensures in
    record { written = both.0; sample_value = both.1 }

pub point_at-pm-requires : goal.point_at-pm-requires
point_at-pm-requires t c =
    let start = c in
    start.requires.stretch.tables

pub slice_bounds-pm-end : goal.slice_bounds-pm-end
slice_bounds-pm-end t c =
    let start = c in
    omega (arith, start.requires.stretch.tables.narrow)

pub is_flat_from-requires : goal.is_flat_from-requires
is_flat_from-requires t c =
    let at-point-at = c in
    let start = at-point-at in
    record { stretch = start.requires.stretch; pm_len = point-length _ _ at-point-at.point_at-pm.ensures }

pub put_sample-requires-then-is_flat_from : goal.put_sample-requires-then-is_flat_from
put_sample-requires-then-is_flat_from t c =
    let at-if3 = c in
    let at-is-flat-from = at-if3 in
    let at-point-at = at-is-flat-from in
    let start = at-point-at in
    let ev = eval_of start.args.s start.args.ks.now start.args.cs.now in
    let asked = at-is-flat-from.is_flat_from.ensures in
    let flat = flat-new ev _ _ _ _ _ _ (length start.args.lefts.now) start.args.at.sample _ asked at-if3.if-is_flat_from.true in
    let leaf = leaf_flat ev _ _ _ _ _ _ _ (point-is _ _ at-point-at.point_at-pm.ensures) flat in
    leaf_room leaf start.args.out.now _ start.requires.p1_in_bounds start.requires.recalls.1

pub shape_of-out-then-is_flat_from : goal.shape_of-out-then-is_flat_from
shape_of-out-then-is_flat_from t c = c.put_sample-then-is_flat_from.auto.out

pub returns-then-is_flat_from : goal.returns-then-is_flat_from
returns-then-is_flat_from t c =
    let at-put-sample3 = c in
    let at-if3 = at-put-sample3 in
    let at-is-flat-from = at-if3 in
    let at-point-at = at-is-flat-from in
    let start = at-point-at in
    let ev = eval_of start.args.s start.args.ks.now start.args.cs.now in
    let asked = at-is-flat-from.is_flat_from.ensures in
    let flat = flat-new ev _ _ _ _ _ _ (length start.args.lefts.now) start.args.at.sample _ asked at-if3.if-is_flat_from.true in
    let leaf = leaf_flat ev _ _ _ _ _ _ _ (point-is _ _ at-point-at.point_at-pm.ensures) flat in
    let both = leaf_written leaf start.args.at.sample at-put-sample3.put_sample-then-is_flat_from.ensures in
    record { written = both.0; sample_value = both.1 }

pub overflow_sub-less : goal.overflow_sub-less
overflow_sub-less t c = omega (arith, c.if-left-eq0.false)

pub slice_bounds-pm-end-2 : goal.slice_bounds-pm-end-2
slice_bounds-pm-end-2 t c =
    let start = c in
    omega (arith, start.requires.stretch.tables.narrow)

pub slice_bounds-write_walk-end : goal.slice_bounds-write_walk-end
slice_bounds-write_walk-end t c = sym (point-length _ _ c.point_at-pm.ensures)

pub write_walk-mid-requires : goal.write_walk-mid-requires
write_walk-mid-requires t c =
    let at-if3 = c in
    let at-is-flat-from = at-if3 in
    let at-point-at = at-is-flat-from in
    let at-if2 = at-point-at in
    let at-is-remembered = at-if2 in
    let at-if1 = at-is-remembered in
    let start = at-if1 in
    let ev = eval_of start.args.s start.args.ks.now start.args.cs.now in
    let some = at-if1.if-left-eq0.false in
    let pm = point-is _ _ at-point-at.point_at-pm.ensures in
    let known = at-is-remembered.is_remembered.ensures in
    let asked = at-is-flat-from.is_flat_from.ensures in
    let no = not-flat ev _ _ _ _ _ _ _ start.requires.recalls.0 some pm known at-if2.if-is_remembered.false asked at-if3.if-is_flat_from.false in
    let two = halves_of ev _ _ _ _ _ _ _ some pm no in
    let middle = point-length _ _ at-point-at.point_at-pm.ensures in
    let half = first-half two start.args.out.now start.args.at.word start.requires.p1_in_bounds start.requires.recalls in
    (omega (arith, some, start.requires-raw.0), (stretch-at start.requires.stretch start.requires.stretch.first middle, half))

pub slice_bounds-pm-end-3 : goal.slice_bounds-pm-end-3
slice_bounds-pm-end-3 t c =
    let at-point-at = c in
    let start = at-point-at in
    let narrow = start.requires.stretch.tables.narrow in
    omega (arith, narrow, point-room _ _ at-point-at.point_at-pm.ensures narrow)

pub write_walk-requires : goal.write_walk-requires
write_walk-requires t c =
    let at-write-walk = c in
    let at-if3 = at-write-walk in
    let at-is-flat-from = at-if3 in
    let at-point-at = at-is-flat-from in
    let at-if2 = at-point-at in
    let at-is-remembered = at-if2 in
    let at-if1 = at-is-remembered in
    let start = at-if1 in
    let ev = eval_of start.args.s start.args.ks.now start.args.cs.now in
    let some = at-if1.if-left-eq0.false in
    let pm = point-is _ _ at-point-at.point_at-pm.ensures in
    let known = at-is-remembered.is_remembered.ensures in
    let asked = at-is-flat-from.is_flat_from.ensures in
    let no = not-flat ev _ _ _ _ _ _ _ start.requires.recalls.0 some pm known at-if2.if-is_remembered.false asked at-if3.if-is_flat_from.false in
    let two = halves_of ev _ _ _ _ _ _ _ some pm no in
    let middle = point-length _ _ at-point-at.point_at-pm.ensures in
    let half = second-half two start.args.out.now start.args.at.word start.requires.p1_in_bounds start.requires.recalls
    (at-write-walk.write_walk-mid.ensures.written, at-write-walk.write_walk-mid.ensures.sample_value) in
    (omega (arith, some, start.requires-raw.0), (stretch-at start.requires.stretch middle start.requires.stretch.end, half))

pub shape_of-out : goal.shape_of-out
shape_of-out t c =
    let at-write-walk2 = c in
    let at-write-walk = at-write-walk2 in
    at-write-walk2.write_walk.auto.out ∙ at-write-walk.write_walk-mid.auto.out

pub returns : goal.returns
returns t c =
    let at-write-walk2 = c in
    let at-write-walk = at-write-walk2 in
    let at-if3 = at-write-walk in
    let at-is-flat-from = at-if3 in
    let at-point-at = at-is-flat-from in
    let at-if2 = at-point-at in
    let at-is-remembered = at-if2 in
    let at-if1 = at-is-remembered in
    let start = at-if1 in
    let ev = eval_of start.args.s start.args.ks.now start.args.cs.now in
    let some = at-if1.if-left-eq0.false in
    let pm = point-is _ _ at-point-at.point_at-pm.ensures in
    let known = at-is-remembered.is_remembered.ensures in
    let asked = at-is-flat-from.is_flat_from.ensures in
    let no = not-flat ev _ _ _ _ _ _ _ start.requires.recalls.0 some pm known at-if2.if-is_remembered.false asked at-if3.if-is_flat_from.false in
    let two = halves_of ev _ _ _ _ _ _ _ some pm no in
    let both = both_halves two start.args.out.now start.args.at.word start.requires.p1_in_bounds start.requires.recalls
    (at-write-walk.write_walk-mid.ensures.written, at-write-walk.write_walk-mid.ensures.sample_value) (
      at-write-walk2.write_walk.ensures.written,
      at-write-walk2.write_walk.ensures.sample_value,
    ) in
    record { written = both.0; sample_value = both.1 }
