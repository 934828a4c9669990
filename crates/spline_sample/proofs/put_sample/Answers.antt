-- `spline_sample::put_sample`: the answers to its goals. Assumes nothing.
use native.Mathlib.Omega.{arith}
use Rattle.spline_sample.specs.SampleLaws.{sample_rows, sample_words, sample_at}
use Rattle.spline_sample.proofs.Made.{sample_put}
use Rattle.spline_sample.proofs.Leaves.{words-wide}
use Rattle.spline_sample.proofs.put_sample.Goals as goal

pub overflow_add-place : goal.overflow_add-place
overflow_add-place c =
    let d = c in
    let h = d.requires.0 in
    omega (arith, sample_rows h d.args.t d.requires.1, h.behind)

pub overflow_mul-place : goal.overflow_mul-place
overflow_mul-place c =
    let d = c in
    omega (arith, sample_words d.requires.0 d.args.t d.requires.1)

pub sample_words-words-requires : goal.sample_words-words-requires
sample_words-words-requires c =
    let pre = c.requires in
    sample_at pre.0 _ pre.1

pub overflow_add-place-2 : goal.overflow_add-place-2
overflow_add-place-2 c =
    let d = c in
    omega (arith, sample_rows d.requires.0 d.args.t d.requires.1)

pub overflow_mul-place-2 : goal.overflow_mul-place-2
overflow_mul-place-2 c =
    let d = c in
    omega (arith, sample_rows d.requires.0 d.args.t d.requires.1)

pub put_made-requires : goal.put_made-requires
put_made-requires c =
    let d = c in
    let f = d in
    let h = f.requires.0 in (
      record {
        long = h.long;
        axes = h.sound.axes;
        point = h.sound.mask;
        wide = rw d.sample_words-words.ensures (words-wide _);
      },
      sample_rows h f.args.t f.requires.1,
    )

pub returns : goal.returns
returns c =
    let d = c in
    let f = d in
    let m = c in
    let sound = f.requires.0.sound in
    let made = c.put_made.ensures in
    sample_put _ _ _ _ _ _ _ _ _ sound m.motion_of.ensures m.is_marked.ensures _ _ d.sample_words-words.ensures made
