-- `night_answer::answer`: the answers to its goals. Assumes nothing.
use Rattle.night_answer.proofs.Hearing.{away-refused, away_bad, list_fits, all_done}
use native.Mathlib.Omega.{arith}
use mathlib.Core.Path.{◌≡◌}
use Rattle.night_answer.proofs.answer.Goals as goal

pub returns-then-reply-ne0 : goal.returns-then-reply-ne0
returns-then-reply-ne0 c =
    let b1 = c in
    let b6 = b1 in
    away-refused _ b6.args.reply b6.args.rows.now b6.args.run _ b1.if-reply-ne0.true c.turned_away.ensures b6.requires.sound

pub write_rows-requires : goal.write_rows-requires
write_rows-requires c = let fits = c.requires in (fits.lent (omega arith), fits.outs (omega arith))

pub returns-in_default : goal.returns-in_default
returns-in_default c =
    let b1 = c in
    let b2 = b1 in
    let b6 = b2 in
    let b13 = b6 in
    let z : b13.args.reply.code ≡ 0 = omega arith in away_bad _ b13.args.reply b13.args.rows.now b13.args.run _ z b6.write_rows.ensures
    b2.in_default.is b1.plain_reply.ensures c.turned_away-in_default.ensures b13.requires.sound

pub put_listed-named-requires : goal.put_listed-named-requires
put_listed-named-requires c =
    let b4 = c in
    let b8 = b4 in
    let b15 = b8 in
    let z : b15.args.reply.code ≡ 0 = omega arith in list_fits 0 b15.args.reply b15.args.rows.now b15.args.run z b15.requires
    b8.write_rows.ensures b4.in-Some.is

pub done_by-course-requires : goal.done_by-course-requires
done_by-course-requires c =
    let b2 = c in
    let b13 = b2 in
    let b18 = b13 in
    omega (arith, b18.requires.sound.most, b2.put_listed-named.ensures.most, b18.requires.lent b13.if-reply-ne0.false, b18.well_formed.1.1.1.0.0)

pub returns : goal.returns
returns c =
    let b3 = c in
    let b8 = b3 in
    let b12 = b8 in
    let b19 = b12 in
    let z : b19.args.reply.code ≡ 0 = omega arith in all_done _ b19.args.reply b19.args.rows.now b19.args.run z b19.requires
    b12.write_rows.ensures b8.in-Some.is b3.put_listed-named.ensures c.done_by-course.ensures
