-- `call_push::push_block`: the answers to its goals. Assumes nothing.
use mathlib.Core.Path.{sym, ◌∙◌}
use native.Mathlib.Omega.{arith}
use borrow.Author.Tests.{leb-true, leb-false}
use Rattle.push_rows.specs.Few.{few-own}
use Rattle.call_push.proofs.Calls.{passes, passes-ready, few-answer, settles, done-answer}
use Rattle.call_push.proofs.push_block.Goals as goal

pub plan_own-plan-requires : goal.plan_own-plan-requires
plan_own-plan-requires c =
    passes-ready (passes _ _ _ c.requires.check) c.requires.told

pub put_before-first-requires : goal.put_before-first-requires
put_before-first-requires c =
    let own = few-own c.args.state.now c.args.row.now in
    ((passes _ _ _ c.requires.check).saved, omega (arith, c.plan_own-plan.ensures.count, own))

pub overflow_add-needed : goal.overflow_add-needed
overflow_add-needed c =
    let own = few-own c.args.state.now c.args.row.now in
    omega (arith, c.plan_own-plan.ensures.count, own, c.put_before-first.ensures.few)

pub returns-then-not-has_room : goal.returns-then-not-has_room
returns-then-not-has_room c =
    let short = leb-false _ _ (sym c.has_room.ensures ∙ c.if-not-has_room.true) in
    let put = c.put_before-first.ensures in
    let same = c.put_before-first.auto.rows in
    few-answer _ _ _ _ _ c.requires _ c.plan_own-plan.ensures _ _ put same short c.too_few.ensures

pub settle-requires : goal.settle-requires
settle-requires c =
    let room = leb-true _ _ (sym c.has_room.ensures ∙ c.if-not-has_room.false) in
    settles _ _ _ _ _ c.requires _ c.plan_own-plan.ensures _ _ c.put_before-first.ensures
    c.put_before-first.auto.rows room

pub returns : goal.returns
returns c =
    let room = leb-true _ _ (sym c.has_room.ensures ∙ c.if-not-has_room.false) in
    let put = c.put_before-first.ensures in
    let same = c.put_before-first.auto.rows in
    done-answer _ _ _ _ _ c.requires _ c.plan_own-plan.ensures _ _ put same room c.settle.ensures
