-- `call_close::close_checked`: the answers to its goals. Assumes nothing.
use Rattle.std.proofs.Common.{◌≡◌, refl, ℕ, ◌+◌, ◌/◌, ◌≤◌, ◌<◌, length, sym, ◌∙◌, ap, subst, arith}
use borrow.Author.Tests.{eq-eqb, ne_eqb, leb-true, leb-false}
use Rattle.floats.specs.Truth.{cond-t, cond-f}
use Rattle.layout.specs.Layout.{row_words}
use Rattle.call_reply.specs.Replies.{too_few, done_reply, untouched}
use Rattle.call_reply.specs.ReplyLaws.{answers}
use Rattle.saved_state.specs.StateLaws.{good}
use Rattle.call_answer.specs.Close.{close_state}
use Rattle.saved_state.specs.Checked.{saved-ok}
use Rattle.call_answer.specs.CloseLaws.{close-none-is, close-few-is, close-done-is, no_rows}
use Rattle.spline_put.specs.EmittedLaws.{room-left, room-short, put_refused, put_written}
use Rattle.call_close.proofs.close_checked.Goals as goal

pub bounds-state-61 : goal.bounds-state-61
bounds-state-61 c = omega (arith, (good _ (saved-ok _ _ c.requires)).long)

pub returns-then-state-eq0 : goal.returns-then-state-eq0
unfolding close_state
returns-then-state-eq0 c =
    answers (close-none-is _ _ _ c.requires c.if-state-eq0.true) c.plain_reply.ensures (sym (cond-t _ _ (eq-eqb _ _ c.if-state-eq0.true))) refl (no_rows _)

pub put_emission-needed-requires : goal.put_emission-needed-requires
put_emission-needed-requires c = (c.requires, omega arith)

pub returns-then-not-has_room : goal.returns-then-not-has_room
unfolding untouched
returns-then-not-has_room c =
    let put = c.put_emission-needed.ensures in
    let same = c.put_emission-needed.auto.rows in
    let z : c.put_emission-needed.result ≡ c.put_emission-needed.result + 0 = omega arith in
    let short = leb-false _ _ (sym c.has_room.ensures ∙ c.if-not-has_room.true) in
    let less = subst (λ (n : ℕ). length c.args.rows.now / row_words < n) put.count (room-short _ _ _ _ _ put same _ z short) in
    answers (close-few-is _ _ _ c.requires c.if-state-eq0.false less)
    (c.too_few.ensures ∙ ap too_few put.count) refl refl (put_refused _ _ _ _ _ put same _ z short)

pub forget-requires : goal.forget-requires
forget-requires c = (good _ (saved-ok _ _ c.requires)).long

pub returns : goal.returns
unfolding close_state
returns c =
    let put = c.put_emission-needed.ensures in
    let same = c.put_emission-needed.auto.rows in
    let z : c.put_emission-needed.result ≡ c.put_emission-needed.result + 0 = omega arith in
    let room = leb-true _ _ (sym c.has_room.ensures ∙ c.if-not-has_room.false) in
    let enough = subst (λ (n : ℕ). n ≤ length c.args.rows.now / row_words) put.count (room-left _ _ _ _ _ put same _ z room) in
    answers (close-done-is _ _ _ c.requires c.if-state-eq0.false enough)
    (c.done_reply.ensures ∙ ap (λ (n : ℕ). done_reply n 0 0 0) put.count)
    (c.forget.ensures ∙ sym (cond-f _ _ (ne_eqb _ _ c.if-state-eq0.false))) refl (put_written _ _ _ _ _ put same _ z room)
