-- `call_close::close`: the answers to its goals. Assumes nothing.
use Rattle.std.proofs.Common.{refl, sym, ◌∙◌, ap, arith}
use Rattle.refusal.specs.CodeLaws.{some-code}
use Rattle.call_reply.specs.Replies.{plain, untouched}
use Rattle.call_reply.specs.ReplyLaws.{answers}
use Rattle.call_answer.specs.CloseLaws.{close-turned-is}
use Rattle.call_close.proofs.close.Goals as goal

pub close_checked-requires : goal.close_checked-requires
close_checked-requires c = sym c.in-Ok.ensures

pub returns-in-Err : goal.returns-in-Err
unfolding untouched
returns-in-Err c =
    let is = c.in-Err.ensures in
    let some = some-code c.in-Err.refusal in
    answers (close-turned-is _ _ _ (λ e. absurd (omega (arith, is, e)))) (c.into.ensures ∙ ap plain is) refl refl refl
