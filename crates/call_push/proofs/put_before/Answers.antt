-- `call_push::put_before`: the answers to its goals. Assumes nothing.
use Rattle.call_push.proofs.Calls.{put-before-some, put-before-none}
use Rattle.call_push.proofs.put_before.Goals as goal

pub returns-then-emits : goal.returns-then-emits
returns-then-emits c = put-before-some _ _ c.if-emits.true c.put_emission.ensures

pub returns-else-emits : goal.returns-else-emits
returns-else-emits c = put-before-none _ _ _ _ c.if-emits.false
