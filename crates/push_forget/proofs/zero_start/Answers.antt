-- `push_forget::zero_start`: the answer to a goal. Assumes nothing.
use Rattle.std.proofs.Common.{◌+◌, arith}
use Rattle.layout.specs.Layout.{axis_codes, w_start}
use Rattle.push_forget.proofs.Zeros.{zeroed}
use Rattle.push_forget.proofs.zero_start.Goals as goal

pub returns : goal.returns
returns c = zeroed c.args.state.now w_start (axis_codes + 1) (omega arith) (c.fill.ensures.after (λ y e. e))
