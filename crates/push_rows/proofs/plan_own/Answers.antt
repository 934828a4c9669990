-- `push_rows::plan_own`: the answers to its goals. Assumes nothing.
use Rattle.push_rows.specs.OwnLaws.{ready-kind, own_same, own_linear, own_clockwise, own_counter, own_akima, own-basis, own-cubic, own-other, own-refused}
use Rattle.push_rows.proofs.plan_own.Goals as goal

pub returns-in-Same : goal.returns-in-Same
returns-in-Same c = own_same _ _ _ (ready-kind c.requires c.in-Same.is) c.pass_plan.ensures

pub returns-in-Linear : goal.returns-in-Linear
returns-in-Linear c = own_linear _ _ _ (ready-kind c.requires c.in-Linear.is) c.pass_plan-in-Linear.ensures

pub returns-in-Clockwise : goal.returns-in-Clockwise
returns-in-Clockwise c = own_clockwise _ _ _ (ready-kind c.requires c.in-Clockwise.is) c.plan_turn.ensures

pub returns-in-Counter : goal.returns-in-Counter
returns-in-Counter c = own_counter _ _ _ (ready-kind c.requires c.in-Counter.is) c.plan_turn-in-Counter.ensures

pub returns-in-Akima : goal.returns-in-Akima
returns-in-Akima c = own_akima _ _ _ (ready-kind c.requires c.in-Akima.is) c.none_plan.ensures

pub returns-in-Basis : goal.returns-in-Basis
returns-in-Basis c = own-basis _ _ _ (ready-kind c.requires c.in-Basis.is) c.none_plan-in-Basis.ensures

pub returns-in-Cubic : goal.returns-in-Cubic
returns-in-Cubic c = own-cubic _ _ _ (ready-kind c.requires c.in-Cubic.is) c.none_plan-in-Cubic.ensures

pub returns-in-Other : goal.returns-in-Other
returns-in-Other c = own-other _ _ _ (ready-kind c.requires c.in-Other.is) c.pass_plan-in-Other.ensures

pub returns-in-Refused : goal.returns-in-Refused
returns-in-Refused c = own-refused _ _ _ (ready-kind c.requires c.in-Refused.is) c.pass_plan-in-Refused.ensures
