-- `curve_owner::remember`: the answers to its goals. Assumes nothing.
use mathlib.Core.Path.{sym}
use native.Mathlib.Omega.{arith}
use lib.Seq.{set_out}
use Rattle.curve_owner.proofs.remember.Goals as goal

pub returns-else-c-lefts : goal.returns-else-c-lefts
returns-else-c-lefts c = sym (set_out c.args.lefts.now c.args.c c.args.left (omega (arith, c.if-c-lefts.false)))
