-- `night_report::put_warnings`: what holds at each turn of its loops. Assumes nothing.
use Rattle.std.proofs.Common.{◌+◌, ◌*◌, ◌≤◌, ◌≡◌, length}
use Rattle.night_report.proofs.put_warnings.Given as goal

abbrev pub invariant-loop-w : goal.invariant-loop-w
invariant-loop-w l = (length l.numbers ≡ 28) × (l.at ≤ l.n + 11 * l.w) × (l.n + 165 ≤ length l.initial.out) × (length l.out ≡ length l.initial.out)
