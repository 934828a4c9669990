-- `csv_fields::scan`: what holds at each turn of its loop. Assumes nothing.
use Rattle.csv_fields.specs.Scans.{Scanning}
use Rattle.csv_fields.proofs.scan.Given as goal

abbrev pub invariant-loop-i : goal.invariant-loop-i
invariant-loop-i l = Scanning l.s l.most l.start l.i l.n
