-- LAWS. What is handed over and what still waits are what waited. Assumes nothing.
use Rattle.std.specs.Prelude.{ℕ, ◌+◌, ◌≡◌, List, ◌++◌, take}
use Rattle.std.proofs.Common.{ap, ◌∙◌, append-nil, arith}
use Rattle.csv_out.specs.declared.Run.{Run}
use Rattle.csv_io.specs.declared.Left.{Left}
use Rattle.csv_io.specs.Flush.{Flushed, Emptied}

all-gone : (l : List ℕ) (n m w : ℕ) → n ≡ w → m ≡ 0 → take n l ++ take m l ≡ take w l
all-gone l n m w e z = ap (λ (k : ℕ). take k l ++ take m l) e ∙ ap (λ (k : ℕ). take w l ++ take k l) z ∙ append-nil (take w l)

pub flushed_empties : (run : Run) (o e : List ℕ) (r : Left) → Flushed run r → Emptied run o e r
flushed_empties run o e r f =
    record {
      outs = omega (arith, f.no_rows);
      errs = omega (arith, f.no_notices);
      rows = all-gone o r.rows r.run.out run.out f.all_rows f.no_rows;
      notices = all-gone e r.notices r.run.err run.err f.all_notices f.no_notices;
      rows_first = λ (h : r.notices ≡ 0 → ⊥). f.no_rows;
      lines = f.lines;
      going = f.going;
    }
