-- LAWS. What was found is done, from what a line and the end promise. Assumes nothing.
use Rattle.std.specs.Prelude.{ℕ, ◌-◌, ◌≡◌, refl, List}
use Rattle.std.proofs.Common.{sym, subst}
use Rattle.text_lines.specs.declared.Found.{Found}
use Rattle.text_lines.specs.declared.Found.TheVariants as Found
use Rattle.text_lines.specs.declared.Turn.{Turn}
use Rattle.csv_out.specs.declared.Run.{Run}
use Rattle.csv_out.specs.SayLaws.{adds_none}
use Rattle.csv_status.specs.Status.{ended}
use Rattle.csv_spec.specs.Line.{csv_end}
use Rattle.csv_spec.specs.Csv.{still}
use Rattle.csv_run.specs.Steps.{Slices, standing, Stepped}
use Rattle.csv_reading.specs.declared.Reading.{Reading}
use Rattle.csv_reading.specs.Reading.{behind}
use Rattle.csv_run.specs.Deeds.{Deed, Done, EndDone}

pub done-by : {f : Found} {t : Turn} {run then : Run} {b : List ℕ} {m m' : Slices} {r : Reading} (over : ℕ) → r ≡ behind t then over
    → Deed f t run b m (behind t then over) m' → Done f t run b m r m'
done-by {f} {t} {run} {then} {b} {m} {m'} {r} over e d =
    subst (λ (x : Reading). Done f t run b m x m') (sym e) (record { from = refl; upto = refl; deed = d })

pub end-done : {t : Turn} {run then : Run} {m m' : Slices} {r : Reading} {left : ℕ} → left ≡ t.end - t.at → r ≡ behind t then ended
    → Stepped (csv_end (standing run m) left) run m then m' → EndDone t run m r m'
end-done {t} {run} {then} {m} {m'} {r} {left} e q w =
    λ (b : List ℕ). done-by _ q (refl, subst (λ (k : ℕ). Stepped (csv_end (standing run m) k) run m then m') e w)

pub nothing-done : (run : Run) (m : Slices) → Stepped (still (standing run m)) run m run m
nothing-done run m = record { stand = refl; out = adds_none m.out run.out; err = adds_none m.err run.err }

-- a buffer that no line fits in is done as the end is
pub full-done : {t : Turn} {run : Run} {b : List ℕ} {m m' : Slices} {r : Reading} → Done Found.Ended t run b m r m' → Done Found.Full t run b m r m'
full-done d = record { from = d.from; upto = d.upto; deed = d.deed }

pub done_as : {f g : Found} {t : Turn} {run : Run} {b : List ℕ} {m m' : Slices} {r : Reading} → g ≡ f → Done f t run b m r m' → Done g t run b m r m'
done_as {f} {g} {t} {run} {b} {m} {m'} {r} e d = subst (λ (x : Found). Done x t run b m r m') (sym e) d
