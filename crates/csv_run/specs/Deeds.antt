-- CONTRACTS. What is done with what a turn found. Assumes nothing.
use Rattle.std.specs.Prelude.{ℕ, ◌-◌, ◌≤◌, ◌<◌, ◌≡◌, List}
use Rattle.text_lines.specs.declared.Found.{Found}
use Rattle.text_lines.specs.declared.Found.TheVariants as Found
use Rattle.text_lines.specs.declared.Turn.{Turn}
use Rattle.text_cut.specs.Cut.{between}
use Rattle.csv_out.specs.declared.Run.{Run}
use Rattle.csv_status.specs.Status.{goes_on, ended}
use Rattle.csv_spec.specs.Line.{csv_line, csv_end}
use Rattle.csv_spec.specs.Csv.{still}
use Rattle.csv_run.specs.Steps.{Slices, standing, Stepped}
use Rattle.csv_reading.specs.declared.Reading.{Reading}
use Rattle.csv_reading.specs.Reading.{going_of}

-- a turn's places lie in a buffer of n bytes
pub record FoundIn (t : Turn) (n : ℕ) : Type 0 where
  pub start : t.from ≤ t.at
  pub window : t.at ≤ t.end
  pub inside : t.end ≤ n

-- ---- what was found is done
abbrev pub Deed : Found → Turn → Run → List ℕ → Slices → Reading → Slices → Type 0
Deed Found.Line t run b m r m' =
    (r.over ≡ going_of r.run.refused) × Stepped (csv_line (standing run m) (between b t.from t.at)) run m r.run m'
Deed Found.More t run b m r m' = (r.over ≡ goes_on) × Stepped (still (standing run m)) run m r.run m'
Deed Found.Ended t run b m r m' = (r.over ≡ ended) × Stepped (csv_end (standing run m) (t.end - t.at)) run m r.run m'
Deed Found.Full t run b m r m' = (r.over ≡ ended) × Stepped (csv_end (standing run m) (t.end - t.at)) run m r.run m'
Deed Found.Failed t run b m r m' = (ended < r.over) × Stepped (still (standing run m)) run m r.run m'

pub record Done (f : Found) (t : Turn) (run : Run) (b : List ℕ) (m : Slices) (r : Reading) (m' : Slices) : Type 0 where
  pub from : r.at ≡ t.at
  pub upto : r.end ≡ t.end
  pub deed : Deed f t run b m r m'

abbrev pub LineDone : Turn → Run → List ℕ → Slices → Reading → Slices → Type 0
LineDone t run b m r m' = Done Found.Line t run b m r m'

-- for the end of the input, and for a buffer that no line fits in
abbrev pub EndDone : Turn → Run → Slices → Reading → Slices → Type 0
EndDone t run m r m' = (b : List ℕ) → Done Found.Ended t run b m r m'
