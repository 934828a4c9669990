-- LAWS. From what making room and a turn of the reading promise to what comes next. Assumes nothing.
use Prim.Native.Nat.{ℕ}
use mathlib.Core.Path.{◌≡◌, refl}
use mathlib.Core.List.{List}
use Rattle.text_lines.specs.declared.Turn.{Turn}
use Rattle.text_lines.specs.Turns.{Turned}
use Rattle.csv_status.specs.Status.{goes_on}
use Rattle.csv_io.specs.declared.Left.{Left}
use Rattle.csv_io.specs.Flush.{Emptied}
use Rattle.csv_reading.specs.declared.Reading.{Reading}
use Rattle.csv_next.specs.Next.{Ready}

module _ {s : Reading} {b o e : List ℕ} {left : Left} (w : Emptied s.run o e left) where
  -- what waited could not be written
  pub stopped : (t : Turn) → (left.over ≡ goes_on → ⊥) → Ready s b o e (record { turn = t; run = left.run; over = left.over }) b
  stopped t h =
      record {
        rows = left.rows;
        notices = left.notices;
        emptied = w;
        turned = λ (z : left.over ≡ goes_on). absurd (h z);
        unread = λ (z : left.over ≡ goes_on → ⊥). refl;
      }

  -- the reading went on
  pub went_on : {b' : List ℕ} {t : Turn} → left.over ≡ goes_on → Turned b s.at s.end b' t
      → Ready s b o e (record { turn = t; run = left.run; over = left.over }) b'
  went_on h t =
      record {
        rows = left.rows;
        notices = left.notices;
        emptied = w;
        turned = λ (z : left.over ≡ goes_on). t;
        unread = λ (z : left.over ≡ goes_on → ⊥). absurd (z h);
      }
