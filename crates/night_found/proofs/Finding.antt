-- From what a flush and a turn promise to what comes next. Assumes nothing.
use Prim.Native.Nat.{ℕ, ◌≤◌}
use mathlib.Core.Logic.{inl, inr}
use mathlib.Core.Path.{◌≡◌, refl, ap}
use mathlib.Core.List.{List}
use native.Mathlib.Omega.{arith}
use Rattle.text_lines.specs.declared.Turn.{Turn}
use Rattle.text_lines.specs.Turns.{Turned}
use Rattle.csv_status.specs.Status.{goes_on, ended}
use Rattle.night_course.specs.declared.TryRun.{TryRun}
use Rattle.night_flush.specs.declared.Left.{Left}
use Rattle.night_flush.specs.declared.Reading.{Reading}
use Rattle.night_flush.specs.Flush.{kept, empty_run}
use Rattle.night_found.specs.Next.{Emptied, Ready}

pub flushed_empties : {run : TryRun} {r : Left} → (r.run ≡ empty_run run) × (r.over ≡ ended → ⊥) → Emptied run r
flushed_empties {run} {r} f =
    let o : r.run.out ≡ 0 = ap (λ (x : TryRun). x.out) f.0 in
    let l : r.run.listed ≡ 0 = ap (λ (x : TryRun). x.listed) f.0 in
    record { outs = omega arith; lists = omega arith; all = inr f.0; going = f.1 }

pub waits-on : {run : TryRun} → run.out ≤ kept → run.listed ≤ kept → Emptied run (record { run = run; over = goes_on })
waits-on o l = record { outs = o; lists = l; all = inl refl; going = λ (e : goes_on ≡ ended). absurd (omega arith) }

pub stopped : {s : Reading} {left : Left} {b : List ℕ} → Emptied s.run left → (t : Turn) → (left.over ≡ goes_on → ⊥)
    → Ready s b (record { turn = t; run = left.run; over = left.over }) b
stopped e t h = record { emptied = e; turned = λ z. absurd (h z); unread = λ z. refl }

pub went_on : {s : Reading} {left : Left} {b b' : List ℕ} {t : Turn} → Emptied s.run left → left.over ≡ goes_on
    → Turned b s.at s.end b' t → Ready s b (record { turn = t; run = left.run; over = left.over }) b'
went_on e h w = record { emptied = e; turned = λ z. w; unread = λ z. absurd (z h) }
