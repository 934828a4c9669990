-- LAWS. From what the parts of a turn promise to what the turn does, and turn after turn. Assumes nothing.
use Rattle.std.specs.Prelude.{ℕ, ◌*◌, ◌≤◌, ◌<◌, ◌⊎◌, ◌≡◌, refl, List, [], length}
use Rattle.std.proofs.Common.{zero-le, inl, inr, ⊎_elim, sym, ◌∙◌, subst, arith}
use mathlib.Core.Bool.{Bool}
use lib.Dec.{eqb}
use Rattle.layout.specs.Layout.{row_words}
use Rattle.text_lines.specs.declared.Found.{Found}
use Rattle.text_lines.specs.declared.Found.TheVariants as Found
use Rattle.text_lines.specs.declared.Turn.{Turn}
use Rattle.csv_out.specs.SayLaws.{adds-within}
use Rattle.csv_status.specs.Status.{goes_on}
use Rattle.night_course.specs.declared.Ticket.{Ticket}
use Rattle.night_course.specs.declared.Course.{Course}
use Rattle.night_course.specs.declared.TryRun.{TryRun}
use Rattle.night_course.specs.Course.{if_told}
use Rattle.night_refusal.specs.Refusal.{turned_down}
use Rattle.night_answer.specs.Answers.{Sound}
use Rattle.night_begin.specs.Begin.{k_start, fresh, first_course}
use Rattle.night_begin.specs.Starts.{StartTold}
use Rattle.night_found.specs.declared.Next.{Next}
use Rattle.night_flush.specs.declared.Reading.{Reading}
use Rattle.night_reading.specs.Reading.{first_reading, from_of, came_by}
use Rattle.night_flush.specs.Flush.{empty_run, kept}
use Rattle.night_found.specs.Next.{Ready}
use Rattle.night_reading.specs.Readings.{BehindIs}
use Rattle.night_spec.specs.Try.{night_rows}
use Rattle.night_turns.specs.Steps.{Slices, Room}
use Rattle.night_turns.specs.Turns.{out_room, listeds_room, Within, Light, DoneBy, TurnIs, none, then, AllTurns}

-- behind a flush the numbers are as they were
pub left-sound : {s : Reading} {n : Next} {b b' : List ℕ} → Ready s b n b' → Sound s.run → Sound n.run
left-sound {s} {n} w h = ⊎_elim (λ e. subst Sound (sym e) h) (λ e. subst Sound (sym e) empty) w.emptied.all
  where
    empty : Sound (empty_run s.run)
    empty = record { word = h.word; most = h.most }

pub left_light : {s : Reading} {n : Next} {b b' : List ℕ} → Ready s b n b' → Sound s.run → Light n.run
left_light w h = record { outs = w.emptied.outs; lists = w.emptied.lists; sound = left-sound w h }

pub light_room : {run : TryRun} {rows o l : ℕ} → Light run → rows ≡ night_rows * row_words → o ≡ out_room → l ≡ listeds_room → Room run rows o l
light_room w r p q = record { places = r; outs = omega (arith, w.outs, p); lists = omega (arith, w.lists, q); sound = w.sound }

from-within : (f : Found) (t : Turn) → t.at ≤ t.end → from_of f t ≤ t.end
from-within Found.Line t h = h
from-within Found.More t h = h
from-within Found.Ended t h = h
from-within Found.Full t h = omega arith
from-within Found.Failed t h = h

-- ---- a turn, from its parts
pub turn-did : {s : Reading} {b b' : List ℕ} {m m' : Slices} {next : Next} {then : TryRun} {r : Reading} → Ready s b next b' → next.over ≡ goes_on
    → DoneBy next.turn.found next.turn next.run b' m then m' → BehindIs s next.turn then b' r
    → length b ≡ kept → length m.out ≡ out_room → length m.listed ≡ listeds_room → TurnIs s b m r b' m'
turn-did {s} {b} {b'} {m} {m'} {next} {then} {r} w g done k n p q =
    let d = done.step in
    let turned = w.turned g in
    let lower : from_of next.turn.found next.turn ≤ next.turn.end = from-within next.turn.found next.turn turned.window in
    let o : then.out ≤ length m'.out = adds-within {n = next.run.out} (omega (arith, w.emptied.outs)) d.out in
    let l : then.listed ≤ length m'.listed = adds-within {n = next.run.listed} (omega (arith, w.emptied.lists)) d.listed in
    let same : r.run ≡ then = k.try in
    record {
      next = next;
      came = came_by s next.turn b';
      ready = w;
      deed = inl (record { going = g; long = turned.same ∙ n; bytes = refl; then = then; deed = done; reading = k });
      within =
          record {
            window = omega (arith, k.from, k.upto, lower);
            inside = omega (arith, k.upto, turned.inside);
            outs = subst (λ (x : TryRun). x.out ≤ out_room) (sym same) (omega (arith, o, d.out.same));
            lists = subst (λ (x : TryRun). x.listed ≤ listeds_room) (sym same) (omega (arith, l, d.listed.same));
            sound = subst Sound (sym same) d.sound;
          };
    }

pub turn_stopped : {s : Reading} {b b' : List ℕ} {m : Slices} {next : Next} → Ready s b next b' → (next.over ≡ goes_on → ⊥) → Within s
    → TurnIs s b m (record { at = s.at; end = s.end; run = next.run; over = next.over; sum = s.sum; length = s.length }) b' m
turn_stopped {s} {b} {b'} {m} {next} w g h =
    record {
      next = next;
      came = [];
      ready = w;
      deed = inr (record { over = g; nothing = refl; reading = refl; memory = refl });
      within =
          record {
            window = h.window;
            inside = h.inside;
            outs = omega (arith, w.emptied.outs);
            lists = omega (arith, w.emptied.lists);
            sound = left-sound w h.sound;
          };
    }

-- ---- the loop's invariant
pub record Stands (s₀ : Reading) (b₀ : List ℕ) (m₀ : Slices) (s : Reading) (turns : ℕ) (b : List ℕ) (m : Slices) : Type 0 where
  pub all : AllTurns s₀ b₀ m₀ s b m
  pub going : 0 < turns → s.over ≡ goes_on

pub first-stands : (s₀ : Reading) (turns : ℕ) (b₀ : List ℕ) (m₀ : Slices) → Within s₀ × (s₀.over ≡ goes_on) → Stands s₀ b₀ m₀ s₀ turns b₀ m₀
first-stands s₀ turns b₀ m₀ w = record { all = record { got = []; outs = []; lists = []; turns = none; within = w.0 }; going = λ h. w.1 }

pub stands_on_lem : {s₀ s r : Reading} {b₀ b b' : List ℕ} {m₀ m m' : Slices} {turns left : ℕ} → Stands s₀ b₀ m₀ s turns b m → 0 < turns
    → TurnIs s b m r b' m' → (r.over ≡ goes_on) ⊎ (left ≡ 0) → Stands s₀ b₀ m₀ r left b' m'
stands_on_lem {r = r} {left = left} w h t o =
    record {
      all = record { got = _; outs = _; lists = _; turns = then w.all.turns (w.going h) t; within = t.within };
      going = λ (l : 0 < left). ⊎_elim (λ (e : r.over ≡ goes_on). e) (λ (e : left ≡ 0). absurd (omega arith)) o;
    }

-- ---- the start
first-sound : (t : Ticket) (k code : ℕ) → Sound (first_reading t (if_told k (first_course code))).run
unfolding if_told first_course turned_down
first-sound t k code = go (eqb code 0)
  where
    go : (x : Bool) → Sound (first_reading t (if_told k (mathlib.Core.Bool.cond x fresh (turned_down fresh k_start code 0)))).run
    go mathlib.Core.Bool.true = record { word = lib.Dec.lit< tt; most = zero-le }
    go mathlib.Core.Bool.false = record { word = lib.Dec.lit< tt; most = zero-le }

pub first-within : {t : Ticket} {st st' w w' : List ℕ} {tolerance : ℕ} {c : Course} {s : Reading} → StartTold t st w tolerance st' w' c
    → s ≡ first_reading t c → Within s × (s.over ≡ goes_on)
first-within {t} {st} {st'} {w} {w'} {tolerance} {c} {s} b e = subst (λ (x : Reading). Within x × (x.over ≡ goes_on)) (sym e) (within, refl)
  where
    within : Within (first_reading t c)
    within =
        record {
          window = zero-le;
          inside = zero-le;
          outs = zero-le;
          lists = zero-le;
          sound = subst (λ (x : Course). Sound (first_reading t x).run) (sym b.course) (first-sound t _ _);
        }
