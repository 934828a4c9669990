-- LAWS. From what a call and the tally promise to the step that is done. Assumes nothing.
use Rattle.std.specs.Prelude.{ℕ, ◌≤◌, ◌≡◌, refl, List, []}
use Rattle.std.proofs.Common.{sym, ap, ◌∙◌, subst, arith}
use Rattle.row_cells.specs.Row.{line_of}
use Rattle.call_reply.specs.declared.Reply.{Reply}
use Rattle.call_reply.specs.Replies.{After, PushIs}
use Rattle.call_answer.specs.Push.{push_spec}
use Rattle.call_answer.specs.Close.{close_spec}
use Rattle.tally_call.specs.Calls.{k_push, k_close}
use Rattle.csv_out.specs.Said.{Adds}
use Rattle.csv_out.specs.SayLaws.{adds_none}
use Rattle.night_course.specs.declared.Course.{Course}
use Rattle.night_course.specs.declared.TryRun.{TryRun}
use Rattle.night_course.specs.Course.{if_told, with_course}
use Rattle.night_refusal.specs.Refusal.{turned_down}
use Rattle.night_answer.specs.Answers.{Sound, AnswerFits}
use Rattle.night_note.specs.Notes.{UnreadTold}
use Rattle.night_told.specs.Tellings.{CallTold}
use Rattle.night_spec.specs.Try.{Stand, Step, night_rows, still, called, on_row, on_close, unread}
use Rattle.night_turns.specs.Steps.{Slices, slices, standing, Stepped, Room}

abbrev put : List ℕ → List ℕ → List ℕ → List ℕ → Course → Stand
put st store rows tally c = record { state = st; store = store; rows = rows; tally = tally; course = c }

pub same-stand : {a b : Stand} → a.state ≡ b.state → a.store ≡ b.store → a.rows ≡ b.rows → a.tally ≡ b.tally → a.course ≡ b.course → a ≡ b
same-stand {a} {b} p q r s t =
    ap (λ (x : List ℕ). put x a.store a.rows a.tally a.course) p
    ∙ ap (λ (x : List ℕ). put b.state x a.rows a.tally a.course) q
    ∙ ap (λ (x : List ℕ). put b.state b.store x a.tally a.course) r
    ∙ ap (λ (x : List ℕ). put b.state b.store b.rows x a.course) s
    ∙ ap (λ (x : Course). put b.state b.store b.rows b.tally x) t

pub step_as : {c d : Step} {run r : TryRun} {m m' : Slices} → c ≡ d → Stepped d run m r m' → Stepped c run m r m'
step_as {c} {d} {run} {r} {m} {m'} z w = subst (λ (x : Step). Stepped x run m r m') (sym z) w

pub nothing-done : (run : TryRun) (m : Slices) → Sound run → Stepped (still (standing run m)) run m run m
nothing-done run m s =
    record { stand = refl; ticket = refl; out = adds_none m.out run.out; listed = adds_none m.listed run.listed; sound = s }

-- ---- a call
called-step : {p : After} {reply : Reply} {run r : TryRun} {m m' : Slices} {source kind : ℕ} → PushIs p reply m'.state m'.store m'.rows
    → CallTold source kind reply m'.rows m.tally run m.out m.listed r m'.tally m'.out m'.listed
    → Stepped (called run.ticket (standing run m) source kind p) run m r m'
unfolding called
called-step {p} {reply} {run} {r} {m} {m'} {source} {kind} w d =
    let same = subst (λ (x : Reply). Told x m'.rows) w.reply d in
    let t = subst (λ (x : List ℕ). Told p.reply x) w.rows same in
    record {
      stand = same-stand w.state w.store w.rows t.tally t.course;
      ticket = t.ticket;
      out = t.out;
      listed = t.listed;
      sound = t.sound;
    }
  where
    Told : Reply → List ℕ → Type 0
    Told x u = CallTold source kind x u m.tally run m.out m.listed r m'.tally m'.out m'.listed

pub row_step : (row : List ℕ) {source : ℕ} {reply : Reply} {run r : TryRun} {m m' : Slices}
    → PushIs (push_spec m.state m.store m.rows row) reply m'.state m'.store m'.rows → source ≡ line_of row
    → CallTold source k_push reply m'.rows m.tally run m.out m.listed r m'.tally m'.out m'.listed
    → Stepped (on_row run.ticket (standing run m) row) run m r m'
unfolding on_row
row_step row {source} {reply} {run} {r} {m} {m'} w n d =
    called-step w
    (subst (λ (k : ℕ). CallTold k k_push reply m'.rows m.tally run m.out m.listed r m'.tally m'.out m'.listed) n d)

pub close-step : {reply : Reply} {run r : TryRun} {m m' : Slices}
    → PushIs (close_spec m.state m.store m.rows) reply m'.state m'.store m'.rows
    → CallTold run.course.source k_close reply m'.rows m.tally run m.out m.listed r m'.tally m'.out m'.listed
    → Stepped (on_close run.ticket (standing run m)) run m r m'
unfolding on_close
close-step w d = called-step w d

-- ---- text that cannot be read
sound-unread : (run : TryRun) (k kind code line : ℕ) → Sound run → Sound (with_course run (if_told k (turned_down run.course kind code line)))
unfolding if_told turned_down
sound-unread run k kind code line s = record { word = s.word; most = s.most }

pub unread-step : {run r : TryRun} {st store rows w w' o l : List ℕ} → UnreadTold run w r w' → Sound run
    → let m = slices st store rows w o l in Stepped (unread run.ticket (standing run m)) run m r (slices st store rows w' o l)
unfolding unread
unread-step {run} {r} {st} {store} {rows} {w} {w'} {o} {l} u s =
    record {
      stand = same-stand refl refl refl u.tally (ap (λ (x : TryRun). x.course) u.is);
      ticket = ap (λ (x : TryRun). x.ticket) u.is;
      out = subst (λ (k : ℕ). Adds [] o run.out o k) (sym (ap (λ (x : TryRun). x.out) u.is)) (adds_none o run.out);
      listed = subst (λ (k : ℕ). Adds [] l run.listed l k) (sym (ap (λ (x : TryRun). x.listed) u.is)) (adds_none l run.listed);
      sound = subst Sound (sym u.is) (sound-unread run _ _ _ _ s);
    }

-- ---- the room that a call's answer asks
pub answer-room : {run : TryRun} {reply : Reply} {rows o l : ℕ} → Room run rows o l → (reply.code ≡ 0 → reply.count ≤ night_rows)
    → AnswerFits reply rows o l run
answer-room {run} {reply} {rows} {o} {l} room few =
    record {
      lent = λ (z : reply.code ≡ 0). let h = few z in omega (arith, room.places);
      outs = λ (z : reply.code ≡ 0). let h = few z in omega (arith, room.outs);
      lists = λ (z : reply.code ≡ 0). let h = few z in omega (arith, room.lists);
      sound = room.sound;
    }
