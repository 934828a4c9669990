-- LAWS. From what is decided and told to the deed of a turn, one step behind another. Assumes nothing.
use Rattle.std.specs.Prelude.{ℕ, ◌*◌, ◌/◌, ◌≤◌, ◌≡◌, refl, Bool, true, false, cond, List, [], ◌++◌, eqb, length, take}
use Rattle.std.proofs.Common.{sym, ap, ◌∙◌, subst, append_assoc, arith, length-append}
use Rattle.std.proofs.lemmas.Bool.{false≢true}
use Rattle.layout.specs.Layout.{row_words}
use Rattle.floats.specs.Truth.{by_bit}
use Rattle.call_reply.specs.declared.Reply.{Reply}
use Rattle.call_reply.specs.Replies.{plain, After, AfterState, PushIs, untouched}
use Rattle.call_answer.specs.Push.{push_spec}
use Rattle.call_answer.specs.Close.{close_spec}
use Rattle.tally_call.specs.Calls.{k_close}
use Rattle.csv_out.specs.Said.{Adds}
use Rattle.csv_spec.specs.FitLaws.{push-fits, close-fits}
use Rattle.night_course.specs.declared.Ticket.{Ticket}
use Rattle.night_course.specs.declared.TryRun.{TryRun}
use Rattle.night_course.specs.Course.{is_open, if_told}
use Rattle.night_answer.specs.Answer.{heard, answered, done_by, stands_on}
use Rattle.night_answer.specs.Answers.{Sound}
use Rattle.night_note.specs.Note.{told_by}
use Rattle.night_spec.specs.Try.{night_rows, Stand, Step, and_then, called, on_close}
use Rattle.night_turns.specs.Steps.{Slices, slices, standing, Stepped, Room}
use Rattle.night_turns.specs.StepLaws.{step_as, answer-room}
use Rattle.night_due.specs.declared.Call.{Call}
use Rattle.night_due.specs.declared.Call.TheVariants as Call
use Rattle.night_due.specs.Due.{close_due, again_due, is_due}
use Rattle.night_deed.specs.declared.Asked.{Asked}
use Rattle.night_deed.specs.Deeds.{call_step, calls_by, after_call, Asking, AskedBy, DueRoom, HeardRoom, Replied, Heard}

-- ---- one step behind another
adds_then : {t u o o' o'' : List ℕ} {n k r : ℕ} → Adds t o n o' k → Adds u o' k o'' r → Adds (t ++ u) o n o'' r
adds_then {t} {u} {o} {o'} {o''} {n} {k} {r} a b =
    record {
      count = omega (arith, a.count, b.count, length-append t u);
      bytes = b.bytes ∙ ap (λ (l : List ℕ). l ++ u) a.bytes ∙ append_assoc (take n o) t u;
      same = b.same ∙ a.same;
    }

-- a step f of what stands behind a step d
then-step : (f : Ticket → Stand → Step) {d : Step} {run mid r : TryRun} {m m' m'' : Slices} → Stepped d run m mid m'
    → Stepped (f mid.ticket (standing mid m')) mid m' r m'' → Stepped (and_then d (f run.ticket d.stand)) run m r m''
then-step f {d} {run} {mid} {r} {m} {m'} {m''} a b =
    let e : f run.ticket d.stand ≡ f mid.ticket (standing mid m') =
    ap (λ (x : Ticket). f x d.stand) (sym a.ticket) ∙ ap (f mid.ticket) (sym a.stand) in
    let c : Stepped (f run.ticket d.stand) mid m' r m'' = step_as e b in
    record { stand = c.stand; ticket = c.ticket ∙ a.ticket; out = adds_then a.out c.out; listed = adds_then a.listed c.listed; sound = c.sound }

-- what was asked for is done by its call and the call behind that
pub deed-done : {deed : Slices → Step} {run once r : TryRun} {a : Asked} {call : Call} {reply reply' : Reply}
    {row w w' w'' w''' o o' o'' o''' l l' l'' st st' st'' store store' store'' rows rows' rows'' : List ℕ}
    → Sound run → AskedBy deed run row w o a w' o'
    → Replied a.call st store rows row reply st' store' rows' → Heard a.call a.run row reply rows' w' o' l once w'' o'' l'
    → call ≡ again_due a.call once.course.stands
    → Replied call st' store' rows' row reply' st'' store'' rows'' → Heard call once row reply' rows'' w'' o'' l' r w''' o''' l''
    → let m = slices st store rows w o l in Stepped (deed m) run m r (slices st'' store'' rows'' w''' o''' l'')
deed-done {deed} {run} {once} {r} {a} {row = row} {w} {w'} {w''} {w'''} {o} {o'} {o''} {o'''} {l} {l'} {l''} {st} {st'} {st''} {store} {store'} {store''}
    {rows} {rows'} {rows''} s asked is told e is' told' =
    step_as asking.rest (then-step (λ (t : Ticket) (x : Stand). calls_by a.call t x row) asking.step both)
  where
    m : Slices
    m = slices st store rows w o l

    m' : Slices
    m' = slices st store rows w' o' l

    m'' : Slices
    m'' = slices st' store' rows' w'' o'' l'

    m''' : Slices
    m''' = slices st'' store'' rows'' w''' o''' l''

    asking : Asking (deed m) run m a.call row a.run m'
    asking = asked.asks st store rows l s

    behind : Ticket → Stand → Step
    behind t x = call_step (again_due a.call x.course.stands) t x row

    second : Stepped (behind once.ticket (standing once m'')) once m'' r m'''
    second =
        subst (λ (x : Call). Stepped (call_step x once.ticket (standing once m'') row) once m'' r m''') e (told'.step st' store' rows' st'' store'' is')

    both : Stepped (calls_by a.call a.run.ticket (standing a.run m') row) a.run m' r m'''
    both = then-step behind (told.step st store rows st' store' is) second

-- ---- the room for a call
pub first-room : {deed : Slices → Step} {run : TryRun} {a : Asked} {row w w' o o' : List ℕ} {rows k l : ℕ} → Room run rows k l
    → AskedBy deed run row w o a w' o' → DueRoom a.call a.run rows k l
first-room {run = run} {a = a} {rows = rows} {k = k} {l = l} w asked = record { sound = s; room = room }
  where
    s : Sound a.run
    s = (asked.asks [] [] [] [] w.sound).step.sound

    room : is_due a.call ≡ true → Room a.run rows k l
    room e =
        let same = asked.waits e in
        record { places = w.places; outs = omega (arith, w.outs, same.0); lists = omega (arith, w.lists, same.1); sound = s }

pub heard-room : {call : Call} {run : TryRun} {reply : Reply} {n rows k l : ℕ} → DueRoom call run rows k l
    → (is_due call ≡ true → reply.code ≡ 0 → reply.count ≤ night_rows) → n ≡ row_words → HeardRoom call run n reply rows k l
heard-room {call} w few n = record { row = n; sound = w.sound; fits = λ (e : is_due call ≡ true). answer-room (w.room e) (few e) }

-- a close that leaves the try open added nothing
closed-adds : (t : Ticket) (s : Stand) → let d = on_close t s in is_open d.stand.course.stands ≡ true → (d.out ≡ []) × (d.listed ≡ [])
unfolding on_close called answered if_told done_by stands_on
closed-adds t s =
    by_bit (eqb told.reply.code 0)
    (λ a. by_bit (eqb said.code 0) (λ b. rw (a, b) (λ e. absurd (false≢true e))) (λ b. rw (a, b) (λ e. (refl, refl))))
    (λ a. rw a (λ e. absurd (false≢true e)))
  where
    after : After
    after = close_spec s.state s.store s.rows

    said : Reply
    said = heard after.reply after.rows

    told : AfterState
    told = told_by t s.tally k_close said after.rows

due_open : (x : Bool) → is_due (cond x Call.Close Call.Nothing) ≡ true → x ≡ true
due_open true e = refl
due_open false e = absurd (false≢true e)

stays-room : (call : Call) (row : List ℕ) {run r : TryRun} {m m' : Slices} {rows k l : ℕ} → DueRoom call run rows k l
    → Stepped (call_step call run.ticket (standing run m) row) run m r m' → DueRoom (again_due call r.course.stands) r rows k l
unfolding call_step
stays-room Call.Nothing row w c = record { sound = c.sound; room = λ e. absurd (false≢true e) }
stays-room Call.Push row w c = record { sound = c.sound; room = λ e. absurd (false≢true e) }
stays-room Call.Close row {run} {r} {m} {m'} {rows} {k} {l} w c = record { sound = c.sound; room = room }
  where
    room : is_due (close_due r.course.stands) ≡ true → Room r rows k l
    room e =
        let stays = due_open (is_open r.course.stands) e in
        let none = closed-adds run.ticket (standing run m) (ap (λ (x : Stand). is_open x.course.stands) (sym c.stand) ∙ stays) in
        let before = w.room refl in
        record {
          places = before.places;
          outs = omega (arith, before.outs, c.out.count, ap length none.0);
          lists = omega (arith, before.lists, c.listed.count, ap length none.1);
          sound = c.sound;
        }

pub again-room : (row : List ℕ) {call again : Call} {run r : TryRun} {m m' : Slices} {rows k l : ℕ} → DueRoom call run rows k l
    → Stepped (call_step call run.ticket (standing run m) row) run m r m' → again ≡ again_due call r.course.stands → DueRoom again r rows k l
again-room row {call} {r = r} {rows = rows} {k = k} {l = l} w c e = subst (λ (x : Call). DueRoom x r rows k l) (sym e) (stays-room call row w c)

-- ---- the call that is due was made
few-rows : {p reply : Reply} {rows : ℕ} → rows ≡ night_rows * row_words → (p.code ≡ 0 → p.count ≤ rows / row_words) → reply ≡ p → reply.code ≡ 0
    → reply.count ≤ night_rows
few-rows {p} {reply} {rows} n f e z =
    let q : rows / row_words ≡ night_rows = ap (λ (x : ℕ). x / row_words) n in
    let h : p.count ≤ rows / row_words = f (ap (λ (x : Reply). x.code) (sym e) ∙ z) in
    let k : reply.count ≡ p.count = ap (λ (x : Reply). x.count) e in
    omega arith

replied_as : {call was : Call} {st store rows row st' store' rows' : List ℕ} {reply : Reply} → call ≡ was
    → Replied was st store rows row reply st' store' rows' → Replied call st store rows row reply st' store' rows'
replied_as {st = st} {store} {rows} {row} {st'} {store'} {rows'} {reply} e w =
    subst (λ (x : Call). Replied x st store rows row reply st' store' rows') (sym e) w

pub pushed : {call : Call} {st store rows row st' store' rows' : List ℕ} {reply : Reply} → call ≡ Call.Push
    → PushIs (push_spec st store rows row) reply st' store' rows' → length rows ≡ night_rows * row_words
    → Replied call st store rows row reply st' store' rows'
unfolding after_call
pushed {st = st} {store} {rows} {row} e w n =
    replied_as e (record { is = w; few = λ d. few-rows n (push-fits st store rows row) w.reply })

pub closed : {call : Call} {st store rows row st' store' rows' : List ℕ} {reply : Reply} → call ≡ Call.Close
    → PushIs (close_spec st store rows) reply st' store' rows' → length rows ≡ night_rows * row_words
    → Replied call st store rows row reply st' store' rows'
unfolding after_call
closed {st = st} {store} {rows} e w n = replied_as e (record { is = w; few = λ d. few-rows n (close-fits st store rows) w.reply })

pub left_alone : {call : Call} {st store rows row : List ℕ} {reply : Reply} → call ≡ Call.Nothing → reply ≡ plain 0
    → Replied call st store rows row reply st store rows
unfolding after_call untouched
left_alone e r =
    replied_as e (record { is = record { reply = r; state = refl; store = refl; rows = refl }; few = λ d. absurd (false≢true d) })
