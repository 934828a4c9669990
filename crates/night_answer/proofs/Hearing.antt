-- Laws of this crate's proofs: what the code does to a try is what the definitions say of it. Assumes nothing.
use Rattle.std.specs.Prelude.{Option, Some, None}
use Prim.Native.Nat.{ℕ, ◌+◌, ◌≤◌, ◌<◌}
use mathlib.Core.Path.{◌≡◌, refl, sym, ap, ap₂, ◌∙◌, subst}
use mathlib.Core.Bool.{Bool, true, false, cond}
use mathlib.Core.List.{List, []}
use native.Mathlib.Omega.{arith}
use lib.Dec.{ltb}
use lib.ListN.{length, take}
use borrow.Author.Tests.{eq-eqb, ne_eqb, lt-ltb, le-ltb}
use Rattle.floats.specs.Truth.{cond-t, cond-f}
use Rattle.call_reply.specs.declared.Reply.{Reply}
use Rattle.call_reply.specs.Replies.{plain}
use Rattle.tally_call.specs.Calls.{k_close}
use Rattle.csv_write.specs.Writer.{rows_text, rows_writable, Tried}
use Rattle.csv_write.specs.Trying.{tried-good, tried_bad}
use Rattle.csv_count.specs.Count.{bad_text, last_line}
use Rattle.csv_out.specs.Said.{Adds}
use Rattle.csv_out.specs.SayLaws.{adds_none, adds-text, adds-wrote, adds-kept}
use Rattle.csv_answer.specs.AnswerLaws.{rows_short}
use Rattle.night_listed.specs.declared.Lines.{Lines}
use Rattle.night_listed.specs.Listed.{listed_text}
use Rattle.night_naming.specs.Pieces.{motion_words}
use Rattle.night_listed.specs.Lines.{ListFits, ListIs}
use Rattle.night_course.specs.declared.Ticket.{Ticket}
use Rattle.night_course.specs.declared.Course.{Course}
use Rattle.night_course.specs.declared.TryRun.{TryRun}
use Rattle.night_course.specs.Course.{closed, with_course}
use Rattle.night_refusal.specs.Refusal.{turned_down}
use Rattle.night_answer.specs.declared.Heard.{Heard}
use Rattle.night_answer.specs.Answer.{Answered, heard, counted, stands_on, done_by, done, answered}
use Rattle.night_answer.specs.Answers.{turned_away, Sound, AnswerFits, Answers}

-- ---- a call that is done
pub ends-closed : (kind stands : ℕ) → kind ≡ k_close → closed ≡ stands_on kind stands
unfolding stands_on
ends-closed kind stands e = rw (eq-eqb kind k_close e)

pub goes_on_lem : (kind stands : ℕ) → (kind ≡ k_close → ⊥) → stands ≡ stands_on kind stands
unfolding stands_on
goes_on_lem kind stands e = rw (ne_eqb kind k_close e)

-- ---- blocks that are counted
pub counted-few : (n : ℕ) → n < last_line → n ≡ counted n
unfolding counted
counted-few n h = sym (cond-t n last_line (lt-ltb n last_line h))

pub counted-many : (n : ℕ) → last_line ≤ n → last_line ≡ counted n
unfolding counted
counted-many n h = sym (cond-f n last_line (le-ltb n last_line h))

counted-low : (n : ℕ) → counted n ≤ last_line
unfolding counted
counted-low n = go (ltb n last_line) refl
  where
    go : (b : Bool) → ltb n last_line ≡ b → cond b n last_line ≤ last_line
    go true e = omega (arith, borrow.Author.Tests.ltb-true n last_line e)
    go false e = omega arith

abbrev went : Course → ℕ → ℕ → ℕ → Course
went c motion curved stands =
    record {
      physical = c.physical;
      source = c.source;
      motion = motion;
      curved = curved;
      refusal = c.refusal;
      line = c.line;
      stands = stands;
    }

pub done-is : {n s : ℕ} (c : Course) (kind motion named : ℕ) → n ≡ counted (c.curved + named) → s ≡ stands_on kind c.stands
    → went c motion n s ≡ done_by c kind motion named
unfolding done_by
done-is c kind motion named e f = ap₂ (went c motion) e f

-- ---- a call that was refused
abbrev heard_as : Reply → TryRun → Heard
heard_as p r = record { run = r; reply = p }

pub away-is : {d : Course} {r : TryRun} (run : TryRun) (kind : ℕ) (p : Reply) → d ≡ turned_down run.course kind p.code run.course.source
    → r ≡ with_course run d → heard_as p r ≡ turned_away run kind p
away-is run kind p e q = ap (heard_as p) (q ∙ ap (with_course run) e)

-- ---- what is heard
module _ (p : Reply) (rows : List ℕ) where
  heard-refused : (p.code ≡ 0 → ⊥) → heard p rows ≡ p
  unfolding heard
  heard-refused e = rw (ne_eqb p.code 0 e)

  heard_bad : p.code ≡ 0 → rows_writable rows p.count ≡ false → heard p rows ≡ plain bad_text
  unfolding heard
  heard_bad e f = rw (eq-eqb p.code 0 e, f)

  heard-good : p.code ≡ 0 → rows_writable rows p.count ≡ true → heard p rows ≡ p
  unfolding heard
  heard-good e f = rw (eq-eqb p.code 0 e, f)

module _ (t : Ticket) (c : Course) (kind : ℕ) (q : Reply) (rows : List ℕ) where
  answered-down : (q.code ≡ 0 → ⊥) → answered t c kind q rows ≡ record { course = turned_down c kind q.code c.source; out = []; listed = [] }
  unfolding answered
  answered-down e = rw (ne_eqb q.code 0 e)

  answered-done : q.code ≡ 0
      → answered t c kind q rows ≡ record {
        course = done c kind q rows;
        out = rows_text rows q.count;
        listed = listed_text t.job t.number c.motion rows q.count q.warning;
      }
  unfolding answered
  answered-done e = rw (eq-eqb q.code 0 e)

-- ---- a call that was heard, by cases
module _ (kind : ℕ) (p : Reply) (rows : List ℕ) (run : TryRun) where
  -- where it comes to a refusal by q
  away : {o o' : List ℕ} {h : Heard} (q : Reply) (l : List ℕ) → heard p rows ≡ q → (q.code ≡ 0 → ⊥) → h ≡ turned_away run kind q → Sound run
      → take run.out o' ≡ take run.out o → length o' ≡ length o → Answers kind p rows run o l h o' l
  unfolding turned_down
  away {o} {o'} {h} q l e d r f k s =
      let a = ap (λ (z : Reply). answered run.ticket run.course kind z rows) e ∙ answered-down run.ticket run.course kind q rows d in
      subst (λ (z : Heard). Answers kind p rows run o l z o' l) (sym r)
      (record {
        reply = sym e;
        ticket = refl;
        course = sym (ap (λ (z : Answered). z.course) a);
        out = subst (λ (z : Answered). Adds z.out o run.out o' run.out) (sym a) (adds-kept o o' run.out k s);
        listed = subst (λ (z : Answered). Adds z.listed l run.listed l run.listed) (sym a) (adds_none l run.listed);
        sound = record { word = f.word; most = f.most };
      })

  pub away-refused : {o : List ℕ} {h : Heard} (l : List ℕ) → (p.code ≡ 0 → ⊥) → h ≡ turned_away run kind p → Sound run → Answers kind p rows run o l h o l
  away-refused l d r f = away p l (heard-refused p rows d) d r f refl refl

  pub away_bad : {o o' : List ℕ} {h : Heard} {x : Option ℕ} {q : Reply} (l : List ℕ) → p.code ≡ 0
      → Tried (rows_writable rows p.count) (rows_text rows p.count) o run.out o' x
      → x ≡ None → q ≡ plain bad_text → h ≡ turned_away run kind q → Sound run → Answers kind p rows run o l h o' l
  away_bad {o} {o'} {h} {x} {q} l z w e g r f =
      away (plain bad_text) l (heard_bad p rows z (tried_bad w e)) (λ (z : bad_text ≡ 0). omega arith) (r ∙ ap (turned_away run kind) g) f
      (w.kept run.out (omega arith)) w.same

  pub list_fits : {o o' : List ℕ} {x : Option ℕ} {n lent : ℕ} → p.code ≡ 0 → AnswerFits p (length rows) (length o) lent run
      → Tried (rows_writable rows p.count) (rows_text rows p.count) o run.out o' x → x ≡ Some n
      → ListFits run.course.motion rows p.count run.listed lent
  list_fits z f w e = record { lent = f.lent z; texts = (tried-good w e).0; word = f.sound.word; room = f.lists z }

  pub all_done : {o o' l l' : List ℕ} {x : Option ℕ} {n : ℕ} {named : Lines} {c : Course} → p.code ≡ 0
      → AnswerFits p (length rows) (length o) (length l) run
      → Tried (rows_writable rows p.count) (rows_text rows p.count) o run.out o' x → x ≡ Some n
      → ListIs run.ticket.job run.ticket.number run.course.motion rows p.count p.warning l run.listed l' named
      → c ≡ done_by run.course kind named.motion named.lines
      → Answers kind p rows run o l (heard_as p (record { ticket = run.ticket; course = c; out = n; listed = named.at })) o' l'
  unfolding done_by
  all_done {o} {o'} {l} {l'} {x} {n} {named} {c} z f w e i d =
      let g = tried-good w e in
      let q = heard-good p rows z g.0 in
      let a = ap (λ (z : Reply). answered run.ticket run.course kind z rows) q ∙ answered-done run.ticket run.course kind p rows z in
      let t = rows_text rows p.count in
      let short : run.out + length t ≤ length o = omega (arith, rows_short rows p.count g.0, f.outs z) in
      let room : run.listed + length (listed_text run.ticket.job run.ticket.number run.course.motion rows p.count p.warning) ≤ length l =
      omega (arith, i.text.next, i.room, f.lists z) in
      let is : c ≡ done run.course kind p rows = d ∙ ap₂ (done_by run.course kind) i.motion i.lines in
      record {
        reply = sym q;
        ticket = refl;
        course = is ∙ sym (ap (λ (z : Answered). z.course) a);
        out = subst (λ (z : Answered). Adds z.out o run.out o' n) (sym a) (adds-text t o o' run.out n short g.1 (w.text g.0));
        listed = subst (λ (z : Answered). Adds z.listed l run.listed l' named.at) (sym a) (adds-wrote room i.text);
        sound = record {
          word = subst (λ (z : Course). z.motion < motion_words) (sym d) i.word;
          most = subst (λ (z : Course). z.curved ≤ last_line) (sym d) (counted-low (run.course.curved + named.lines));
        };
      }
