-- LAWS. From what each part of a line promises to the step that is done. Assumes nothing.
use Rattle.std.specs.Prelude.{ℕ, ◌/◌, ◌≤◌, ◌≡◌, Bool, cond, List, eqb}
use Rattle.std.proofs.Math.Path.{refl}
use Rattle.std.proofs.Common.{sym, ap, ◌∙◌, subst, arith}
use Rattle.std.proofs.Math.Bool.{true, false}
use Rattle.std.proofs.lemmas.Bool.{false≢true}
use Rattle.layout.specs.Layout.{row_words}
use Rattle.row_cells.specs.Row.{line_of}
use Rattle.call_reply.specs.declared.Reply.{Reply}
use Rattle.call_reply.specs.Replies.{After, PushIs}
use Rattle.call_answer.specs.Push.{push_spec}
use Rattle.call_answer.specs.Close.{close_spec}
use Rattle.csv_line.specs.LineText.{end_of}
use Rattle.csv_line.specs.Notice.{notice_text}
use Rattle.csv_out.specs.declared.Run.{Run}
use Rattle.csv_count.specs.Count.{bad_text, next_line}
use Rattle.csv_out.specs.Say.{Say, lent_rows, refusal}
use Rattle.csv_out.specs.Said.{Adds, Noted, Said, NextIs}
use Rattle.csv_out.specs.SayLaws.{say_noted}
use Rattle.csv_answer.specs.Answers.{AnswerFits, Answers, said}
use Rattle.csv_status.specs.Status.{may_end}
use Rattle.csv_spec.specs.Line.{Stand, Step, spoken, called, unread, on_row, on_end, counted, csv_line, csv_close, csv_end}
use Rattle.csv_run.specs.Steps.{Slices, slices, standing, Stepped, Room}

-- ---- steps
abbrev put : List ℕ → List ℕ → List ℕ → ℕ → ℕ → Bool → Stand
put st store rows physical source refused =
    record { state = st; store = store; rows = rows; physical = physical; source = source; refused = refused }

same-stand : {a b : Stand} → a.state ≡ b.state → a.store ≡ b.store → a.rows ≡ b.rows → a.physical ≡ b.physical
    → a.source ≡ b.source → a.refused ≡ b.refused → a ≡ b
same-stand {a} {b} p q r s t u =
    ap (λ (x : List ℕ). put x a.store a.rows a.physical a.source a.refused) p
    ∙ ap (λ (x : List ℕ). put b.state x a.rows a.physical a.source a.refused) q
    ∙ ap (λ (x : List ℕ). put b.state b.store x a.physical a.source a.refused) r
    ∙ ap (λ (x : ℕ). put b.state b.store b.rows x a.source a.refused) s
    ∙ ap (λ (x : ℕ). put b.state b.store b.rows b.physical x a.refused) t
    ∙ ap (λ (x : Bool). put b.state b.store b.rows b.physical b.source x) u

pub step_as : {c d : Step} {run r : Run} {m m' : Slices} → c ≡ d → Stepped d run m r m' → Stepped c run m r m'
step_as {c} {d} {run} {r} {m} {m'} z w = subst (λ (x : Step). Stepped x run m r m') (sym z) w

-- what was said is added, and the memory of the calls stays
pub spoken-step : {p : Say} {run r : Run} {st store rows o e o' e' : List ℕ} → Said p run o e r o' e'
    → let m = slices st store rows o e in Stepped (spoken (standing run m) p) run m r (slices st store rows o' e')
spoken-step w = record { stand = same-stand refl refl refl w.physical w.source w.refused; out = w.out; err = w.err }

pub bad_step : {run r : Run} {st store rows o e e' : List ℕ} → Noted true (notice_text run.physical bad_text true) run e r e'
    → let m = slices st store rows o e in Stepped (unread (standing run m)) run m r (slices st store rows o e')
unfolding unread refusal
bad_step w = spoken-step (say_noted refl refl refl w)

-- ---- a call
same_answer : (a : ℕ) (x y : Reply) (u v : List ℕ) → x ≡ y → u ≡ v → said a x u ≡ said a y v
same_answer a x y u v j k = ap (λ (i : Reply). said a i u) j ∙ ap (λ (i : List ℕ). said a y i) k

called-step : {p : After} {reply : Reply} {run r : Run} {m m' : Slices} {source : ℕ} → PushIs p reply m'.state m'.store m'.rows
    → Answers source reply m'.rows run m.out m.err r m'.out m'.err → Stepped (called (standing run m) source p) run m r m'
called-step {p} {reply} {run} {r} {m} {m'} {source} w d =
    let z : said source reply m'.rows ≡ said source p.reply p.rows =
    same_answer source reply p.reply m'.rows p.rows w.reply w.rows in
    let refused = d.refused ∙ ap (λ (x : Say). x.refused) z in
    record {
      stand = same-stand w.state w.store w.rows d.physical d.line refused;
      out = subst (λ (x : Say). Adds x.out m.out run.out m'.out r.out) z d.out;
      err = subst (λ (x : Say). Adds x.err m.err run.err m'.err r.err) z d.err;
    }

pub row_step : (row : List ℕ) {source : ℕ} {reply : Reply} {run r : Run} {m m' : Slices}
    → PushIs (push_spec m.state m.store m.rows row) reply m'.state m'.store m'.rows → source ≡ line_of row
    → Answers source reply m'.rows run m.out m.err r m'.out m'.err → Stepped (on_row (standing run m) row) run m r m'
unfolding on_row
row_step row {source} {reply} {run} {r} {m} {m'} w n d =
    called-step w (subst (λ (k : ℕ). Answers k reply m'.rows run m.out m.err r m'.out m'.err) n d)

pub close-step : {reply : Reply} {run r : Run} {m m' : Slices}
    → PushIs (close_spec m.state m.store m.rows) reply m'.state m'.store m'.rows
    → Answers run.source reply m'.rows run m.out m.err r m'.out m'.err → Stepped (csv_close (standing run m)) run m r m'
unfolding csv_close
close-step w d = called-step w d

-- ---- the line is counted
counted_step : {d : Step} {run mid r : Run} {m m' : Slices} → Stepped d run m mid m' → NextIs mid r → Stepped (counted d) run m r m'
counted_step {d} {run} {mid} {r} {m} {m'} w n =
    let z : standing mid m' ≡ d.stand = w.stand in
    let physical = n.physical ∙ ap (λ (x : Stand). next_line x.physical) z in
    let source = n.source ∙ ap (λ (x : Stand). x.source) z in
    let refused = n.refused ∙ ap (λ (x : Stand). x.refused) z in
    record {
      stand = same-stand (ap (λ (x : Stand). x.state) z) (ap (λ (x : Stand). x.store) z) (ap (λ (x : Stand). x.rows) z) physical source refused;
      out = subst (λ (k : ℕ). Adds d.out m.out run.out m'.out k) (sym n.out) w.out;
      err = subst (λ (k : ℕ). Adds d.err m.err run.err m'.err k) (sym n.err) w.err;
    }

pub line_step : (line : List ℕ) {run mid r : Run} {m m' : Slices} → Stepped (on_end (standing run m) line (end_of line)) run m mid m'
    → NextIs mid r → Stepped (csv_line (standing run m) line) run m r m'
unfolding csv_line
line_step line w n = counted_step w n

-- ---- the end of the input, by whether it may end
module _ (s : Stand) (left : ℕ) where
  abbrev by : Bool → Bool → Bool
  by x y = cond x (cond y false true) false

  abbrev end : Bool → Bool → Step
  end x y = cond x (cond y (unread s) (csv_close s)) (unread s)

  pub end-good : may_end left s.physical ≡ true → csv_end s left ≡ csv_close s
  unfolding csv_end may_end
  end-good e = go (eqb left 0) (eqb s.physical 1) e
    where
      go : (x y : Bool) → by x y ≡ true → end x y ≡ csv_close s
      go true true e = absurd (false≢true e)
      go true false e = refl
      go false y e = absurd (false≢true e)

  pub end_bad : may_end left s.physical ≡ false → csv_end s left ≡ unread s
  unfolding csv_end may_end
  end_bad e = go (eqb left 0) (eqb s.physical 1) e
    where
      go : (x y : Bool) → by x y ≡ false → end x y ≡ unread s
      go true true e = refl
      go true false e = absurd (false≢true (sym e))
      go false y e = refl

-- ---- the room that a call's answer asks
pub answer-room : {run : Run} {reply p : Reply} {rows rows' out err : ℕ} → Room run rows out err → reply ≡ p
    → (p.code ≡ 0 → p.count ≤ rows / row_words) → rows' ≡ rows → AnswerFits reply.code reply.count rows' out err run
answer-room {run} {reply} {p} {rows} {rows'} {out} {err} room e f l =
    record {
      lent = λ (z : reply.code ≡ 0). let h = few z in omega (arith, room.places);
      outs = λ (z : reply.code ≡ 0). let h = few z in omega (arith, room.outs);
      errs = omega (arith, room.errs);
    }
  where
    few : reply.code ≡ 0 → reply.count ≤ lent_rows
    few z =
        let q : rows / row_words ≡ lent_rows = ap (λ (x : ℕ). x / row_words) room.places in
        let h : p.count ≤ rows / row_words = f (ap (λ (x : Reply). x.code) (sym e) ∙ z) in
        let k : reply.count ≡ p.count = ap (λ (x : Reply). x.count) e in
        omega arith
