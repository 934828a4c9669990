-- A line and the end of the input, by cases, up to the call that they ask for; and a call that was told. Assumes nothing.
use Rattle.std.specs.Prelude.{Option as Read, Some, None}
use Prim.Native.Nat.{ℕ, ◌+◌, ◌-◌, ◌≤◌}
use mathlib.Core.Path.{◌≡◌, refl, sym, ap, ◌∙◌, subst}
use mathlib.Core.Bool.{Bool, true, false, cond, false≢true}
use mathlib.Core.List.{List, [], ◌++◌}
use mathlib.Core.Option.{Option, none, some}
use native.Mathlib.Omega.{arith}
use lib.Dec.{eqb}
use lib.ListN.{length, take}
use borrow.Author.Tests.{eq-eqb, ne_eqb}
use Rattle.floats.specs.Truth.{by_bit, cond-t, cond-f}
use Rattle.call_reply.specs.declared.Reply.{Reply}
use Rattle.call_reply.specs.Replies.{untouched}
use Rattle.text_lines.specs.declared.Found.{Found}
use Rattle.text_lines.specs.declared.Found.TheVariants as Found
use Rattle.text_lines.specs.declared.Turn.{Turn}
use Rattle.text_cut.specs.Cut.{between}
use Rattle.csv_line.specs.LineText.{crlf, end_of}
use Rattle.csv_header.specs.Header.{header, header_out}
use Rattle.csv_words.specs.Words.{same}
use Rattle.csv_figures.specs.Out.{Wrote}
use Rattle.csv_out.specs.Say.{header_room}
use Rattle.csv_out.specs.Said.{Adds}
use Rattle.csv_out.specs.SayLaws.{header-short, adds_none, adds-wrote}
use Rattle.night_block.specs.Block.{read_block}
use Rattle.night_course.specs.declared.Ticket.{Ticket}
use Rattle.night_course.specs.declared.TryRun.{TryRun}
use Rattle.night_course.specs.Course.{goes, is_open, with_course, next_course}
use Rattle.night_answer.specs.Answers.{Sound}
use Rattle.night_note.specs.Notes.{UnreadTold}
use Rattle.night_told.specs.Tellings.{CallTold}
use Rattle.night_spec.specs.Try.{Stand, Step, still, and_then, unread, headed, on_row, on_close, on_text, on_end, on_read, counted, night_line, ends}
use Rattle.night_spec.specs.Try.{closes, shuts, night_end}
use Rattle.night_spec.proofs.TryLaws.{then-still}
use Rattle.night_turns.specs.Steps.{Slices, slices, standing, Stepped}
use Rattle.night_turns.specs.StepLaws.{same-stand, step_as, nothing-done, row_step, close-step, unread-step}
use Rattle.night_turns.specs.Turns.{deed_of}
use Rattle.night_due.specs.declared.Call.{Call}
use Rattle.night_due.specs.declared.Call.TheVariants as Call
use Rattle.night_due.specs.Due.{ends_badly, close_due, is_due, told_as, source_by}
use Rattle.night_text.specs.declared.LineIs.{LineIs}
use Rattle.night_text.specs.declared.LineIs.TheVariants as LineIs
use Rattle.night_text.specs.Text.{Says, nothing, heading, says, read_says, text_says}
use Rattle.night_deed.specs.declared.Asked.{Asked}
use Rattle.night_deed.specs.Deeds.{with_out, nothing_due, HeadTold, line_says, says_step, call_step, calls_by, after_call, counted_by, Heard}
use Rattle.night_deed.specs.Deeds.{Asking, AskedBy, TurnAsked, LineTold, EndTold, EndAsked}

-- ---- no call, or a push alone
asks_nothing : {deed : Step} {run r : TryRun} {m m' : Slices} (row : List ℕ) → Stepped deed run m r m' → Asking deed run m Call.Nothing row r m'
unfolding call_step
asks_nothing {deed} row w = record { part = deed; step = w; rest = sym (then-still deed) }

asks-push : {run : TryRun} {m : Slices} (row : List ℕ) → Sound run
    → Asking (counted (on_row run.ticket (standing run m) row)) run m Call.Push row run m
unfolding call_step
asks-push {run} {m} row s =
    record {
      part = still (standing run m);
      step = nothing-done run m s;
      rest = sym (then-still (counted (on_row run.ticket (standing run m) row)));
    }

pub asked-nothing : {deed : Slices → Step} {run r : TryRun} {a : Asked} {row w w' o o' : List ℕ} → a ≡ nothing_due r
    → ((st store rows l : List ℕ) → Sound run
    → let was = slices st store rows w o l in Stepped (deed was) run was r (slices st store rows w' o' l))
    → AskedBy deed run row w o a w' o'
asked-nothing {deed} {run} {r} {a} {row} {w} {w'} {o} {o'} e f =
    subst (λ (x : Asked). AskedBy deed run row w o x w' o') (sym e)
    (record {
      waits = λ h. absurd (false≢true h);
      asks = λ (st store rows l : List ℕ) (s : Sound run). asks_nothing row (f st store rows l s);
    })

-- ---- the line is counted
counted_step : {d : Step} {run mid r : TryRun} {m m' : Slices} → Stepped d run m mid m' → r ≡ with_course mid (next_course mid.course)
    → Stepped (counted d) run m r m'
counted_step {d} {run} {mid} {r} {m} {m'} w e =
    subst (λ (x : TryRun). Stepped (counted d) run m x m') (sym e)
    (record {
      stand =
          same-stand (ap (λ (x : Stand). x.state) z) (ap (λ (x : Stand). x.store) z) (ap (λ (x : Stand). x.rows) z)
          (ap (λ (x : Stand). x.tally) z) (ap (λ (x : Stand). next_course x.course) z);
      ticket = w.ticket;
      out = w.out;
      listed = w.listed;
      sound = record { word = w.sound.word; most = w.sound.most };
    })
  where
    z : standing mid m' ≡ d.stand
    z = w.stand

-- ---- a line, told
pub head-told : {run r : TryRun} {o o' : List ℕ} {n : ℕ} → run.out + header_room ≤ length o → Wrote o run.out (header_out ++ crlf) o' n
    → r ≡ with_out run n → HeadTold run o r o'
head-told {run} {r} {o} {o'} {n} h p q =
    subst (λ (x : TryRun). HeadTold run o x o') (sym q) (record { is = refl; adds = adds-wrote (omega (arith, header-short)) p })

pub unread-asked : {what : LineIs} {run then r : TryRun} {a : Asked} {w w' o : List ℕ} → what ≡ LineIs.Unread → UnreadTold run w then w'
    → r ≡ with_course then (next_course then.course) → a ≡ nothing_due r → LineTold what run w o a w' o
unread-asked {run = run} {a = a} {w = w} {w' = w'} {o = o} q u n e =
    subst (λ (x : LineIs). LineTold x run w o a w' o) (sym q)
    (record {
      asked =
          λ (row : List ℕ). asked-nothing e (λ (st store rows l : List ℕ) (s : Sound run). counted_step (unread-step u s) n);
    })

pub head-asked : {what : LineIs} {run then r : TryRun} {a : Asked} {w o o' : List ℕ} → what ≡ LineIs.Header → HeadTold run o then o'
    → r ≡ with_course then (next_course then.course) → a ≡ nothing_due r → LineTold what run w o a w o'
head-asked {what} {run} {then} {r} {a} {w} {o} {o'} q h n e =
    subst (λ (x : LineIs). LineTold x run w o a w o') (sym q)
    (record { asked = λ (row : List ℕ). asked-nothing e (λ (st store rows l : List ℕ) (s : Sound run). counted_step (good st store rows l s) n) })
  where
    good : (st store rows l : List ℕ) → Sound run
        → let was = slices st store rows w o l in
        Stepped (headed (standing run was)) run was then (slices st store rows w o' l)
    good st store rows l s =
        let m = slices st store rows w o l in
        record {
          stand = same-stand refl refl refl refl (ap (λ (x : TryRun). x.course) h.is);
          ticket = ap (λ (x : TryRun). x.ticket) h.is;
          out = h.adds;
          listed = subst (λ (k : ℕ). Adds [] l run.listed l k) (sym (ap (λ (x : TryRun). x.listed) h.is)) (adds_none l run.listed);
          sound = subst Sound (sym h.is) (record { word = s.word; most = s.most });
        }

pub block-asked : {what : LineIs} {run : TryRun} {w o : List ℕ} → what ≡ LineIs.Block → LineTold what run w o (record { run = run; call = Call.Push }) w o
block-asked {run = run} {w = w} {o = o} q =
    subst (λ (x : LineIs). LineTold x run w o (record { run = run; call = Call.Push }) w o) (sym q)
    (record {
      asked =
          λ (row : List ℕ). record {
            waits = λ h. (refl, refl);
            asks = λ (st store rows l : List ℕ) (s : Sound run). asks-push row s;
          };
    })

-- ---- what a line says is what the definition does with it
text_says_lem : (t : Ticket) (s : Stand) (text : List ℕ) → on_text t s text ≡ says_step (text_says s.course.physical text) t s
unfolding on_text text_says
text_says_lem t s text = go (eqb s.course.physical 1) (same header text) (read_block text)
  where
    go : (x y : Bool) (o : Option (List ℕ))
        → cond x (cond y (headed s) (unread t s)) (on_read t s o)
        ≡ says_step (cond x (cond y heading nothing) (read_says o)) t s
    go true true o = refl
    go true false o = refl
    go false y none = refl
    go false y (some row) = refl

end-says : (t : Ticket) (s : Stand) (line : List ℕ) (e : Read ℕ) → on_end t s line e ≡ says_step (line_says s.course.physical line e) t s
end-says t s line None = refl
end-says t s line (Some n) = text_says_lem t s (take n line)

pub asked-line : {t : Turn} {run : TryRun} {b row w w' o o' : List ℕ} {what : LineIs} {a : Asked} → run.course.stands ≡ goes
    → says what row ≡ line_says run.course.physical (between b t.from t.at) (end_of (between b t.from t.at))
    → LineTold what run w o a w' o' → TurnAsked Found.Line t run b row w o a w' o'
unfolding night_line
asked-line {t} {run} {b} {row} {w} {w'} {o} {o'} {what} {a} g e told =
    record {
      by = record {
        waits = (told.asked row).waits;
        asks =
            λ (st store rows l : List ℕ) (s : Sound run).
            let was = slices st store rows w o l in
            subst (λ (d : Step). Asking d run was a.call row a.run (slices st store rows w' o' l)) (sym (is was))
            ((told.asked row).asks st store rows l s);
      };
    }
  where
    line : List ℕ
    line = between b t.from t.at

    is : (m : Slices) → deed_of Found.Line t run b m ≡ counted (says_step (says what row) run.ticket (standing run m))
    is m =
        cond-t _ _ (eq-eqb _ _ g)
        ∙ ap counted (end-says run.ticket (standing run m) line (end_of line))
        ∙ ap (λ (x : Says). counted (says_step x run.ticket (standing run m))) (sym e)

pub asked-no-line : {t : Turn} {run : TryRun} {b row w o : List ℕ} {a : Asked} → (run.course.stands ≡ goes → ⊥) → a ≡ nothing_due run
    → TurnAsked Found.Line t run b row w o a w o
asked-no-line {run = run} {w = w} {o = o} g e =
    record {
      by = asked-nothing e
          (λ (st store rows l : List ℕ) (s : Sound run).
          step_as (cond-f _ _ (ne_eqb _ _ g)) (nothing-done run (slices st store rows w o l) s));
    }

-- ---- the end of the input
module _ (t : Ticket) (s : Stand) (behind : ℕ) where
  end_bad : ends_badly s.course.stands s.course.physical behind ≡ true → ends t s behind ≡ unread t s
  unfolding ends ends_badly
  end_bad e = rw e

  end_well : ends_badly s.course.stands s.course.physical behind ≡ false → ends t s behind ≡ still s
  unfolding ends ends_badly
  end_well e = rw e

pub ends_well : {run : TryRun} {behind : ℕ} {w : List ℕ} → ends_badly run.course.stands run.course.physical behind ≡ false
    → EndTold run behind w run w
ends_well {run} {behind} {w} e =
    record {
      out = refl;
      listed = refl;
      step =
          λ (st store rows o l : List ℕ) (s : Sound run).
          let m = slices st store rows w o l in step_as (end_well run.ticket (standing run m) behind e) (nothing-done run m s);
    }

pub ends_bad : {run r : TryRun} {behind : ℕ} {w w' : List ℕ} → ends_badly run.course.stands run.course.physical behind ≡ true
    → UnreadTold run w r w' → EndTold run behind w r w'
ends_bad {run} {r} {behind} {w} {w'} e u =
    record {
      out = ap (λ (x : TryRun). x.out) u.is;
      listed = ap (λ (x : TryRun). x.listed) u.is;
      step =
          λ (st store rows o l : List ℕ) (s : Sound run).
          step_as (end_bad run.ticket (standing run (slices st store rows w o l)) behind e) (unread-step u s);
    }

-- the two closes are the call that is due, and the one behind it
closes-call : (t : Ticket) (s : Stand) (row : List ℕ) → closes t s ≡ call_step (close_due s.course.stands) t s row
unfolding closes call_step
closes-call t s row = by_bit (is_open s.course.stands) (λ a. rw a) (λ a. rw a)

shuts_calls : (t : Ticket) (s : Stand) (row : List ℕ) → shuts t s ≡ calls_by (close_due s.course.stands) t s row
unfolding shuts closes call_step
shuts_calls t s row = by_bit (is_open s.course.stands) opened shut
  where
    opened : is_open s.course.stands ≡ true → shuts t s ≡ calls_by (close_due s.course.stands) t s row
    opened a =
        ap (λ (d : Step). and_then d (closes t d.stand)) (cond-t _ _ a)
        ∙ ap (and_then (on_close t s)) (closes-call t (on_close t s).stand row)
        ∙ sym (ap (λ (x : Call). calls_by x t s row) (cond-t _ _ a))

    shut : is_open s.course.stands ≡ false → shuts t s ≡ calls_by (close_due s.course.stands) t s row
    shut a =
        ap (λ (d : Step). and_then d (closes t d.stand)) (cond-f _ _ a)
        ∙ ap (and_then (still s)) (cond-f _ _ a)
        ∙ sym (ap (λ (x : Call). calls_by x t s row) (cond-f _ _ a))

pub end-asked : {t : Turn} {run : TryRun} {b row w w' o : List ℕ} {a : Asked} → EndAsked run (t.end - t.at) w a w'
    → TurnAsked Found.Ended t run b row w o a w' o
unfolding night_end
end-asked {t} {run} {b} {row} {w} {w'} {o} {a} k =
    record { by = record { waits = λ h. (k.told.out, k.told.listed); asks = asks } }
  where
    asks : (st store rows l : List ℕ) → Sound run
        → let was = slices st store rows w o l in
        Asking (night_end run.ticket (standing run was) (t.end - t.at)) run was a.call row a.run (slices st store rows w' o l)
    asks st store rows l s =
        let was = slices st store rows w o l in
        let d = ends run.ticket (standing run was) (t.end - t.at) in
        let step = k.told.step st store rows o l s in
        let due : close_due d.stand.course.stands ≡ a.call = ap (λ (x : Stand). close_due x.course.stands) (sym step.stand) ∙ sym k.due in
        record {
          part = d;
          step = step;
          rest =
              ap (and_then d) (shuts_calls run.ticket d.stand row ∙ ap (λ (x : Call). calls_by x run.ticket d.stand row) due);
        }

pub full-asked : {t : Turn} {run r : TryRun} {b row w w' o : List ℕ} {a : Asked} → EndTold run (t.end - t.at) w r w' → a ≡ nothing_due r
    → TurnAsked Found.Full t run b row w o a w' o
full-asked {run = run} {o = o} k e =
    record { by = asked-nothing e (λ (st store rows l : List ℕ) (s : Sound run). k.step st store rows o l s) }

still-asked : {run : TryRun} {row w o : List ℕ} {a : Asked} → a ≡ nothing_due run → AskedBy (λ (m : Slices). still (standing run m)) run row w o a w o
still-asked {run} {row} {w} {o} e =
    asked-nothing e (λ (st store rows l : List ℕ) (s : Sound run). nothing-done run (slices st store rows w o l) s)

pub more-asked : {t : Turn} {run : TryRun} {b row w o : List ℕ} {a : Asked} → a ≡ nothing_due run → TurnAsked Found.More t run b row w o a w o
more-asked e = record { by = still-asked e }

pub fails-asked : {t : Turn} {run : TryRun} {b row w o : List ℕ} {a : Asked} → a ≡ nothing_due run → TurnAsked Found.Failed t run b row w o a w o
fails-asked e = record { by = still-asked e }

pub asked_as : {f g : Found} {t : Turn} {run : TryRun} {b row w w' o o' : List ℕ} {a : Asked} → g ≡ f → TurnAsked f t run b row w o a w' o'
    → TurnAsked g t run b row w o a w' o'
asked_as {t = t} {run = run} {b = b} {row = row} {w = w} {w' = w'} {o = o} {o' = o'} {a = a} e k =
    subst (λ (x : Found). TurnAsked x t run b row w o a w' o') (sym e) k

-- ---- a call, told
pub nothing-heard : (call : Call) {run : TryRun} {row rows w o l : List ℕ} {reply : Reply} → is_due call ≡ false → Sound run
    → Heard call run row reply rows w o l run w o l
unfolding call_step after_call untouched
nothing-heard Call.Nothing {run} {w = w} {o = o} {l = l} e s =
    record {
      step =
          λ st store lent st' store' reply.
          record {
            stand = same-stand reply.is.state reply.is.store reply.is.rows refl refl;
            ticket = refl;
            out = adds_none o run.out;
            listed = adds_none l run.listed;
            sound = s;
          };
    }
nothing-heard Call.Push e s = absurd (false≢true (sym e))
nothing-heard Call.Close e s = absurd (false≢true (sym e))

pub call-heard : (call : Call) {run then r : TryRun} {row rows w w' o o' l l' : List ℕ} {source kind : ℕ} {reply : Reply} → is_due call ≡ true
    → source ≡ source_by call run.course row → kind ≡ told_as call
    → CallTold source kind reply rows w run o l then w' o' l' → r ≡ counted_by call then → Heard call run row reply rows w o l r w' o' l'
unfolding call_step after_call
call-heard Call.Nothing d p q k n = absurd (false≢true d)
call-heard Call.Push {run} {then} {r} {row} {rows} {w} {w'} {o} {o'} {l} {l'} {source} {kind} {reply} d p q k n =
    let told = subst (λ (x : ℕ). CallTold source x reply rows w run o l then w' o' l') q k in
    record { step = λ (st store lent st' store' : List ℕ) reply. counted_step (row_step row reply.is p told) n }
call-heard Call.Close {run} {then} {r} {row} {rows} {w} {w'} {o} {o'} {l} {l'} {source} {kind} {reply} d p q k n =
    let at = subst (λ (x : ℕ). CallTold x kind reply rows w run o l then w' o' l') p k in
    let told = subst (λ (x : ℕ). CallTold run.course.source x reply rows w run o l then w' o' l') q at in
    subst (λ (x : TryRun). Heard Call.Close run row reply rows w o l x w' o' l') (sym n)
    (record { step = λ (st store lent st' store' : List ℕ) reply. close-step reply.is told })
