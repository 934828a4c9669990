-- LAWS. From what the writer of rows promises to the bytes that wait. Assumes nothing.
use Rattle.std.specs.Prelude.{ℕ, ◌+◌, ◌*◌, ◌≤◌, ◌<◌, ◌≡◌, true, false, List, [], length, Option, Some}
use Rattle.std.proofs.Common.{◌∙◌, subst, arith, eq-eqb, ne_eqb}
use Rattle.floats.specs.Truth.{all-at}
use Rattle.call_reply.specs.declared.Reply.{Reply}
use Rattle.csv_line.specs.Notice.{notice_text}
use Rattle.csv_write.specs.Texts.{several_length, row-length}
use Rattle.csv_write.specs.Trying.{tried-good}
use Rattle.csv_write.specs.Writer.{row_room, row_text, row_at, rows_text, writable, rows_writable, Tried}
use Rattle.csv_out.specs.declared.Run.{Run}
use Rattle.csv_count.specs.Count.{bad_text}
use Rattle.csv_out.specs.Say.{Say, refusal}
use Rattle.csv_out.specs.Said.{Adds, Noted, Said}
use Rattle.csv_out.specs.SayLaws.{says, adds-text}
use Rattle.csv_answer.specs.Answer.{warning_text, answer}
use Rattle.csv_answer.specs.Answers.{AnswerFits, Answers, said}

pub rows_short : (rows : List ℕ) (k : ℕ) → rows_writable rows k ≡ true → length (rows_text rows k) ≤ row_room * k
unfolding rows_writable rows_text
rows_short rows k e =
    several_length (λ (i : ℕ). row_text (row_at rows i)) row_room k
    (λ (i : ℕ) (l : i < k). row-length (row_at rows i) (all-at k (λ (i : ℕ). writable (row_at rows i)) i e l))

-- ---- what is said, by cases
pub warning-none : (source warning : ℕ) → warning ≡ 0 → warning_text source warning ≡ []
unfolding warning_text
warning-none source warning e = rw (eq-eqb warning 0 e)

pub warning-some : (source warning : ℕ) → (warning ≡ 0 → ⊥) → warning_text source warning ≡ notice_text source warning false
unfolding warning_text
warning-some source warning e = rw (ne_eqb warning 0 e)

module _ (source code count warning : ℕ) (rows : List ℕ) where
  pub answer-refused : (code ≡ 0 → ⊥) → answer source code count warning rows ≡ says true [] (notice_text source code true)
  unfolding answer refusal
  answer-refused e = rw (ne_eqb code 0 e)

  pub answer_bad : code ≡ 0 → rows_writable rows count ≡ false → answer source code count warning rows ≡ says true [] (notice_text source bad_text true)
  unfolding answer refusal
  answer_bad e f = rw (eq-eqb code 0 e, f)

  pub answer-done : code ≡ 0 → rows_writable rows count ≡ true
      → answer source code count warning rows ≡ says false (rows_text rows count) (warning_text source warning)
  unfolding answer
  answer-done e f = rw (eq-eqb code 0 e, f)

-- the lines of a run stay, and so does what waits for standard error
pub record SameRun (run mid : Run) : Type 0 where
  pub err : mid.err ≡ run.err
  pub physical : mid.physical ≡ run.physical
  pub source : mid.source ≡ run.source

-- a call's rows, and then its warning
pub say_rows : {p : Say} (source warning count : ℕ) (rows : List ℕ) {o o' e e' : List ℕ} {run mid r : Run} {x : Option ℕ}
    → p ≡ says false (rows_text rows count) (warning_text source warning)
    → Tried (rows_writable rows count) (rows_text rows count) o run.out o' x → x ≡ Some mid.out
    → run.out + row_room * count ≤ length o → SameRun run mid → Noted false (warning_text source warning) mid e r e' → Said p run o e r o' e'
say_rows {p} source warning count rows {o} {o'} {e} {e'} {run} {mid} {r} {x} z w q room k n =
    let g = tried-good w q in
    let h : run.out + length (rows_text rows count) ≤ length o = omega (arith, rows_short rows count g.0) in
    rw z
    (record {
      physical = n.physical ∙ k.physical;
      source = n.source ∙ k.source;
      refused = n.refused;
      out = adds-text (rows_text rows count) o o' run.out r.out h (n.out ∙ g.1) (w.text g.0);
      err = subst (λ (k : ℕ). Adds (warning_text source warning) e k e' r.err) k.err n.err;
    })

-- ---- a call's answer at a source line: the run that says it differs in that line alone
abbrev pub at : Run → ℕ → Run
at run source = record { out = run.out; err = run.err; physical = run.physical; source = source; refused = run.refused }

pub same-fits : {code count rows out err source : ℕ} {run : Run} → AnswerFits code count rows out err run
    → AnswerFits code count rows out err (at run source)
same-fits w = record { lent = w.lent; outs = w.outs; errs = w.errs }

pub said-answers : {source : ℕ} {reply : Reply} {rows o e o' e' : List ℕ} {run r : Run}
    → Said (said source reply rows) (at run source) o e r o' e' → Answers source reply rows run o e r o' e'
said-answers w = record { physical = w.physical; line = w.source; refused = w.refused; out = w.out; err = w.err }
