-- LAWS. Where a line is refused, or the end is, nothing goes to standard output. Assumes nothing.
use Rattle.std.specs.Prelude.{ℕ, ◌≡◌, refl, Bool, true, false, cond, List, [], ◌++◌, eqb}
use Rattle.std.proofs.lemmas.Bool.{false≢true}
use Rattle.std.proofs.Math.Option.{Option, none, some}
use Rattle.csv_words.specs.Words.{same}
use Rattle.csv_line.specs.LineText.{crlf}
use Rattle.csv_header.specs.Header.{header, header_out}
use Rattle.csv_read.specs.Reader.{read_row}
use Rattle.csv_write.specs.Writer.{rows_text, rows_writable}
use Rattle.csv_count.specs.Count.{bad_text}
use Rattle.csv_out.specs.Say.{Say, refusal, heading}
use Rattle.csv_answer.specs.Answer.{answer, warning_text}
use Rattle.csv_out.specs.SayLaws.{says}
use Rattle.csv_spec.specs.Line.{Stand, Step, unread, on_row, on_read, on_text, csv_close, csv_end}

-- what is said, where it is a refusal, has no bytes for standard output
abbrev Quiet : Say → Type 0
Quiet p = p.refused ≡ true → p.out ≡ []

abbrev pub StepQuiet : Step → Type 0
StepQuiet d = d.stand.refused ≡ true → d.out ≡ []

done_quiet : (o e : List ℕ) → Quiet (says false o e)
done_quiet o e z = absurd (false≢true z)

refusal_quiet : (n k : ℕ) → Quiet (refusal n k)
unfolding refusal
refusal_quiet n k z = refl

picked_quiet : (b : Bool) (p q : Say) → Quiet p → Quiet q → Quiet (cond b p q)
picked_quiet true p q x y = x
picked_quiet false p q x y = y

pub heading_quiet : (n : ℕ) (t : List ℕ) → Quiet (heading n t)
unfolding heading
heading_quiet n t = picked_quiet (same header t) _ _ (done_quiet (header_out ++ crlf) []) (refusal_quiet n bad_text)

pub answer_quiet : (source code count warning : ℕ) (rows : List ℕ) → Quiet (answer source code count warning rows)
unfolding answer
answer_quiet source code count warning rows =
    let done = done_quiet (rows_text rows count) (warning_text source warning) in
    picked_quiet (eqb code 0) _ _ (picked_quiet (rows_writable rows count) _ _ done (refusal_quiet source bad_text)) (refusal_quiet source code)

pub unread_quiet : (s : Stand) → StepQuiet (unread s)
unfolding unread refusal
unread_quiet s e = refl

either_quiet : (b : Bool) (d e : Step) → StepQuiet d → StepQuiet e → StepQuiet (cond b d e)
either_quiet true d e x y = x
either_quiet false d e x y = y

row_quiet : (s : Stand) (row : List ℕ) → (on_row s row).stand.refused ≡ true → (on_row s row).out ≡ []
unfolding on_row
row_quiet s row e = answer_quiet _ _ _ _ _ e

read_quiet : (s : Stand) (o : Option (List ℕ)) → (on_read s o).stand.refused ≡ true → (on_read s o).out ≡ []
read_quiet s none e = unread_quiet s e
read_quiet s (some row) e = row_quiet s row e

pub text_quiet : (s : Stand) (t : List ℕ) → StepQuiet (on_text s t)
unfolding on_text
text_quiet s t = either_quiet (eqb s.physical 1) _ _ (heading_quiet s.physical t) (read_quiet s (read_row t))

-- a refused end writes no row
pub close_quiet : (s : Stand) (left : ℕ) → (csv_end s left).stand.refused ≡ true → (csv_end s left).out ≡ []
unfolding csv_end csv_close
close_quiet s left =
    let shut = either_quiet (eqb s.physical 1) _ _ (unread_quiet s) (answer_quiet _ _ _ _ _) in
    either_quiet (eqb left 0) _ _ shut (unread_quiet s)
