-- CONTRACTS. What a call answered, of the buffers in which bytes wait. Assumes nothing.
use Rattle.std.specs.Prelude.{ℕ, ◌+◌, ◌*◌, ◌≤◌, ◌≡◌, List}
use Rattle.layout.specs.Layout.{row_words}
use Rattle.call_reply.specs.declared.Reply.{Reply}
use Rattle.csv_write.specs.Writer.{row_room}
use Rattle.csv_out.specs.declared.Run.{Run}
use Rattle.csv_out.specs.Say.{Say, notice_room}
use Rattle.csv_out.specs.Said.{Adds}
use Rattle.csv_answer.specs.Answer.{answer}

-- room for what a call answers: its rows, where it is done, and one notice
pub record AnswerFits (code count rows out err : ℕ) (run : Run) : Type 0 where
  pub lent : code ≡ 0 → count * row_words ≤ rows
  pub outs : code ≡ 0 → run.out + row_room * count ≤ out
  pub errs : run.err + notice_room ≤ err

-- what is said to a reply, at a source line
abbrev pub said : ℕ → Reply → List ℕ → Say
said source reply rows = answer source reply.code reply.count reply.warning rows

-- it is said, and the source line is the run's
pub record Answers (source : ℕ) (reply : Reply) (rows : List ℕ) (run : Run) (o e : List ℕ) (r : Run) (o' e' : List ℕ) : Type 0 where
  pub physical : r.physical ≡ run.physical
  pub line : r.source ≡ source
  pub refused : r.refused ≡ (said source reply rows).refused
  pub out : Adds (said source reply rows).out o run.out o' r.out
  pub err : Adds (said source reply rows).err e run.err e' r.err
