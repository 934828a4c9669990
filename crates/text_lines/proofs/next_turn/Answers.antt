-- `text_lines::next_turn`: the answers to its goals. Assumes nothing.
use native.Mathlib.Omega.{arith}
use Rattle.text_lines.specs.TurnLaws.{line-turned}
use Rattle.text_lines.proofs.next_turn.Goals as goal

pub returns-then-e-end : goal.returns-then-e-end
returns-then-e-end g c = line-turned _ _ _ c.requires.0 c.requires.1 _ c.line_end-e.ensures c.if-e-end.true (omega arith)
