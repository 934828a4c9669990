-- DEFINITIONS. What a push is due: the number of its refusal, or its block resolved. Assumes nothing.
use Rattle.std.specs.Prelude.{ℕ, cond, List, eqb, Result, Ok, Err}
use Rattle.push_resolve.specs.declared.Resolved.{Resolved}
use Rattle.push_resolve.specs.Resolved.{resolved}
use Rattle.push_check.specs.Refusal.{push_check}

unfoldable pub due : List ℕ → List ℕ → List ℕ → Result Resolved ℕ
due st store r = cond (eqb (push_check st store r) 0) (Ok (resolved st r)) (Err (push_check st store r))
