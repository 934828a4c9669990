-- LAWS. What `if !f(..)` says of the definition that the answer of f is. Assumes nothing.
use Rattle.std.specs.Prelude.{◌≡◌, Bool, true, false, not}
use Rattle.std.proofs.Common.{sym, ◌∙◌}
use Rattle.std.proofs.lemmas.Bool.{not-true, not-false}

pub passed : {answer is : Bool} → answer ≡ is → not answer ≡ false → is ≡ true
passed {answer} e left = sym e ∙ not-false answer left

pub failed : {answer is : Bool} → answer ≡ is → not answer ≡ true → is ≡ false
failed {answer} e taken = sym e ∙ not-true answer taken
