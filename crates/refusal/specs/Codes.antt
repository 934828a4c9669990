-- DEFINITIONS. The number of each refusal, and of what a check answers. Assumes nothing.
use Rattle.std.specs.Prelude.{ℕ, Result, Ok, Err}
use Rattle.refusal.specs.declared.Refusal.{Refusal}
use Rattle.refusal.specs.declared.Refusal.TheVariants.{BadTolerance, BadAxis, BadNumber, BadRow, TooManyTurns, StoreFull}
use Rattle.refusal.specs.declared.Refusal.TheVariants.{TooFewPlaces, StoreTooShort, BadState, BadText, TallyFull}

-- rules 2.5 to 2.16, 9.6
abbrev pub refusal_code : Refusal → ℕ
refusal_code BadTolerance = 1
refusal_code BadAxis = 2
refusal_code BadNumber = 3
refusal_code BadRow = 4
refusal_code TooManyTurns = 5
refusal_code StoreFull = 6
refusal_code TooFewPlaces = 7
refusal_code StoreTooShort = 8
refusal_code BadState = 9
refusal_code BadText = 10
refusal_code TallyFull = 11

-- 0, or the number
abbrev pub code_of : {A : Type 0} → Result A Refusal → ℕ
code_of (Ok a) = 0
code_of (Err e) = refusal_code e

-- the answer with the number in the refusal's place
abbrev pub by_code : {A : Type 0} → Result A Refusal → Result A ℕ
by_code (Ok a) = Ok a
by_code (Err e) = Err (refusal_code e)
