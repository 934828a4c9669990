-- LAWS. No refusal has the number 0. Assumes nothing.
use Rattle.std.specs.Prelude.{◌<◌}
use Rattle.std.proofs.Common.{arith}
use Rattle.refusal.specs.Codes.{refusal_code}
use Rattle.refusal.specs.declared.Refusal.{Refusal}
use Rattle.refusal.specs.declared.Refusal.TheVariants.{BadTolerance, BadAxis, BadNumber, BadRow, TooManyTurns, StoreFull}
use Rattle.refusal.specs.declared.Refusal.TheVariants.{TooFewPlaces, StoreTooShort, BadState, BadText, TallyFull}

pub some-code : (e : Refusal) → 0 < refusal_code e
some-code BadTolerance = omega arith
some-code BadAxis = omega arith
some-code BadNumber = omega arith
some-code BadRow = omega arith
some-code TooManyTurns = omega arith
some-code StoreFull = omega arith
some-code TooFewPlaces = omega arith
some-code StoreTooShort = omega arith
some-code BadState = omega arith
some-code BadText = omega arith
some-code TallyFull = omega arith
