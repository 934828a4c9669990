-- CONTRACTS. What a value of the code's types means to the definitions. Assumes nothing.
use Rattle.std.proofs.Math.Option as Maybe
use Rattle.std.specs.Prelude.{ℕ, Float, Option, Some, None, Result, Ok, Err}
use Rattle.arc_centre.specs.Centre as Spec
use Rattle.arc_centre.specs.Centre.{centred, warned}
use Rattle.arc_centre.specs.declared.Centre.{Centre}
use Rattle.arc_centre.specs.declared.Fault.{Fault}
use Rattle.arc_centre.specs.declared.Fault.TheVariants.{Coincident, Short, Missing, Small}
use Rattle.arc_centre.specs.declared.Ends.{Ends}

-- the warning's number
abbrev pub warning_of : Fault → ℕ
warning_of Coincident = 2
warning_of Short = 3
warning_of Missing = 4
warning_of Small = 5

-- the centre's two numbers, or the warning
abbrev pub centre_is : Result Centre Fault → Spec.Centre
centre_is (Ok m) = centred m.u m.v
centre_is (Err fault) = warned (warning_of fault)

-- a cell that is absent has no number
abbrev pub number_is : Option Float → Maybe.Option Float
number_is (Some x) = Maybe.some x
number_is None = Maybe.none

abbrev pub ends_is : Ends → Spec.Ends
ends_is e = record { su = e.su; sv = e.sv; eu = e.eu; ev = e.ev }
