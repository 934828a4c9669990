-- What the number that a text is says of a tolerance. Assumes nothing.
use Rattle.std.specs.Prelude.{Some, None}
use Prim.Native.Nat.{ℕ}
use mathlib.Core.Path.{◌≡◌}
use mathlib.Core.Bool.{false}
use mathlib.Core.List.{List}
use lib.Ieee.{Float, binary64, lt, of_bits}
use Rattle.floats.specs.Numbers.{bits}
use Rattle.csv_fields.specs.Read.{number}
use Rattle.night_tolerance.specs.Tolerance.{is_tolerance, bits_of}

pub tolerance-is : (t : List ℕ) (x : Float) → Some x ≡ number t → lt (of_bits binary64 0) x ≡ is_tolerance t
unfolding is_tolerance
tolerance-is t x e = rw (← e)

pub tolerance-none : (t : List ℕ) → None ≡ number t → false ≡ is_tolerance t
unfolding is_tolerance
tolerance-none t e = rw (← e)

pub bits_is : (t : List ℕ) (x : Float) (r : ℕ) → Some x ≡ number t → r ≡ bits x → r ≡ bits_of t
unfolding bits_of
bits_is t x r e h = rw (← e) h

pub bits_none : (t : List ℕ) → None ≡ number t → 0 ≡ bits_of t
unfolding bits_of
bits_none t e = rw (← e)
