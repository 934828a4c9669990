-- LAWS. What a run that is not over does. Assumes nothing.
use Rattle.std.specs.Prelude.{ℕ, Bool, true, false, cond, eqb, ◌≡◌, refl}
use Rattle.std.proofs.Common.{sym, eqb-true}
use Rattle.csv_status.specs.Status.{goes_on, is_over}

turned : (b : Bool) → cond b false true ≡ false → b ≡ true
turned true e = refl
turned false e = sym e

pub going : {over : ℕ} → is_over over ≡ false → over ≡ goes_on
unfolding is_over
going {over} e = eqb-true over goes_on (turned (eqb over goes_on) e)
