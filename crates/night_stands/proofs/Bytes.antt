-- What a walk over all bytes found, as the definition counts. Assumes nothing.
use Rattle.std.proofs.Common.{ℕ, ◌≡◌, ◌<◌, Bool, true, false, List, length, get_or, MatchBool, sym, arith}
use Rattle.std.specs.List.{HoldsAt, AllWithin}
use Rattle.floats.specs.Truth.{all_intro, all-fails}
use Rattle.night_stands.specs.Standing.{byte_stands, may_stand}

abbrev Yes : ℕ → Type 0
Yes b = byte_stands b ≡ true

abbrev No : ℕ → Type 0
No b = byte_stands b ≡ false

pub stands-all : (t : List ℕ) (r : Bool) → MatchBool r (AllWithin Yes t 0 (length t)) ((k : ℕ) × (k < length t) × HoldsAt No t k) → r ≡ may_stand t
unfolding may_stand
stands-all t true h = sym (all_intro (length t) (λ (i : ℕ). byte_stands (get_or t i 0)) (λ k l. h k 0 (omega arith) l))
stands-all t false h = sym (all-fails (length t) (λ (i : ℕ). byte_stands (get_or t i 0)) h.0 h.1 (h.2 0))
