-- LAWS. A block that is checked has room in the store, and writing it leaves what the definition says. Assumes nothing.
use Rattle.std.specs.Prelude.{ℕ, ◌≡◌, false, List}
use Rattle.std.proofs.Common.{ap}
use Rattle.motion.specs.Motion.{is_spline}
use Rattle.push_resolve.specs.declared.Resolved.{Resolved}
use Rattle.push_check.specs.Refusal.{is_full}
use Rattle.push_resolve.specs.Asks.{Block}
use Rattle.push_check.proofs.DueLaws.{full-room}
use Rattle.push_resolve.specs.Resolved.{resolved}
use Rattle.push_state.specs.Pushed.{push_store}
use Rattle.push_state.specs.Stored.{Stores, store_with}

pub stores : (st store r : List ℕ) (b : Resolved) → b ≡ resolved st r → Block st r → is_full st store r ≡ false → Stores b store r
unfolding is_spline
stores st store r b e k f =
    rw e (record { wide = k.wide; few = λ y. (full-room st store r y f).0; room = λ y. (full-room st store r y f).1 })

pub store_is : (st store r : List ℕ) (b : Resolved) → b ≡ resolved st r → store_with b store r ≡ push_store st store r
unfolding push_store is_spline
store_is st store r b e = ap (λ (x : Resolved). store_with x store r) e
