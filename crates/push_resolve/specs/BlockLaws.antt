-- LAWS. A block that passes its checks has what the steps of a push ask; a block resolved. Assumes nothing.
use Rattle.std.specs.Prelude.{ℕ, ◌≡◌, Bool, true, cond, not, ◌&&◌, List, eqb, get_or}
use Rattle.std.proofs.Common.{◌∙◌, ap}
use Rattle.layout.specs.Layout.{w_warned}
use Rattle.motion.specs.Motion.{kind_of, is_other}
use Rattle.row_cells.specs.Bits.{has}
use Rattle.row_cells.specs.Row.{motion_of}
use Rattle.row_check.specs.Check.{row_check}
use Rattle.row_check.specs.CheckLaws.{check-length, check-motion}
use Rattle.saved_state.specs.State.{held, motion_now, state_ok, geometric_mask}
use Rattle.saved_state.specs.Asks.{Listed}
use Rattle.saved_state.specs.StateLaws.{Good, good, axes-few}
use Rattle.push_resolve.specs.Blocks.{motion_then, plane_then, emits, kept, news}
use Rattle.push_resolve.specs.Asks.{Block}
use Rattle.push_resolve.specs.Resolved.{resolved}
use Rattle.push_resolve.specs.declared.Resolved.{Resolved}

pub block : (st r : List ℕ) → state_ok st ≡ true → row_check r ≡ 0 → Block st r
block st r p q =
    let g : Good st = good st p in
    record { long = g.long; few = axes-few st g.axes; wide = check-length r q; word = check-motion r q }

pub block_listed : {st r : List ℕ} → Block st r → Listed st
block_listed b = record { long = b.long; few = b.few }

-- ---- what the code learns of a block one by one is the block resolved
pub resolved-is : (st r : List ℕ) (b : Resolved)
    → b.motion ≡ motion_then st r → b.plane ≡ plane_then st r → b.kind ≡ kind_of b.motion
    → b.emits ≡ (not (eqb (held st) 0) && not (eqb b.motion (motion_now st))) → b.kept ≡ cond b.emits 0 (held st)
    → b.news ≡ (is_other (motion_of r) && not (has (get_or st w_warned 0) (motion_of r))) → b.axes ≡ geometric_mask st
    → b ≡ resolved st r
unfolding emits kept news
resolved-is st r b m p k e h n a =
    let ek = k ∙ ap kind_of m in
    let ee = e ∙ ap (λ (x : ℕ). not (eqb (held st) 0) && not (eqb x (motion_now st))) m in
    let eh = h ∙ ap (λ (x : Bool). cond x 0 (held st)) ee in
    λ i. record { kind = ek i; motion = m i; plane = p i; emits = ee i; kept = eh i; news = n i; axes = a i }
