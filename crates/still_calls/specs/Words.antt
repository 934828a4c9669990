-- LAWS. The words of rows that are made for a group, of those that go out unchanged, and what is said of a call's rows. Assumes nothing.
use Rattle.std.specs.Prelude.{ℕ, zero, suc, ◌<◌, ◌≤◌, ◌≡◌, Bool, true, false, cond, List, [], ◌∷◌, ◌⊎◌}
use Rattle.std.proofs.Common.{sym, ◌∙◌, ap, subst, inl, inr, arith}
use Rattle.std.proofs.Math.Option.{Option}
use Rattle.floats.specs.Lists.{upto, flatten}
use Rattle.layout.specs.Layout.{cell_masks}
use Rattle.motion.specs.Motion.{g_one, last_motion, is_spline}
use Rattle.row_cells.specs.Row.{motion_of, present_of, row_of, out_row, has_point}
use Rattle.row_cells.proofs.RowLaws.{out-motion, out-mark, out-point}
use Rattle.row_made.specs.Made.{made_row}
use Rattle.row_made.specs.MadeLaws.{made-is}
use Rattle.demand_calls.specs.Every.{Every, nil}
use Rattle.demand_calls.specs.Laws.{every_imp}
use Rattle.demand_calls.specs.PlaceLaws.{Long}
use Rattle.still_laws.specs.Statements.{OnlyBehindLone}
use Rattle.still_laws.specs.Lone.{Spoken, silent, straight, alone, Unmarked, Led, here, led-more, lone-unmarked, lone-led}

-- ---- made rows
made-motion : (gs r : List ℕ) (first : Bool) (motion : ℕ) (marked : Bool) (f : ℕ → Option ℕ)
    → motion_of (made_row gs r first motion marked f) ≡ cond first motion 0
unfolding row_of
made-motion gs r first motion marked f = ap motion_of (made-is gs r first motion marked f)

pub made-leads : (gs r : List ℕ) (marked : Bool) (f : ℕ → Option ℕ) → motion_of (made_row gs r true g_one marked f) ≡ g_one
made-leads gs r marked f = made-motion gs r true g_one marked f

-- a row's word is a motion's
pub record Low (row : List ℕ) : Type 0 where
  pub word : motion_of row ≤ last_motion

-- a row of a group that a G1 leads
pub record Fit (gs row : List ℕ) : Type 0 where
  pub spoken : Spoken gs row
  pub low : Low row

fit-silent : {gs row : List ℕ} → motion_of row ≡ 0 → Fit gs row
fit-silent e = record { spoken = silent e; low = record { word = omega (arith, e) } }

fit-straight : {gs row : List ℕ} → motion_of row ≡ g_one → Fit gs row
fit-straight e = record { spoken = straight e; low = record { word = omega (arith, e) } }

pub made-fit : (gs r : List ℕ) (first none : Bool) (marked : Bool) (f : ℕ → Option ℕ) → Fit gs (made_row gs r first (cond none g_one 0) marked f)
made-fit gs r false none marked f = fit-silent (made-motion gs r false _ marked f)
made-fit gs r true false marked f = fit-silent (made-motion gs r true _ marked f)
made-fit gs r true true marked f = fit-straight (made-motion gs r true _ marked f)

pub led-upto : (f : ℕ → List ℕ) (n : ℕ) → motion_of (f 0) ≡ g_one → Led (upto f (suc n))
unfolding upto
led-upto f zero e = here e
led-upto f (suc n) e = led-more (f (suc n) ∷ []) (led-upto f n e)

-- ---- rows unchanged
pub out-unmarked : (r : List ℕ) → Unmarked (out_row r)
out-unmarked r = record { none = out-mark r }

pub out-low : (r : List ℕ) → Low r → Low (out_row r)
out-low r h = record { word = subst (λ (m : ℕ). m ≤ last_motion) (sym (out-motion r)) h.word }

-- a held block: its word is none or a spline's, and a motion's; its presence bits are those of cells
pub record Holdable (r : List ℕ) : Type 0 where
  pub word : (motion_of r ≡ 0) ⊎ (is_spline (motion_of r) ≡ true)
  pub low : Low r
  pub small : present_of r < cell_masks

pub out-fit : (gs r : List ℕ) → Holdable r → has_point gs r ≡ false → Fit gs (out_row r)
out-fit gs r h b = record { spoken = by_word h.word; low = out-low r h.low }
  where
    by_word : (motion_of r ≡ 0) ⊎ (is_spline (motion_of r) ≡ true) → Spoken gs (out_row r)
    by_word (inl e) = silent (out-motion r ∙ e)
    by_word (inr s) = alone (record { unmarked = out-mark r; spline = ap is_spline (out-motion r) ∙ s; pointless = out-point gs r h.small ∙ b })

-- ---- what is said of the rows of a call
pub record Rows (gs : List ℕ) (out : List (List ℕ)) : Type 0 where
  pub only : OnlyBehindLone gs (flatten out)
  pub low : Every Low out

pub rows_none : (gs : List ℕ) → Rows gs []
rows_none gs = record { only = lone-unmarked gs nil nil; low = nil }

-- rows that a G1 leads
pub rows-led : (gs : List ℕ) {out : List (List ℕ)} → Every Long out → Every (Fit gs) out → Led out → Rows gs out
rows-led gs long fit led = record { only = lone-led gs long (every_imp (λ x f. f.spoken) fit) led; low = every_imp (λ x f. f.low) fit }

-- unmarked rows
pub rows-unmarked : (gs : List ℕ) {out : List (List ℕ)} → Every Long out → Every Unmarked out → Every Low out → Rows gs out
rows-unmarked gs long u low = record { only = lone-unmarked gs long u; low = low }
