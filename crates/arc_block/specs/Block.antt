-- CONTRACTS. What an arc block says, over the plane's two axes and masks: the definition's tests as the code makes them. Assumes nothing.
use Rattle.std.specs.Prelude.{ℕ, Bool, ◌&&◌, ◌||◌, not, List, get_or, eqb}
use Rattle.std.proofs.Math.Option
use Rattle.floats.specs.Numbers.{num}
use Rattle.layout.specs.Layout.{c_cr}
use Rattle.row_cells.specs.Codes.{offset_of}
use Rattle.row_cells.specs.Bits.{has}
use Rattle.row_cells.specs.Row.{cell, number, present_of, has_point}
use Rattle.arc_centre.specs.Centre.{Ends, Centre, centre_of, wide_centre}

unfoldable pub silent_at : List ℕ → ℕ → ℕ → List ℕ → Bool
silent_at gs u v r = not (has_point gs r || (has (present_of r) (offset_of u) || (has (present_of r) (offset_of v) || has (present_of r) c_cr)))

unfoldable pub holds : ℕ → ℕ → ℕ → ℕ → ℕ → ℕ → Bool
holds gs present known u v k = (has gs k && has present k) && (not (has known k) && (not (eqb k u) && not (eqb k v)))

-- start and end on the plane's axes, where both starts are known
unfoldable pub ends_at : List ℕ → List ℕ → ℕ → ℕ → Ends
ends_at r at u v = record {
  su = num (get_or at u 0);
  sv = num (get_or at v 0);
  eu = num (Option.get_or (cell r u) (get_or at u 0));
  ev = num (Option.get_or (cell r v) (get_or at v 0));
}

-- the centre that the code looks for
abbrev pub centre_at : Bool → Ends → ℕ → ℕ → List ℕ → Centre
centre_at cw e u v r = wide_centre e (centre_of cw e (number r (offset_of u)) (number r (offset_of v)) (number r c_cr))
