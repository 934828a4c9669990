-- LAWS. How large the codes of the columns and of the plane words are. Assumes nothing.
use Rattle.std.specs.Prelude.{ℕ, ◌<◌, ◌≡◌, refl, eqb, leb, ltb}
use mathlib.Core.Bool.{Bool, true, false, ◌&&◌}
use Rattle.std.proofs.Common.{arith, leb-true, ltb-true, eqb-true}
use Rattle.layout.specs.Layout.{c_pl}
use Rattle.floats.specs.Lists.{all}
use Rattle.floats.specs.Truth.{all-at}
use Rattle.row_cells.specs.Codes.{plane_xy, plane_yz, plane_ok}
use Rattle.csv_line.specs.LineText.{column_count, code_at}

codes-below : all column_count (λ (k : ℕ). ltb (code_at k) c_pl) ≡ true
unfolding all
codes-below = refl

pub code_below : (i : ℕ) → i < column_count → code_at i < c_pl
code_below i h = ltb-true (code_at i) c_pl (all-at column_count (λ (k : ℕ). ltb (code_at k) c_pl) i codes-below h)

pub plane-low : (p : ℕ) → plane_ok p ≡ true → p < 20
unfolding plane_ok
plane-low p e = go (eqb p 0) (leb plane_xy p) (leb p plane_yz) refl refl e
  where
    go : (a b c : Bool) → eqb p 0 ≡ a → leb p plane_yz ≡ c → mathlib.Core.Bool.◌||◌ a (b && c) ≡ true → p < 20
    go true b c h k e = omega (arith, eqb-true p 0 h)
    go false true true h k e = omega (arith, leb-true p plane_yz k)
    go false true false h k e = absurd (mathlib.Core.Bool.false≢true e)
    go false false c h k e = absurd (mathlib.Core.Bool.false≢true e)
