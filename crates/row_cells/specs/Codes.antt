-- DEFINITIONS. What plane words mean, and which axes of a list are geometric. Assumes nothing.
use Rattle.std.specs.Prelude.{ℕ, ◌+◌, Bool, cond, ◌&&◌, ◌||◌, List, leb, ltb, eqb}
use Rattle.floats.specs.Lists.{keep}
use Rattle.layout.specs.Layout.{axis_codes, c_offset}

-- plane words: X and Y with I and J; Z and X with K and I; Y and Z with J and K
abbrev pub plane_xy : ℕ
plane_xy = 17

abbrev pub plane_zx : ℕ
plane_zx = 18

abbrev pub plane_yz : ℕ
plane_yz = 19

-- the two axes of a plane; I J K follow X Y Z
unfoldable pub plane_u : ℕ → ℕ
plane_u p = cond (eqb p plane_zx) 2 (cond (eqb p plane_yz) 1 0)

unfoldable pub plane_v : ℕ → ℕ
plane_v p = cond (eqb p plane_zx) 0 (cond (eqb p plane_yz) 2 1)

abbrev pub offset_of : ℕ → ℕ
offset_of axis = c_offset + axis

-- a row's plane word: none, or a plane's
unfoldable pub plane_ok : ℕ → Bool
plane_ok p = eqb p 0 || (leb plane_xy p && leb p plane_yz)

-- the geometric axes of a started list, in its order: N F S D T are none
unfoldable pub geometric_of : List ℕ → List ℕ
geometric_of axes = keep (λ (k : ℕ). ltb k axis_codes) axes
