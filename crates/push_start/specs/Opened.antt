-- DEFINITIONS. The curve start that a block opens and an emission forgets: rules 3.11, 3.16. Assumes nothing.
use Rattle.std.specs.Prelude.{ℕ, ◌+◌, List, ◌∷◌, get_or, set}
use Rattle.std.proofs.Math.Option
use Rattle.floats.specs.Lists.{upto, spliced}
use Rattle.layout.specs.Layout.{axis_codes, w_known, w_start, w_degree, w_held}
use Rattle.saved_state.specs.State.{plain_degree, position}

-- 3.16: nothing is held, and the curve start is forgotten
unfoldable pub forgotten : List ℕ → List ℕ
forgotten st = set (spliced st w_start (upto (λ (k : ℕ). 0) (axis_codes + 1))) w_held 0

-- 3.11: the positions become the curve start, the degree 3
unfoldable pub opened : List ℕ → List ℕ
opened st = set (spliced st w_start (get_or st w_known 0 ∷ upto (λ (k : ℕ). Option.get_or (position st k) 0) axis_codes)) w_degree plain_degree
