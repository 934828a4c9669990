-- DEFINITIONS. The channels that distances are measured over. Assumes nothing.
use Rattle.std.specs.Prelude.{ℕ, cond, List, leb, eqb, length, get_or}
use Rattle.floats.specs.Lists.{upto, keep}

-- X, Y and Z are the codes up to this one
abbrev pub last_xyz : ℕ
last_xyz = 2

-- distances go by the X, Y and Z channels, by all where there is none of them; here their places
unfoldable pub metric_of : List ℕ → List ℕ
metric_of cs =
    let every = upto (λ (i : ℕ). i) (length cs) in
    let xyz = keep (λ (i : ℕ). leb (get_or cs i 0) last_xyz) every in
    cond (eqb (length xyz) 0) every xyz
