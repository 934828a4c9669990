-- DEFINITIONS. Distances and chord sums of points, lists with a number for each channel, over the metric's channels ms. Assumes nothing.
use Rattle.std.specs.Prelude.{ℕ, zero, suc, ◌+◌, cond, List, [], length, get_or, Float}
use Rattle.std.specs.Float.Ieee.{lt}
use Rattle.floats.specs.Numbers.{◌⊕◌, ◌⊖◌, ◌⊗◌, ◌⊘◌, f0, f1, held_in, at}
use Rattle.floats.specs.Lists.{upto}
use Rattle.root.specs.Root.{root}

-- number i of the points
abbrev pub point_of : List (List Float) → ℕ → List Float
point_of pts i = get_or pts i []

-- ---- the metric sums X, Y and Z, or all channels where there are none of them: `..To k` is a running sum after k channels of ms
unfoldable pub dot_to : List Float → List Float → List Float → List ℕ → ℕ → Float
dot_to p a b ms zero = f0
dot_to p a b ms (suc k) = let i = get_or ms k 0 in dot_to p a b ms k ⊕ (at p i ⊖ at a i) ⊗ (at b i ⊖ at a i)

unfoldable pub len_to : List Float → List Float → List ℕ → ℕ → Float
len_to a b ms zero = f0
len_to a b ms (suc k) = let i = get_or ms k 0 in len_to a b ms k ⊕ (at b i ⊖ at a i) ⊗ (at b i ⊖ at a i)

-- where on the chord the nearest point lies: 0 at a, 1 at b
unfoldable pub along : List Float → List Float → List Float → List ℕ → Float
along p a b ms =
    let l = len_to a b ms (length ms) in
    let d = dot_to p a b ms (length ms) in
    cond (lt f0 l) (held_in f0 f1 (d ⊘ l)) f0

abbrev pub miss : List Float → List Float → List Float → Float → ℕ → Float
miss p a b t i = at p i ⊖ (at a i ⊕ t ⊗ (at b i ⊖ at a i))

unfoldable pub dist_to : List Float → List Float → List Float → List ℕ → Float → ℕ → Float
dist_to p a b ms t zero = f0
dist_to p a b ms t (suc k) = let d = miss p a b t (get_or ms k 0) in dist_to p a b ms t k ⊕ d ⊗ d

-- the squared distance of p from the chord, and the distance
abbrev pub deviation2_of : List Float → List Float → List Float → List ℕ → Float
deviation2_of p a b ms = dist_to p a b ms (along p a b ms) (length ms)

unfoldable pub deviation_of : List Float → List Float → List Float → List ℕ → Float
deviation_of p a b ms = root (deviation2_of p a b ms)

-- the chords summed up to point k
unfoldable pub chord_to : List (List Float) → List ℕ → ℕ → Float
chord_to pts ms zero = f0
chord_to pts ms (suc k) = chord_to pts ms k ⊕ root (len_to (point_of pts k) (point_of pts (k + 1)) ms (length ms))

unfoldable pub chords : List (List Float) → List ℕ → List Float
chords pts ms = upto (chord_to pts ms) (length pts)
