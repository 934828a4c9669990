-- LAWS. The lone word of 10.6 is not said for nothing: behind one a marked row does stay curved, rows worked out by hand. Assumes nothing.
use Rattle.std.specs.Prelude.{ℕ, ◌*◌, ◌≡◌, refl, List, [], ◌∷◌, ◌++◌, replicate, set}
use Rattle.layout.specs.Layout.{row_words, r_mark, c_sd}
use Rattle.motion.specs.Motion.{g_one, is_curve, kind_of}
use Rattle.demand_calls.specs.Runs.{pushing, closing}
use Rattle.demands.specs.Starred.{w10, w100, row, asked, from}
use Rattle.still_curved.specs.Curved.{motion_after, motion_behind, shows, still_curved}
use Rattle.still_laws.specs.Statements.{MarkedCurve}

abbrev w1 : ℕ
w1 = 0x3ff0000000000000

abbrev w20 : ℕ
w20 = 0x4034000000000000

-- a B-spline of degree 1 from (0,0) by (10,0) and (10,10) to (20,10), at tolerance 100; behind its first block stands BSPLINE alone
unfoldable pub worded : List ℕ
worded =
    asked w100
    (from 0 0
    ∷ pushing [] (row 2 6 (0 ∷ w10 ∷ 1 ∷ 0 ∷ c_sd ∷ w1 ∷ []))
    ∷ pushing [] (row 3 6 [])
    ∷ pushing [] (row 4 0 (0 ∷ w10 ∷ 1 ∷ w10 ∷ []))
    ∷ pushing [] (row 5 0 (0 ∷ w20 ∷ 1 ∷ w10 ∷ []))
    ∷ closing (replicate (4 * row_words) 7) ∷ [])

-- the four rows of its close: G1 and marked, the lone word, marked, unmarked
unfoldable pub rows : List ℕ
rows =
    set (row 2 g_one (0 ∷ w10 ∷ 1 ∷ 0 ∷ [])) r_mark 1
    ++ (row 3 6 [] ++ (set (row 4 0 (0 ∷ w10 ∷ 1 ∷ w10 ∷ [])) r_mark 1 ++ row 5 0 (0 ∷ w20 ∷ 1 ∷ w10 ∷ [])))

pub written : worded ≡ 0 ∷ 4 ∷ 0 ∷ rows
unfolding worded rows asked from row
written = refl

-- the third of them, whatever was in force before
pub occurs : (m : ℕ) → MarkedCurve m rows 2
unfolding rows row shows still_curved motion_behind motion_after is_curve kind_of
occurs m = record { marked = refl; curved = refl }
