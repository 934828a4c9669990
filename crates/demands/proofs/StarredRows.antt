-- LAWS. 8.13: the rows worked out by hand, as one theorem over the list. Assumes nothing.
use Rattle.std.specs.Prelude.{◌≡◌, [], ◌∷◌, ◌++◌, map}
use Rattle.demands.specs.Starred.{w10, w30, row, started, turning, chord, circle, bent, tolerances, turns, chords_2, chords_3, circles, bspline}

-- the whole list
pub starred : map started (0 ∷ 0xbff0000000000000 ∷ 0x7ff8000000000000 ∷ 0x7ff0000000000000 ∷ [])
    ∷ map turning (0x408f400000000000 ∷ 0x408f433333333333 ∷ [])
    ∷ map (chord 3) (0x4013fef9db22d0e5 ∷ 0x4013fffffff768fa ∷ [])
    ∷ map (chord 4) (0x4013fef9db22d0e5 ∷ 0x4013fffffff768fa ∷ [])
    ∷ map circle (w10 ∷ w30 ∷ [])
    ∷ bent ∷ []
    ≡ (1 ∷ 1 ∷ 1 ∷ 1 ∷ [])
    ∷ (0 ∷ 5 ∷ [])
    ∷ (3 ∷ 0 ∷ [])
    ∷ (3 ∷ 0 ∷ [])
    ∷ (2 ∷ 1 ∷ [])
    ∷ (0 ∷ 2 ∷ 0 ∷ row 2 2 [] ++ row 3 0 (0 ∷ w10 ∷ 1 ∷ w10 ∷ [])) ∷ []
starred = λ i. tolerances i ∷ turns i ∷ chords_2 i ∷ chords_3 i ∷ circles i ∷ bspline i ∷ []
