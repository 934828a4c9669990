-- LAWS. Places that are near the origin, and the text of a number's place: it is the number's own text. Assumes nothing.
use Rattle.std.specs.Prelude.{ℕ, ◌+◌, ◌-◌, ◌/◌, ◌≤◌, ◌<◌, ◌≡◌, refl, Bool, true, false, cond, ◌&&◌, ◌∷◌, leb, ltb, length, Float}
use Rattle.std.proofs.Common.{ap, ◌∙◌, length-append, lt-ltb, le-ltb, le-leb, ltb-true, leb-true}
use native.Mathlib.Omega.{arith}
use Rattle.std.proofs.Math.Decide.{dec_lt}
use Rattle.std.specs.Float.Ieee.{lt}
use Rattle.std.proofs.lemmas.Bool.{lt-leb}
use Rattle.floats.specs.Numbers.{num}
use Rattle.csv_decimal.specs.Decimal.{millionths}
use Rattle.csv_decimal.specs.Widths.{width-nine}
use Rattle.csv_figures.specs.Write.{figures, whole_text, millionths_text, number_text, shown}
use Rattle.csv_figures.specs.Figures.{figures-length}
use Rattle.csv_figures.specs.Writers.{whole_length}
use Rattle.picture_place.specs.Place.{origin, farthest, near, place_of, place_text, place_room}

pub near-small : (v : ℕ) → v ≤ farthest → near v ≡ v
unfolding near
near-small v h = rw (le-leb v farthest h)

pub near_large : (v : ℕ) → farthest < v → near v ≡ farthest
unfolding near
near_large v h = rw (lt-leb v farthest h)

module _ (m : ℕ) (small : m ≤ farthest) where
  text-above : place_text (origin + m) ≡ millionths_text m
  unfolding place_text
  text-above =
      let e : origin + m - origin ≡ m = omega arith in
      rw (le-ltb (origin + m) origin (omega arith), e, near-small m small)

  text-below : 0 < m → place_text (origin - m) ≡ 45 ∷ millionths_text m
  unfolding place_text
  text-below p =
      let e : origin - (origin - m) ≡ m = omega arith in
      rw (lt-ltb (origin - m) origin (omega arith), e, near-small m small)

  text-zero : m ≤ 0 → place_text (origin - m) ≡ millionths_text m
  text-zero z = let e : origin - m ≡ origin + m = omega arith in ap place_text e ∙ text-above

-- the file's own numbers: what a number is written as in a row is what it is written as in a picture
pub place-text : (x : Float) → shown x ≡ true → place_text (place_of x) ≡ number_text x
unfolding place_of number_text
place-text x h =
    let low : millionths x ≤ farthest = omega (arith, ltb-true (millionths x) 1000000000000000 h) in
    rw (near-small (millionths x) low) (go (lt x (num 0)) low (dec_lt 0 (millionths x)))
  where
    go : (b : Bool) → millionths x ≤ farthest → Dec (0 < millionths x)
        → place_text (cond b (origin - millionths x) (origin + millionths x))
        ≡ cond (b && ltb 0 (millionths x)) (45 ∷ millionths_text (millionths x)) (millionths_text (millionths x))
    go false l d = text-above (millionths x) l
    go true l (yes p) = rw (lt-ltb 0 (millionths x) p) (text-below (millionths x) l p)
    go true l (no p) = let z : millionths x ≤ 0 = omega arith in rw (le-ltb 0 (millionths x) z) (text-zero (millionths x) l z)

-- ---- how long the text of a place is
pub near_within : (v : ℕ) → near v ≤ farthest
unfolding near
near_within v = go (leb v farthest) refl
  where
    go : (b : Bool) → leb v farthest ≡ b → cond b v farthest ≤ farthest
    go true e = leb-true v farthest e
    go false e = omega arith

pub millionths-short : (n : ℕ) → n ≤ farthest → length (millionths_text n) ≤ 16
unfolding millionths_text
millionths-short n h =
    let a = length-append (whole_text (n / 1000000)) (46 ∷ figures 6 n) in
    let w = width-nine (n / 1000000) (omega arith) in
    omega (arith, whole_length (n / 1000000), figures-length 6 n)

pub place_short : (p : ℕ) → length (place_text p) ≤ place_room
unfolding place_text
place_short p = go (ltb p origin)
  where
    go : (b : Bool) → length (cond b (45 ∷ millionths_text (near (origin - p))) (millionths_text (near (p - origin)))) ≤ place_room
    go true = omega (arith, millionths-short (near (origin - p)) (near_within (origin - p)))
    go false = omega (arith, millionths-short (near (p - origin)) (near_within (p - origin)))
