-- LAWS. Places before and behind a block: there and back, how far they go, what the code makes of them. Assumes nothing.
use Prim.Native.Nat.{ℕ, zero, suc, ◌+◌, ◌*◌, ◌-◌, ◌≤◌, ◌<◌}
use Rattle.std.specs.Prelude.{◌≡◌, refl, Bool, List, [], ◌∷◌, length, get_or}
use Rattle.std.proofs.Common.{sym, ◌∙◌, ap, ⊎_elim, le_refl, le_trans, le_of_suc-le-suc, eq-or-lt_of_le, add-one, length-append, eq-eqb, ne_eqb}
use Rattle.std.proofs.Math.Bool.{true, false}
use native.Mathlib.Omega.{arith}
use Rattle.floats.specs.Lists.{upto, keep}
use Rattle.floats.specs.Joins.{keep_append}
use Rattle.layout.specs.Layout.{most_held}
use Rattle.row_cells.specs.Row.{has_point}
use Rattle.spline_channels.specs.Keeps.{keep-upto-most, keep-yes, keep-no}
use Rattle.spline_places.specs.declared.place.Place.{Place}
use Rattle.spline_places.specs.Sizes.{size_of, samples_of, moved, unmoved, place_to}
use Rattle.spline_places.specs.Places.{most_run, most_rows, Few, Behind}

-- ---- the rows of a block with c samples
pub size_zero : (c : ℕ) → c ≡ 0 → 1 ≡ size_of c
unfolding size_of
size_zero c e = rw (eq-eqb c 0 e)

pub size_some : (c : ℕ) → (c ≡ 0 → ⊥) → c ≡ size_of c
unfolding size_of
size_some c h = rw (ne_eqb c 0 h)

pub size_most : (c : ℕ) → (c ≤ size_of c) × (size_of c ≤ c + 1)
unfolding size_of
size_most zero = (omega arith, omega arith)
size_most (suc c) = rw (ne_eqb (suc c) 0 (λ e. omega arith)) (omega arith, omega arith)

pub size_least : (c : ℕ) → 1 ≤ size_of c
unfolding size_of
size_least zero = omega arith
size_least (suc c) = rw (ne_eqb (suc c) 0 (λ e. omega arith)) (omega arith)

-- ---- there and back
same_place : {a b c x y z : ℕ} → a ≡ x → b ≡ y → c ≡ z
    → ◌≡◌ {A = Place} (record { rows = a; samples = b; points = c }) (record { rows = x; samples = y; points = z })
same_place p q r = rw (p, q, r)

pub back : (point : Bool) (counts : List ℕ) (p : Place) → unmoved point counts (moved point counts p) ≡ p
unfolding moved unmoved
back false counts p = same_place (omega arith) refl refl
back true counts p =
    let e : p.points + 1 - 1 ≡ p.points = omega arith in
    rw e (same_place (omega arith) (omega arith) refl)

pub behind-plain : (point : Bool) (counts : List ℕ) (p : Place) → point ≡ false → Behind point counts p → 1 ≤ p.rows
unfolding moved
behind-plain point counts p e b =
    let m : p ≡ moved false counts b.before = b.is ∙ rw e in
    let r : p.rows ≡ b.before.rows + 1 = ap (λ (q : Place). q.rows) m in
    omega arith

-- the block before the place has a point: what lies there can be taken back
pub record Room (counts : List ℕ) (p : Place) : Type 0 where
  pub some : 1 ≤ p.points
  pub known : p.points - 1 < length counts
  pub rows : size_of (get_or counts (p.points - 1) 0) ≤ p.rows
  pub samples : get_or counts (p.points - 1) 0 ≤ p.samples

pub behind-point : (point : Bool) (counts : List ℕ) (p : Place) → point ≡ true → Behind point counts p → Room counts p
unfolding moved
behind-point point counts p t b =
    let q : Place = b.before in
    let m : p ≡ moved true counts q = b.is ∙ rw t in
    let j : p.points ≡ q.points + 1 = ap (λ (q : Place). q.points) m in
    let e : p.points - 1 ≡ q.points = omega arith in
    let r : p.rows ≡ q.rows + size_of (get_or counts q.points 0) = ap (λ (q : Place). q.rows) m in
    let s : p.samples ≡ q.samples + get_or counts q.points 0 = ap (λ (q : Place). q.samples) m in
    record { some = omega arith; known = rw e b.known; rows = rw e (omega arith); samples = rw e (omega arith) }

-- ---- one block more
pub moved-rows : (point : Bool) (counts : List ℕ) (p : Place) → (moved point counts p).rows ≡ p.rows + size_of (samples_of point counts p.points)
unfolding moved samples_of size_of
moved-rows false counts p = refl
moved-rows true counts p = refl

moved-samples : (point : Bool) (counts : List ℕ) (p : Place) → (moved point counts p).samples ≡ p.samples + samples_of point counts p.points
unfolding moved samples_of
moved-samples false counts p = omega arith
moved-samples true counts p = refl

pub place-next : (gs counts : List ℕ) (f : ℕ → List ℕ) (i : ℕ) → place_to gs counts f (i + 1) ≡ moved (has_point gs (f i)) counts (place_to gs counts f i)
unfolding place_to
place-next gs counts f i = rw add-one

-- ---- how far they go: never more samples than rows
order-moved : (point : Bool) (counts : List ℕ) (p : Place) → p.samples ≤ p.rows → (moved point counts p).samples ≤ (moved point counts p).rows
order-moved point counts p h =
    rw (moved-rows point counts p, moved-samples point counts p) (omega (arith, (size_most (samples_of point counts p.points)).0))

pub place-order : (gs counts : List ℕ) (f : ℕ → List ℕ) (i : ℕ) → (place_to gs counts f i).samples ≤ (place_to gs counts f i).rows
unfolding place_to
place-order gs counts f zero = omega arith
place-order gs counts f (suc i) = order-moved (has_point gs (f i)) counts (place_to gs counts f i) (place-order gs counts f i)

grows : (point : Bool) (counts : List ℕ) (p : Place) → p.rows ≤ (moved point counts p).rows
grows point counts p = rw (moved-rows point counts p) (omega arith)

pub place_mono : (gs counts : List ℕ) (f : ℕ → List ℕ) (n i : ℕ) → i ≤ n → (place_to gs counts f i).rows ≤ (place_to gs counts f n).rows
unfolding place_to
place_mono gs counts f zero i h = let e : i ≡ 0 = omega arith in rw e (omega arith)
place_mono gs counts f (suc n) i h = ⊎_elim
    (λ (e : i ≡ suc n). rw e (le_refl _))
    (λ (l : i < suc n). le_trans (place_mono gs counts f n i (le_of_suc-le-suc l)) (grows (has_point gs (f n)) counts (place_to gs counts f n)))
    (eq-or-lt_of_le h)

module _ (counts : List ℕ) (h : Few counts) where
  moved-few : (point : Bool) (p : Place) (n : ℕ) → p.rows ≤ n * (most_run + 1) → (moved point counts p).rows ≤ suc n * (most_run + 1)
  unfolding moved
  moved-few false p n l = omega arith
  moved-few true p n l = omega (arith, h.few p.points, (size_most (get_or counts p.points 0)).1)

  rows_few : (gs : List ℕ) (f : ℕ → List ℕ) (i : ℕ) → (place_to gs counts f i).rows ≤ i * (most_run + 1)
  unfolding place_to
  rows_few gs f zero = omega arith
  rows_few gs f (suc i) = moved-few (has_point gs (f i)) (place_to gs counts f i) i (rows_few gs f i)

  pub place-few : (gs : List ℕ) (f : ℕ → List ℕ) (i : ℕ)
      → ((place_to gs counts f i).rows ≤ i * (most_run + 1)) × ((place_to gs counts f i).samples ≤ (place_to gs counts f i).rows)
  place-few gs f i = (rows_few gs f i, place-order gs counts f i)

moved-points : (b : Bool) (counts : List ℕ) (p : Place) (r : List ℕ) (q : List ℕ → Bool) → q r ≡ b
    → (moved b counts p).points ≡ p.points + length (keep q (r ∷ []))
unfolding moved
moved-points true counts p r q e = rw (keep-yes q r e)
moved-points false counts p r q e = rw (keep-no q r e) (omega arith)

pub place-points : (gs counts : List ℕ) (f : ℕ → List ℕ) (i : ℕ) → (place_to gs counts f i).points ≡ length (keep (has_point gs) (upto f i))
unfolding place_to upto keep
place-points gs counts f zero = refl
place-points gs counts f (suc i) =
    moved-points (has_point gs (f i)) counts (place_to gs counts f i) (f i) (has_point gs) refl
    ∙ ap (λ (n : ℕ). n + length (keep (has_point gs) (f i ∷ []))) (place-points gs counts f i)
    ∙ sym (length-append (keep (has_point gs) (upto f i)) (keep (has_point gs) (f i ∷ [])))
    ∙ ap length (sym (keep_append (has_point gs) (upto f i) (f i ∷ [])))

pub place-known : (gs counts : List ℕ) (f : ℕ → List ℕ) (i : ℕ) → (place_to gs counts f i).points ≤ i
place-known gs counts f i = rw (place-points gs counts f i) (keep-upto-most (has_point gs) f i)

-- ---- what the code makes of a place
pub moved_plain : (point : Bool) (counts : List ℕ) (p : Place) → point ≡ false
    → record { rows = p.rows + 1; samples = p.samples; points = p.points } ≡ moved point counts p
unfolding moved
moved_plain point counts p e = rw e

pub moved-point : (point : Bool) (counts : List ℕ) (p : Place) (z : ℕ) → point ≡ true → z ≡ size_of (get_or counts p.points 0)
    → record { rows = p.rows + z; samples = p.samples + get_or counts p.points 0; points = p.points + 1 } ≡ moved point counts p
unfolding moved
moved-point point counts p z e ez = rw (e, ez)

pub unmoved-plain : (point : Bool) (counts : List ℕ) (p : Place) → point ≡ false
    → record { rows = p.rows - 1; samples = p.samples; points = p.points } ≡ unmoved point counts p
unfolding unmoved
unmoved-plain point counts p e = rw e

pub unmoved-point : (point : Bool) (counts : List ℕ) (p : Place) (z : ℕ) → point ≡ true → z ≡ size_of (get_or counts (p.points - 1) 0)
    → record { rows = p.rows - z; samples = p.samples - get_or counts (p.points - 1) 0; points = p.points - 1 } ≡ unmoved point counts p
unfolding unmoved
unmoved-point point counts p z e ez = rw (e, ez)

pub place-step : (gs counts : List ℕ) (f : ℕ → List ℕ) (i : ℕ) (b : Bool) (row : List ℕ) (p r : Place)
    → r ≡ moved b counts p → b ≡ has_point gs row → row ≡ f i → p ≡ place_to gs counts f i → r ≡ place_to gs counts f (i + 1)
place-step gs counts f i b row p r e eb er ep = e ∙ rw (eb, er, ep) (sym (place-next gs counts f i))

pub place-room : (gs counts : List ℕ) (f : ℕ → List ℕ) (i : ℕ) (p : Place) → Few counts → i < most_held → i < length counts → p ≡ place_to gs counts f i
    → ((p.points < length counts) × Few counts) × ((p.rows ≤ most_rows) × (p.samples ≤ most_rows))
place-room gs counts f i p h l k e =
    let a = place-few counts h gs f i in
    rw e ((omega (arith, place-known gs counts f i), h), (omega (arith, a.0), omega (arith, a.0, a.1)))
