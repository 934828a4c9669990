-- LAWS. The points of a curve, written one after another. Assumes nothing.
use Prim.Native.Nat.{ℕ, suc, ◌+◌, ◌*◌, ◌-◌, ◌≤◌, ◌<◌}
use Rattle.std.specs.Prelude.{◌≡◌, refl, true, false, get_or, drop, set}
use Rattle.std.proofs.Math.Path.{sym, ap}
use Rattle.std.proofs.Common.{◌∙◌, suc-mul, mul-le-mul_right, one-mul, add_comm, le_trans, add-one, length-append, drop_at, take-add, length-take-le}
use mathlib.Core.List.{List, [], ◌∷◌, ◌++◌, map, map-append, append_assoc, append-nil}
use Rattle.std.proofs.Math.Option
use Rattle.std.proofs.Math.Option.{Option, none, some}
use native.Mathlib.Omega.{arith}
use Rattle.std.proofs.Math.ListN.{length, take, length-map}
use Rattle.std.proofs.Math.Seq.{get_or-take, get_or-drop}
use Rattle.std.specs.Float.Ieee.{Float, nan, lt}
use Rattle.floats.specs.Numbers.{num, f0, f1, 1e-4, at}
use Rattle.floats.specs.Lists.{upto, keep, flatten, opt}
use Rattle.floats.specs.Fill.{length-upto}
use Rattle.floats.specs.Joins.{flatten_append}
use Rattle.layout.specs.Layout.{r_cells, c_pw}
use Rattle.row_cells.specs.Codes.{geometric_of}
use Rattle.row_cells.specs.Bits.{has}
use Rattle.row_cells.specs.Row.{present_of, cell, number, shown, has_point}
use Rattle.spline_points.specs.Points.{first_cell, start_value, next_point, points_from, weight_of}
use Rattle.spline_channels.specs.Channels.{block_at}
use Rattle.spline_channels.specs.Gathers.{Appended}
use Rattle.spline_points.specs.Gathers.{point_before, point_in, points_in, NextPut, PointPut, WeightPut, PointsPut, WeightsPut, PointsAre}
use Rattle.spline_channels.specs.Append.{appended_none, appended_one, appended_then, appended_before, appended_to, appended_upto, appended_as}
use Rattle.spline_channels.specs.Keeps.{keep-yes, keep-no, keep-upto, keep-upto-most}
use Rattle.spline_channels.specs.Flat.{Sized, flat_rows, map_next, sized-cons, flatten-cons}

-- ---- the first value, searched from the last row to the first
unfoldable pub first_or : ℕ → Float → List (List ℕ) → Float
first_or k d [] = d
first_or k d (r ∷ rs) = Option.get_or (number r k) (first_or k d rs)

number_or : (w : Option ℕ) (d : ℕ) → num (Option.get_or w d) ≡ Option.get_or (opt num w) (num d)
number_or none d = refl
number_or (some x) d = refl

pub first-is : (k : ℕ) (rs : List (List ℕ)) → num (first_cell k rs) ≡ first_or k f0 rs
unfolding first_cell first_or number
first-is k [] = refl
first-is k (r ∷ rs) = number_or (cell r k) (first_cell k rs) ∙ ap (Option.get_or (opt num (cell r k))) (first-is k rs)

first_more : (k : ℕ) (d : Float) (rs : List (List ℕ)) (r : List ℕ) → first_or k d (rs ++ (r ∷ [])) ≡ first_or k (Option.get_or (number r k) d) rs
unfolding first_or
first_more k d [] r = refl
first_more k d (x ∷ rs) r = ap (Option.get_or (number x k)) (first_more k d rs r)

pub first_step : (k : ℕ) (d : Float) (f : ℕ → List ℕ) (i j : ℕ) (r : List ℕ) (v : Float) → i ≡ j + 1 → r ≡ f j → v ≡ Option.get_or (number r k) d
    → first_or k d (upto f i) ≡ first_or k v (upto f j)
unfolding upto
first_step k d f i j r v e er ev = rw (e, add-one) (first_more k d (upto f j) (f j) ∙ rw (ev, er))

pub first-end : (k : ℕ) (d : Float) (f : ℕ → List ℕ) (i : ℕ) → i ≡ 0 → first_or k d (upto f i) ≡ d
unfolding upto first_or
first-end k d f i e = rw e

-- ---- the points of one list of rows after another
unfoldable pub last_point : List ℕ → List Float → List (List ℕ) → List Float
last_point cs p [] = p
last_point cs p (r ∷ rs) = last_point cs (next_point cs p r) rs

points_append : (cs : List ℕ) (p : List Float) (rs ss : List (List ℕ))
    → points_from cs p (rs ++ ss) ≡ points_from cs p rs ++ points_from cs (last_point cs p rs) ss
unfolding points_from last_point
points_append cs p [] ss = refl
points_append cs p (r ∷ rs) ss = ap (λ (l : List (List Float)). next_point cs p r ∷ l) (points_append cs (next_point cs p r) rs ss)

next-length : (cs : List ℕ) (p : List Float) (r : List ℕ) → length (next_point cs p r) ≡ length cs
unfolding next_point
next-length cs p r = length-upto _ (length cs)

pub points-sized : (cs : List ℕ) (p : List Float) (rs : List (List ℕ)) → Sized (length cs) (points_from cs p rs)
unfolding Sized points_from
points-sized cs p [] = tt
points-sized cs p (r ∷ rs) = (next-length cs p r, points-sized cs (next_point cs p r) rs)

pub points-length : (cs : List ℕ) (p : List Float) (rs : List (List ℕ)) → length (points_from cs p rs) ≡ length rs
unfolding points_from
points-length cs p [] = refl
points-length cs p (r ∷ rs) = ap suc (points-length cs (next_point cs p r) rs)

-- all numbers but those of the last point
front_of : List ℕ → List Float → List (List ℕ) → List Float
front_of cs p [] = []
front_of cs p (r ∷ rs) = p ++ front_of cs (next_point cs p r) rs

split-last : (cs : List ℕ) (p : List Float) (rs : List (List ℕ)) → p ++ flatten (points_from cs p rs) ≡ front_of cs p rs ++ last_point cs p rs
unfolding points_from last_point front_of flatten
split-last cs p [] = append-nil p
split-last cs p (r ∷ rs) =
    let q : List Float = next_point cs p r in
    ap (λ (l : List Float). p ++ l) (split-last cs q rs) ∙ sym (append_assoc p (front_of cs q rs) (last_point cs q rs))

last-length : (cs : List ℕ) (p : List Float) (rs : List (List ℕ)) → length p ≡ length cs → length (last_point cs p rs) ≡ length cs
unfolding last_point
last-length cs p [] e = e
last-length cs p (r ∷ rs) e = last-length cs (next_point cs p r) rs (next-length cs p r)

-- the last point stands before the place where the next one goes
module _ (cs : List ℕ) (p : List Float) (rs : List (List ℕ)) (lp : length p ≡ length cs) where
  front_length : length (front_of cs p rs) ≡ length (flatten (points_from cs p rs))
  front_length =
      let all : List Float = flatten (points_from cs p rs) in
      let s = sym (length-append p all) ∙ ap length (split-last cs p rs) ∙ length-append (front_of cs p rs) (last_point cs p rs) in
      omega (arith, s, last-length cs p rs lp)

  last-is : (xs ys : List Float) (n : ℕ) → length cs ≤ length xs → take (length cs) xs ≡ p
      → Appended (flatten (points_from cs p rs)) (length cs) xs ys n → n ≤ length ys → point_before cs n ys ≡ last_point cs p rs
  last-is xs ys n lx e a h =
      let L : ℕ = length (flatten (points_from cs p rs)) in
      let en : n ≡ L + length cs = a.count ∙ add_comm (length cs) L in
      let es : n - length cs ≡ L = omega (arith, en) in
      let front : List Float = front_of cs p rs in
      let last : List Float = last_point cs p rs in
      let w : take (L + length cs) ys ≡ front ++ last =
      ap (λ (k : ℕ). take k ys) (sym en) ∙ a.is ∙ ap (λ (l : List Float). l ++ flatten (points_from cs p rs)) e ∙ split-last cs p rs in
      let t : take L ys ++ take (length cs) (drop L ys) ≡ front ++ last = sym (take-add L (length cs) ys) ∙ w in
      let lt : length (take L ys) ≡ L = length-take-le L ys (omega (arith, en)) in
      rw es (sym (drop_at (take L ys) (take (length cs) (drop L ys)) L lt) ∙ ap (drop L) t ∙ drop_at front last L front_length)

-- ---- a point more, where the row has one
pub point_added : (axes row cs : List ℕ) (n : ℕ) (xs ys : List Float) → has_point (geometric_of axes) row ≡ true
    → NextPut cs row (n * length cs) xs ys → PointPut axes row cs n xs ys (n + 1)
unfolding points_from flatten
point_added axes row cs n xs ys h a =
    rw (keep-yes (has_point (geometric_of axes)) row h, add-one, suc-mul)
    (appended_as (sym (append-nil (next_point cs (point_before cs (n * length cs) xs) row))) a)

pub weight_added : (axes row : List ℕ) (n : ℕ) (xs : List Float) (v : Float) → has_point (geometric_of axes) row ≡ true → v ≡ weight_of row
    → n < length xs → WeightPut axes row n xs (set xs n v) (n + 1)
weight_added axes row n xs v h e l = rw (keep-yes (has_point (geometric_of axes)) row h, ← e) (appended_one l)

pub point_unadded : (axes row cs : List ℕ) (n : ℕ) (xs : List Float) → has_point (geometric_of axes) row ≡ false → PointPut axes row cs n xs xs n
unfolding points_from flatten
point_unadded axes row cs n xs h = rw (keep-no (has_point (geometric_of axes)) row h) appended_none

pub weight_unadded : (axes row : List ℕ) (n : ℕ) (xs : List Float) → has_point (geometric_of axes) row ≡ false → WeightPut axes row n xs xs n
weight_unadded axes row n xs h = rw (keep-no (has_point (geometric_of axes)) row h) appended_none

-- room for one more
pub point-room : (n ch l : ℕ) → 1 ≤ n → (n + 1) * ch ≤ l → (ch ≤ n * ch) × (n * ch + ch ≤ l)
point-room n ch l h r = (rw one-mul at (mul-le-mul_right ch h), omega arith)

-- ---- the points and weights of rows, behind the first point and weight
pub points_none : (axes store cs : List ℕ) (xs : List Float) → PointsPut axes store 0 cs xs xs 1
unfolding points_from flatten upto keep
points_none axes store cs xs = rw one-mul appended_none

pub weights-none : (axes store : List ℕ) (xs : List Float) → WeightsPut axes store 0 xs xs 1
unfolding upto keep
weights-none axes store xs = appended_none

-- there are at most as many as rows
weights-few : (axes store : List ℕ) (i : ℕ) (xs ys : List Float) (n : ℕ) → WeightsPut axes store i xs ys n → n ≤ i + 1
weights-few axes store i xs ys n a =
    let rs : List (List ℕ) = points_in axes store i in
    omega (arith, a.count, length-map rs weight_of, keep-upto-most (has_point (geometric_of axes)) (block_at store) i)

-- of `held` rows whose points and weights have room
module _ (axes store cs : List ℕ) (held : ℕ) (xs vs : List Float)
    (wide : (held + 1) * length cs ≤ length xs) (long : held + 1 ≤ length vs) where
  pub points-room : (i : ℕ) (ys us : List Float) (n : ℕ) → i < held → PointsPut axes store i cs xs ys n → WeightsPut axes store i vs us n
      → (1 ≤ n) × (((n + 1) * length cs ≤ length ys) × (n < length us))
  points-room i ys us n h a b =
      let l : n ≤ i + 1 = weights-few axes store i vs us n b in
      let m : (n + 1) * length cs ≤ (held + 1) * length cs = mul-le-mul_right (length cs) (omega arith) in
      (omega (arith, b.count), (le_trans m (omega (arith, a.same)), omega (arith, b.same)))

  pub points-step : (i : ℕ) (row : List ℕ) (ys zs us : List Float) (n r : ℕ) → i < held → row ≡ block_at store i
      → PointsPut axes store i cs xs ys n → WeightsPut axes store i vs us n → PointPut axes row cs n ys zs r → PointsPut axes store (i + 1) cs xs zs r
  points-step i row ys zs us n r h er a w b =
      let room = points-room i ys us n h a w in
      let p : List Float = take (length cs) xs in
      let rs : List (List ℕ) = points_in axes store i in
      let k : List (List ℕ) = point_in axes row in
      let lx : length cs ≤ length xs = omega arith in
      let e : point_before cs (n * length cs) ys ≡ last_point cs p rs =
      last-is cs p rs (length-take-le (length cs) xs lx) xs ys (n * length cs) lx refl a (omega (arith, room.1.0)) in
      let s : flatten (points_from cs p (rs ++ k)) ≡ flatten (points_from cs p rs) ++ flatten (points_from cs (last_point cs p rs) k) =
      ap flatten (points_append cs p rs k) ∙ flatten_append (points_from cs p rs) (points_from cs (last_point cs p rs) k) in
      rw (keep-upto (has_point (geometric_of axes)) (block_at store) i, ← er) (appended_as (sym s) (appended_then a (rw e at b)))

pub weights-step : (axes store : List ℕ) (i : ℕ) (row : List ℕ) (xs ys zs : List Float) (n r : ℕ) → row ≡ block_at store i
    → WeightsPut axes store i xs ys n → WeightPut axes row n ys zs r → WeightsPut axes store (i + 1) xs zs r
weights-step axes store i row xs ys zs n r er a b =
    rw (keep-upto (has_point (geometric_of axes)) (block_at store) i, ← er)
    (appended_as (sym (map-append weight_of (points_in axes store i) (point_in axes row))) (appended_then a b))

-- ---- what the leaves of the code say
pub number-yes : (r : List ℕ) (k : ℕ) (d : Float) → has (present_of r) k ≡ true → num (get_or r (r_cells + k) 0) ≡ Option.get_or (number r k) d
unfolding number cell
number-yes r k d e = rw e

pub number-no : (r : List ℕ) (k : ℕ) (d : Float) → has (present_of r) k ≡ false → d ≡ Option.get_or (number r k) d
unfolding number cell
number-no r k d e = rw e

pub start-yes : (start : ℕ) (words : List ℕ) (bs : List (List ℕ)) (k : ℕ) → has start k ≡ true → num (get_or words k 0) ≡ start_value (shown start words) bs k
unfolding shown
start-yes start words bs k e = rw e

pub start-no : (start : ℕ) (words : List ℕ) (bs : List (List ℕ)) (k : ℕ) → has start k ≡ false → num (first_cell k bs) ≡ start_value (shown start words) bs k
unfolding shown
start-no start words bs k e = rw e

pub weight_low : (r : List ℕ) (w : Float) → w ≡ Option.get_or (number r c_pw) f1 → lt w 1e-4 ≡ true → 1e-4 ≡ weight_of r
unfolding weight_of
weight_low r w e h = rw (← e, h)

pub weight_high : (r : List ℕ) (w : Float) → w ≡ Option.get_or (number r c_pw) f1 → lt w 1e-4 ≡ false → w ≡ weight_of r
unfolding weight_of
weight_high r w e h = rw (← e, h)

-- the start, channel by channel
pub start-step : (f : ℕ → Float) (cs : List ℕ) (c : ℕ) {xs ys : List Float} {v : Float} → c < length cs → c < length xs → v ≡ f (get_or cs c 0)
    → Appended (map f (take c cs)) 0 xs ys c → Appended (map f (take (c + 1) cs)) 0 xs (set ys c v) (c + 1)
start-step f cs c {xs} {ys} {v} h l e a =
    appended_as (sym (map_next f cs c 0 h)) (appended_then a (appended_as (ap (λ (z : Float). z ∷ []) e) (appended_one (omega (arith, a.same)))))

-- the next point, channel by channel: its number c
unfoldable pub next_at : List ℕ → List Float → List ℕ → ℕ → Float
next_at cs p r i = Option.get_or (number r (get_or cs i 0)) (at p i)

pub next-is : (cs : List ℕ) (p : List Float) (r : List ℕ) (k : ℕ) → k ≡ length cs → upto (next_at cs p r) k ≡ next_point cs p r
unfolding next_point next_at
next-is cs p r k e = rw e

module _ (cs row : List ℕ) (xs : List Float) (n : ℕ) (before : length cs ≤ n) (room : n + length cs ≤ length xs) where
  pub next-step : (c : ℕ) {ys : List Float} {v old : Float} → c < length cs → old ≡ at ys (n - length cs + c)
      → v ≡ Option.get_or (number row (get_or cs c 0)) old
      → Appended (upto (next_at cs (point_before cs n xs) row) c) n xs ys (n + c)
      → Appended (upto (next_at cs (point_before cs n xs) row) (c + 1)) n xs (set ys (n + c) v) (n + (c + 1))
  unfolding next_at
  next-step c {ys} {v} {old} h eo ev a =
      let b : ℕ = n - length cs in
      let j : ℕ = b + c in
      let p : List Float = point_before cs n xs in
      let q : old ≡ at p c =
      eo ∙ sym (get_or-take n ys j nan (omega arith)) ∙ ap (λ (l : List Float). at l j) (appended_before a (omega arith)) ∙ get_or-take n xs j nan (omega arith)
      ∙ sym (get_or-take (length cs) (drop b xs) c nan h ∙ get_or-drop b xs c nan) in
      let e : n + c + 1 ≡ n + (c + 1) = omega arith in
      let one : Appended (v ∷ []) (n + c) ys (set ys (n + c) v) (n + c + 1) = appended_one (omega (arith, a.same)) in
      appended_upto (next_at cs p row) c a
      (appended_to (appended_as (ap (λ (z : Float). z ∷ []) (ev ∙ ap (Option.get_or (number row (get_or cs c 0))) q)) one) (sym e))

-- ---- the start and the rows together
module _ (axes store cs : List ℕ) (held : ℕ) (start : ℕ → Option ℕ) where
  first : List Float
  first = map (start_value start (upto (block_at store) held)) cs

  pub points_are : (xs ys zs ws us : List Float) (n : ℕ) → 0 < length ws
      → Appended (map (start_value start (upto (block_at store) held)) cs) 0 xs ys (length cs)
      → PointsPut axes store held cs ys zs n → WeightsPut axes store held (set ws 0 f1) us n
      → PointsAre (geometric_of axes) start (upto (block_at store) held) cs zs us n
  unfolding first
  points_are xs ys zs ws us n h a b w =
      let rs : List (List ℕ) = points_in axes store held in
      let all : List (List Float) = points_from cs first rs in
      let c : n ≡ length rs + 1 = omega (arith, w.count, length-map rs weight_of) in
      let one : Appended (f1 ∷ []) 0 ws (set ws 0 f1) (0 + 1) = appended_one h in
      let t : take 1 (set ws 0 f1) ≡ f1 ∷ [] = one.is in
      let s : Sized (length cs) (first ∷ all) = sized-cons (length cs) first all (length-map cs _) (points-sized cs first rs) in
      let many : n ≡ length (first ∷ all) = c ∙ rw (points-length cs first rs) (add-one (length rs)) in
      record {
        count = c;
        points = flat_rows (length cs) (first ∷ all) zs n s many (b.is ∙ rw a.is (flatten-cons first all));
        weights = w.is ∙ ap (λ (l : List Float). l ++ map weight_of rs) t;
      }
