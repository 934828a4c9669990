-- LAWS. The groups of a spline, as the code writes them: the same rows, and their number. Assumes nothing.
use Prim.Native.Nat.{ℕ, zero, suc, ◌+◌, ◌≤◌, ◌<◌}
use Rattle.std.specs.Prelude.{◌≡◌, Bool, ◌||◌, eqb, Float}
use Rattle.std.proofs.Math.Path.{refl, sym, ap, ap₂}
use Rattle.std.proofs.Common.{◌∙◌, ⊎_elim, eq-or-lt_of_le, le_refl, le_trans, le_of_suc-le-suc, arith, take-suc, take_all, get_or-append-add}
use Rattle.std.proofs.Math.Bool.{true, false, cond}
use Rattle.std.proofs.lemmas.Bool.{false≢true}
use mathlib.Core.List.{List, [], ◌∷◌, ◌++◌, map, append-nil}
use Rattle.std.proofs.Math.Option.{none, some}
use Rattle.std.proofs.Math.Numerals.{add-one}
use Rattle.std.proofs.Math.ListN.{length, get_or, take, drop, length-append, get_or-append}
use Rattle.std.proofs.lemmas.List.{take-append-le}
use Rattle.std.proofs.Math.Seq.{split_at}
use Rattle.std.specs.Float.Ieee.{nan}
use Rattle.layout.specs.Layout.{axis_masks}
use Rattle.floats.specs.Numbers.{bits, at}
use Rattle.floats.specs.Lists.{upto, keep, member, flatten}
use Rattle.floats.specs.Fill.{length-upto, at-upto, upto-below}
use Rattle.floats.specs.Joins.{flatten_append}
use Rattle.row_cells.specs.Bits.{has}
use Rattle.row_cells.specs.Row.{axes_of, has_point, out_row}
use Rattle.row_made.specs.MadeLaws.{made-same}
use Rattle.row_cells.specs.Masks.{member-small}
use Rattle.spline_channels.specs.Flat.{Sized}
use Rattle.spline_channels.specs.Channels.{Spline, channels, place_of}
use Rattle.spline_places.specs.declared.frame.Frame.{Frame}
use Rattle.spline_places.specs.declared.place.Place.{Place}
use Rattle.spline_places.specs.Groups.{is_bspline, sample_cell, own_cell, is_marked, point_group, held_group}
use Rattle.spline_places.specs.Sizes.{size_of, moved, place_to, samples_of}
use Rattle.spline_places.specs.SizeLaws.{place-next, place-points, moved-rows}
use Rattle.spline_marks.specs.Marks.{raw_mark, raw_motion}
use Rattle.spline_sample.specs.Raw.{raw_cell, raw_own, raw_row, bare_row}
use Rattle.spline_rows.specs.RawBlocks.{raw_group, raw_block, raw_held}
use Rattle.spline_curve.specs.Widths.{get_d_map, sized-at}

-- ---- lists
flat-flat : {A : Type 0} (g : ℕ → List (List A)) (n : ℕ) → flatten (flatten (upto g n)) ≡ flatten (upto (λ (i : ℕ). flatten (g i)) n)
unfolding upto flatten
flat-flat g zero = refl
flat-flat g (suc n) =
    ap flatten (flatten_append (upto g n) (g n ∷ []) ∙ ap (λ (l : List (List _)). flatten (upto g n) ++ l) (append-nil (g n)))
    ∙ flatten_append (flatten (upto g n)) (g n) ∙ ap (λ (l : List _). l ++ flatten (g n)) (flat-flat g n)
    ∙ ap (λ (l : List _). flatten (upto (λ (i : ℕ). flatten (g i)) n) ++ l) (sym (append-nil (flatten (g n))))
    ∙ sym (flatten_append (upto (λ (i : ℕ). flatten (g i)) n) (flatten (g n) ∷ []))

take-upto : {A : Type 0} (f : ℕ → A) (n i : ℕ) → i ≤ n → take i (upto f n) ≡ upto f i
unfolding upto
take-upto f zero i h = let e : i ≡ 0 = omega arith in rw e
take-upto f (suc n) i h = ⊎_elim
    (λ (e : i ≡ suc n). rw e (take_all (suc n) (upto f (suc n)) (rw (length-upto f (suc n)) (le_refl (suc n)))))
    (λ (l : i < suc n). take-append-le i (upto f n) (f n ∷ []) (rw (length-upto f n) (le_of_suc-le-suc l)) ∙ take-upto f n i (le_of_suc-le-suc l))
    (eq-or-lt_of_le h)

-- element t of list j stands behind the lists before j
module _ {A : Type 0} (xss : List (List A)) (j t : ℕ) (d : A) (lj : j < length xss) (lt : t < length (get_or xss j [])) where
  flat-split : flatten xss ≡ flatten (take j xss) ++ (get_or xss j [] ++ flatten (drop (suc j) xss))
  unfolding flatten
  flat-split = ap flatten (split_at xss j [] lj) ∙ flatten_append (take j xss) (get_or xss j [] ∷ drop (suc j) xss)

  flat-at : get_or (flatten xss) (length (flatten (take j xss)) + t) d ≡ get_or (get_or xss j []) t d
  flat-at =
      ap (λ (l : List A). get_or l (length (flatten (take j xss)) + t) d) flat-split
      ∙ get_or-append-add (flatten (take j xss)) (get_or xss j [] ++ flatten (drop (suc j) xss)) t d
      ∙ get_or-append (get_or xss j []) (flatten (drop (suc j) xss)) d t lt

  flat_in : length (flatten (take j xss)) + t < length (flatten xss)
  flat_in =
      let e : length (flatten xss) ≡ length (flatten (take j xss)) + (length (get_or xss j []) + length (flatten (drop (suc j) xss))) =
      ap length flat-split ∙ length-append (flatten (take j xss)) (get_or xss j [] ++ flatten (drop (suc j) xss))
      ∙ ap (λ (k : ℕ). length (flatten (take j xss)) + k) (length-append (get_or xss j []) (flatten (drop (suc j) xss))) in
      omega arith

sized-flat-part : (n : ℕ) (xss : List (List (List Float))) → Sized n (flatten xss) → (j t : ℕ) → j < length xss → t < length (get_or xss j [])
    → length (get_or (get_or xss j []) t []) ≡ n
sized-flat-part n xss s j t lj lt =
    sym (ap length (flat-at xss j t [] lj lt)) ∙ sized-at n (flatten xss) (length (flatten (take j xss)) + t) s (flat_in xss j t [] lj lt)

-- ---- the place of a channel
pub place-below : (k : ℕ) (cs : List ℕ) → member k cs ≡ true → place_of k cs < length cs
unfolding place_of member
place-below k [] m = absurd (false≢true m)
place-below k (c ∷ cs) m = one (eqb c k) m (place-below k cs)
  where
    one : (b : Bool) → (b || member k cs) ≡ true → (member k cs ≡ true → place_of k cs < length cs) → cond b 0 (place_of k cs + 1) < suc (length cs)
    one true e h = omega arith
    one false e h = omega (arith, h e)

-- ---- the masks, places and counts are the spline's
pub record Lies (s : Spline) (runs : List (List (List Float))) (o : Frame) (places counts : List ℕ) : Type 0 where
  pub small : o.axes < axis_masks
  pub axes : (k : ℕ) → has o.axes k ≡ member k s.axes
  pub mask : (k : ℕ) → has o.mask k ≡ member k (channels s)
  pub placed : (k : ℕ) → has o.mask k ≡ true → get_or places k 0 ≡ place_of k (channels s)
  pub basis : o.basis ≡ is_bspline s
  pub points : o.points ≡ length runs
  pub counted : (j : ℕ) → j < length runs → get_or counts j 0 ≡ length (get_or runs j [])

module _ (s : Spline) (runs : List (List (List Float))) (o : Frame) (places counts : List ℕ) (h : Lies s runs o places counts) where
  same-axes : (k : ℕ) → member k s.axes ≡ member k (axes_of o.axes)
  same-axes k = sym (member-small o.axes k h.small ∙ h.axes k)

  same-own : (r : List ℕ) (k : ℕ) → own_cell s r k ≡ raw_own o r k
  unfolding own_cell raw_own
  same-own r k = rw (h.axes k, h.basis)

  same_sample : (p : List Float) (k : ℕ) → length p ≡ length (channels s) → sample_cell (channels s) p k ≡ raw_cell o.mask places (map bits p) k
  unfolding sample_cell raw_cell
  same_sample p k e = rw (← (h.mask k)) (one (has o.mask k) refl)
    where
      one : (b : Bool) → has o.mask k ≡ b
          → cond b (some (bits (at p (place_of k (channels s))))) none ≡ cond b (some (get_or (map bits p) (get_or places k 0) 0)) none
      one false q = refl
      one true q = ap some (sym (ap (λ (i : ℕ). get_or (map bits p) i 0) (h.placed k q)
          ∙ get_d_map bits p (place_of k (channels s)) nan 0 (rw e (place-below k (channels s) (sym (h.mask k) ∙ q)))))

  same_group : (j c : ℕ) (run : List (List Float)) (r : List ℕ) (raw : ℕ → List ℕ) → c ≡ length run
      → ((t : ℕ) → t < c → raw t ≡ map bits (get_or run t [])) → ((t : ℕ) → t < c → length (get_or run t []) ≡ length (channels s))
      → point_group s (channels s) (length runs) j run r ≡ raw_group o places j c r raw
  unfolding point_group raw_group bare_row raw_row raw_motion raw_mark is_marked
  same_group j c run r raw ec er ew = rw (← ec)
      (ap₂ (λ (a b : List (List ℕ)). cond (eqb c 0) a b)
      (ap (λ (x : List ℕ). x ∷ [])
      (made-same s.axes (axes_of o.axes) r true _ false (own_cell s r) (raw_own o r) (λ k l. same-axes k) (λ k l. same-own r k)))
      (upto-below _ _ c (λ t l.
      rw (← h.basis, ← h.points, er t l)
      (made-same s.axes (axes_of o.axes) r (eqb t 0) _ _ _ _ (λ k l. same-axes k) (λ k m. same_sample (get_or run t []) k (ew t l))))))

points_grow : (point : Bool) (counts : List ℕ) (p : Place)
    → (p.points ≤ (moved point counts p).points) × (point ≡ true → (moved point counts p).points ≡ p.points + 1)
unfolding moved
points_grow true counts p = (omega arith, λ e. refl)
points_grow false counts p = (omega arith, λ e. absurd (false≢true e))

points_mono : (gs counts : List ℕ) (f : ℕ → List ℕ) (n i : ℕ) → i ≤ n → (place_to gs counts f i).points ≤ (place_to gs counts f n).points
unfolding place_to
points_mono gs counts f zero i h = let e : i ≡ 0 = omega arith in rw e (omega arith)
points_mono gs counts f (suc n) i h = ⊎_elim
    (λ (e : i ≡ suc n). rw e (le_refl _))
    (λ (l : i < suc n). le_trans (points_mono gs counts f n i (le_of_suc-le-suc l)) (points_grow (has_point gs (f n)) counts (place_to gs counts f n)).0)
    (eq-or-lt_of_le h)

-- block i < n with a point is one of the first m point blocks, where n blocks have m
point-known : (gs counts : List ℕ) (f : ℕ → List ℕ) (n m i : ℕ) → i < n → has_point gs (f i) ≡ true → m ≡ length (keep (has_point gs) (upto f n))
    → (place_to gs counts f i).points < m
point-known gs counts f n m i l e em =
    let p : Place = place_to gs counts f i in
    let g : (place_to gs counts f (i + 1)).points ≡ p.points + 1 =
    ap (λ (p : Place). p.points) (place-next gs counts f i) ∙ (points_grow (has_point gs (f i)) counts p).1 e in
    omega (arith, points_mono gs counts f n (i + 1) (omega arith), place-points gs counts f n)

-- the samples before a block are those of the runs before it
module _ (gs counts : List ℕ) (f : ℕ → List ℕ) (runs : List (List (List Float)))
    (is : (j : ℕ) → j < length runs → get_or counts j 0 ≡ length (get_or runs j [])) where
  moved_sum : (b : Bool) (p : Place) → (b ≡ true → p.points < length runs) → p.samples ≡ length (flatten (take p.points runs))
      → (moved b counts p).samples ≡ length (flatten (take (moved b counts p).points runs))
  unfolding moved flatten
  moved_sum false p l e = e
  moved_sum true p l e =
      let k : p.points < length runs = l refl in
      let d : take (p.points + 1) runs ≡ take p.points runs ++ (get_or runs p.points [] ∷ []) = rw add-one (take-suc runs p.points [] k) in
      let before : List (List (List Float)) = take p.points runs in
      let run : List (List Float) = get_or runs p.points [] in
      ap₂ (λ (a b : ℕ). a + b) e (is p.points k)
      ∙ sym (ap (λ (l : List (List (List Float))). length (flatten l)) d
      ∙ ap length (flatten_append before (run ∷ []) ∙ ap (λ (l : List (List Float)). flatten before ++ l) (append-nil run))
      ∙ length-append (flatten before) run)

  pub place-sum : (n : ℕ) → length runs ≡ length (keep (has_point gs) (upto f n)) → (i : ℕ) → i ≤ n
      → (place_to gs counts f i).samples ≡ length (flatten (take (place_to gs counts f i).points runs))
  unfolding place_to flatten
  place-sum n em zero h = refl
  place-sum n em (suc i) h =
      moved_sum (has_point gs (f i)) (place_to gs counts f i) (λ e. point-known gs counts f n (length runs) i h e em) (place-sum n em i (omega arith))

-- ---- of the held blocks f 0, f 1, ..
module _ (s : Spline) (runs : List (List (List Float))) (o : Frame) (places counts : List ℕ) (h : Lies s runs o places counts)
    (f : ℕ → List ℕ) (held : ℕ) (blocks : s.blocks ≡ upto f held) (many : length runs ≡ length (keep (has_point s.axes) (upto f held)))
    (wide : Sized (length (channels s)) (flatten runs)) (raw : ℕ → List ℕ) (is : (q : ℕ) → q < length (flatten runs)
    → raw q ≡ map bits (get_or (flatten runs) q [])) where
  same_block : (i : ℕ) → i < held → (b : Bool) → has_point s.axes (f i) ≡ b → (j : ℕ) → j ≡ (place_to s.axes counts f i).points
      → cond b (point_group s (channels s) (length runs) j (get_or runs j []) (f i)) (out_row (f i) ∷ [])
      ≡ raw_block o places b j (get_or counts j 0) (f i) (λ (t : ℕ). raw ((place_to s.axes counts f i).samples + t))
  unfolding raw_block
  same_block i l false e j ej = refl
  same_block i l true e j ej =
      let lj : j < length runs = rw ej (point-known s.axes counts f held (length runs) i l e many) in
      let sum : (place_to s.axes counts f i).samples ≡ length (flatten (take j runs)) =
      place-sum s.axes counts f runs h.counted held many i (omega arith) ∙ ap (λ (k : ℕ). length (flatten (take k runs))) (sym ej) in
      let ec : get_or counts j 0 ≡ length (get_or runs j []) = h.counted j lj in
      same_group s runs o places counts h j (get_or counts j 0) (get_or runs j []) (f i) (λ (t : ℕ). raw ((place_to s.axes counts f i).samples + t)) ec
      (λ t lt. let lt' : t < length (get_or runs j []) = rw ec at lt in
      rw sum (is (length (flatten (take j runs)) + t) (flat_in runs j t [] lj lt') ∙ ap (map bits) (flat-at runs j t [] lj lt')))
      (λ t lt. sized-flat-part (length (channels s)) runs wide j t lj (rw ec at lt))

  same-held : (i : ℕ) → i < held → held_group s runs i ≡ raw_held o places s.axes counts raw f i
  unfolding held_group raw_held
  same-held i l =
      let er : get_or s.blocks i [] ≡ f i = ap (λ (bs : List (List ℕ)). get_or bs i []) blocks ∙ at-upto f held i [] l in
      let ej : length (keep (has_point s.axes) (take i s.blocks)) ≡ (place_to s.axes counts f i).points =
      ap (λ (bs : List (List ℕ)). length (keep (has_point s.axes) (take i bs))) blocks
      ∙ ap (λ (bs : List (List ℕ)). length (keep (has_point s.axes) bs)) (take-upto f held i (omega arith))
      ∙ sym (place-points s.axes counts f i) in
      rw (er, ej) (same_block i l (has_point s.axes (f i)) refl (place_to s.axes counts f i).points refl)

  pub same-words : flatten (flatten (upto (held_group s runs) (length s.blocks)))
      ≡ flatten (upto (λ (i : ℕ). flatten (raw_held o places s.axes counts raw f i)) held)
  same-words =
      flat-flat (held_group s runs) (length s.blocks)
      ∙ ap (λ (n : ℕ). flatten (upto (λ (i : ℕ). flatten (held_group s runs i)) n)) (ap length blocks ∙ length-upto f held)
      ∙ ap flatten (upto-below (λ (i : ℕ). flatten (held_group s runs i)) _ held (λ i l. ap flatten (same-held i l)))

  block-rows : (b : Bool) (j : ℕ) (r : List ℕ) (g : ℕ → List ℕ) → length (raw_block o places b j (get_or counts j 0) r g) ≡ size_of (samples_of b counts j)
  unfolding raw_block raw_group size_of samples_of
  block-rows false j r g = refl
  block-rows true j r g = one (eqb (get_or counts j 0) 0)
    where
      one : (b : Bool)
          → length (cond b (bare_row o j r ∷ []) (upto (raw_row o places j (get_or counts j 0) r g) (get_or counts j 0))) ≡ cond b 1 (get_or counts j 0)
      one true = refl
      one false = length-upto (raw_row o places j (get_or counts j 0) r g) (get_or counts j 0)

  raw_rows : (i : ℕ) → length (flatten (upto (raw_held o places s.axes counts raw f) i)) ≡ (place_to s.axes counts f i).rows
  unfolding upto flatten place_to raw_held
  raw_rows zero = refl
  raw_rows (suc i) =
      let p : Place = place_to s.axes counts f i in
      let g : ℕ → List (List ℕ) = raw_held o places s.axes counts raw f in
      ap length (flatten_append (upto g i) (g i ∷ []) ∙ ap (λ (l : List (List ℕ)). flatten (upto g i) ++ l) (append-nil (g i)))
      ∙ length-append (flatten (upto g i)) (g i)
      ∙ ap₂ (λ (a b : ℕ). a + b) (raw_rows i) (block-rows (has_point s.axes (f i)) p.points (f i) (λ (t : ℕ). raw (p.samples + t)))
      ∙ sym (moved-rows (has_point s.axes (f i)) counts p)

  pub same_count : length (flatten (upto (held_group s runs) (length s.blocks))) ≡ (place_to s.axes counts f held).rows
  same_count =
      ap (λ (n : ℕ). length (flatten (upto (held_group s runs) n))) (ap length blocks ∙ length-upto f held)
      ∙ ap (λ (l : List (List (List ℕ))). length (flatten l)) (upto-below (held_group s runs) (raw_held o places s.axes counts raw f) held same-held)
      ∙ raw_rows held
