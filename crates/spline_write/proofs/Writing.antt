-- LAWS. A planned emission, as the code writes its samples and spreads them. Assumes nothing.
use Prim.Native.Nat.{ℕ, zero, suc, ◌+◌, ◌*◌, ◌/◌, ◌%◌, ◌-◌, ◌≤◌, ◌<◌}
use mathlib.Core.Path.{◌≡◌, refl, sym, ◌∙◌, ap, ap₂}
use mathlib.Core.Bool.{Bool}
use mathlib.Core.List.{List, [], ◌∷◌, ◌++◌, map, append-nil}
use native.Mathlib.Nat.{mul-le-mul, le_trans, div-add-mod'}
use native.Mathlib.Omega.{arith}
use lib.ListN.{length, get_or, take, drop, length-append, length-map}
use lib.Seq.{drop-append-add, drop-drop, take-length}
use lib.Ieee.{Float}
use borrow.Author.Tests.{le-leb, lt-leb}
use Rattle.floats.specs.Numbers.{bits}
use Rattle.floats.specs.Lists.{upto, member, flatten, spliced}
use Rattle.floats.specs.Joins.{flatten_append}
use Rattle.layout.specs.Layout.{row_words, axis_codes}
use Rattle.motion.specs.Motion.{basis_kind}
use Rattle.motion.specs.Motion as Motion
use Rattle.row_cells.specs.Codes.{geometric_of}
use Rattle.row_cells.specs.Row.{has_point}
use Rattle.row_cells.specs.Bits.{mask_sum}
use Rattle.curve_walk.specs.Walks.{encode}
use Rattle.curve_drawing.specs.declared.Drawing.{Drawing}
use Rattle.curve_drawing.specs.Runs.{drawn_runs}
use Rattle.spline_channels.specs.Channels.{Spline, channels, block_at}
use Rattle.spline_channels.specs.Flat.{Sized, flat-row, length-flatten}
use Rattle.spline_places.specs.declared.frame.Frame.{Frame}
use Rattle.spline_places.specs.declared.place.Place.{Place}
use Rattle.spline_places.specs.Sizes.{place_to}
use Rattle.spline_places.specs.SizeLaws.{place-points, place-order, moved-rows}
use Rattle.spline_sample.specs.Raw.{raw_at}
use Rattle.spline_rows.specs.RawBlocks.{raw_held, held_words}
use Rattle.spline_rows.specs.Puts.{Spreads}
use Rattle.spline_rows.specs.RawLaws.{block-long}
use Rattle.spline_plan.specs.declared.Emission.{Emission}
use Rattle.spline_job.specs.declared.Job.{Job}
use Rattle.spline_answer.specs.Runs.{runs_of}
use Rattle.spline_answer.specs.Emission.{spline_groups}
use Rattle.row_room.specs.Room.{put_within}
use Rattle.spline_curve.specs.Widths.{get_d_map}
use Rattle.spline_plan.specs.Words.{Lies, same-words, place-sum}
use Rattle.spline_curve.specs.Asks.{spline_in, Holds}
use Rattle.spline_plan.specs.Plans.{places_of, frame_of, Counted, Planned}
use Rattle.spline_write.specs.Emits.{Emitted}
use Rattle.spline_curve.specs.Curves.{runs_are}
use Rattle.spline_plan.specs.Frames.{laid-sound, laid_lies}
use Rattle.spline_plan.specs.Planning.{chans_below, wide_runs, many_runs, chans_few}

-- ---- samples as words
sized-bits : (n : ℕ) (ps : List (List Float)) → Sized n ps → Sized n (map (map bits) ps)
unfolding Sized
sized-bits n [] s = tt
sized-bits n (p ∷ ps) s = (length-map p bits ∙ s.0, sized-bits n ps s.1)

encode-long : (n : ℕ) (ps : List (List Float)) → Sized n ps → length (encode ps) ≡ length ps * n
unfolding encode
encode-long n ps s = length-flatten n (map (map bits) ps) (sized-bits n ps s) ∙ ap (λ (k : ℕ). k * n) (length-map ps (map bits))

raw_is : (n : ℕ) (ps : List (List Float)) (l xs : List ℕ) (q : ℕ) → Sized n ps → xs ≡ spliced l 0 (encode ps) → q < length ps
    → raw_at n xs q ≡ map bits (get_or ps q [])
unfolding raw_at spliced encode
raw_is n ps l xs q s e h =
    let words : List (List ℕ) = map (map bits) ps in
    let after : List ℕ = drop (0 + length (flatten words)) l in
    rw e (flat-row n words after q (sized-bits n ps s) (rw (length-map ps (map bits)) h) ∙ get_d_map (map bits) ps q [] [] h)

-- what is written over whole
spliced-over : (l a b : List ℕ) → length a ≤ length b → spliced (spliced l 0 a) 0 b ≡ spliced l 0 b
unfolding spliced
spliced-over l a b h =
    let d : ℕ = length b - length a in
    let e : 0 + length b ≡ length a + d = omega arith in
    let z : 0 + length a ≡ length a = omega arith in
    ap (λ (x : List ℕ). b ++ x)
    (ap (λ (k : ℕ). drop k (a ++ drop (0 + length a) l)) e ∙ drop-append-add a (drop (0 + length a) l) d
    ∙ ap (λ (k : ℕ). drop d (drop k l)) z ∙ drop-drop d (length a) l ∙ ap (λ (k : ℕ). drop k l) (sym e))

words_long : (o : Frame) (gs places counts : List ℕ) (f : ℕ → List ℕ) (l : List ℕ) (i : ℕ)
    → length (flatten (upto (held_words o gs places counts f l) i)) ≡ (place_to gs counts f i).rows * row_words
unfolding upto flatten place_to held_words raw_held
words_long o gs places counts f l zero = refl
words_long o gs places counts f l (suc i) =
    let p : Place = place_to gs counts f i in
    let g : ℕ → List ℕ = held_words o gs places counts f l in
    ap length (flatten_append (upto g i) (g i ∷ []) ∙ ap (λ (x : List ℕ). flatten (upto g i) ++ x) (append-nil (g i)))
    ∙ length-append (flatten (upto g i)) (g i)
    ∙ ap₂ (λ (a b : ℕ). a + b) (words_long o gs places counts f l i)
    (block-long o places (has_point gs (f i)) counts p.points (f i) (λ (t : ℕ). raw_at o.ch l (p.samples + t)))
    ∙ rw (moved-rows (has_point gs (f i)) counts p) (omega arith)

-- ---- the emission
module _ (job : Job) (axes words store : List ℕ) (h : Holds axes words store job.held)
    (counts : List ℕ) (total : Place) (c : Counted (spline_in job axes words store) (block_at store) job.held counts total) where
  pub encoded_few : length (encode (flatten (runs_of (spline_in job axes words store)))) ≤ total.rows * row_words
  encoded_few =
      let s : Spline = spline_in job axes words store in
      let p : Place = place_to (geometric_of axes) counts (block_at store) job.held in
      let e : p.points ≡ length (runs_of s) = place-points (geometric_of axes) counts (block_at store) job.held ∙ sym (many_runs job axes words store h) in
      let many = many_runs job axes words store h in
      let q : p.samples ≡ length (flatten (runs_of s)) =
      place-sum (geometric_of axes) counts (block_at store) (runs_of s) c.counted job.held many job.held (omega arith)
      ∙ ap (λ (k : ℕ). length (flatten (take k (runs_of s)))) e ∙ ap (λ (x : List (List (List Float))). length (flatten x)) (take-length (runs_of s)) in
      let n : length (encode (flatten (runs_of s))) ≡ length (flatten (runs_of s)) * length (channels s) =
      encode-long (length (channels s)) (flatten (runs_of s)) (wide_runs job axes words store h) in
      let order = place-order (geometric_of axes) counts (block_at store) job.held in
      let narrow : length (channels s) ≤ row_words = omega (arith, chans_few job axes words store h) in
      let m : p.samples * length (channels s) ≤ p.rows * row_words =
      mul-le-mul {n₁ = p.samples} {m₁ = length (channels s)} {n₂ = p.rows} {m₂ = row_words} order narrow in
      rw (n, ← q, c.place) m

  module _ (chans : List ℕ) (points : ℕ) (ec : chans ≡ channels (spline_in job axes words store))
      (ep : points ≡ length (runs_of (spline_in job axes words store))) where
    pub spreads_is : (rows : List ℕ) → total.rows * row_words ≤ length rows
        → Spreads (frame_of axes chans (Motion.is_basis job.motion) points) (geometric_of axes) (places_of chans) counts (block_at store) job.held total rows
    spreads_is rows room =
        let s : Spline = spline_in job axes words store in
        record {
          sound = laid-sound s axes chans (Motion.is_basis job.motion) points refl ec (chans_below job axes words store h) (chans_few job axes words store h);
          known = c.known;
          many = h.many;
          place = c.place;
          room = room;
        }

    pub emitted_is : (rows rows1 rows2 : List ℕ) → rows1 ≡ spliced rows 0 (encode (flatten (runs_of (spline_in job axes words store))))
        → rows2 ≡ spliced rows1 0 (flatten (upto (held_words (frame_of axes chans (Motion.is_basis job.motion) points)
        (geometric_of axes) (places_of chans) counts (block_at store) rows1) job.held))
        → rows2 ≡ spliced rows 0 (flatten (flatten (spline_groups (spline_in job axes words store))))
    unfolding spline_groups held_words
    emitted_is rows rows1 rows2 e1 e2 =
        let s : Spline = spline_in job axes words store in
        let o : Frame = frame_of axes chans (Motion.is_basis job.motion) points in
        let W : List ℕ = flatten (upto (held_words o (geometric_of axes) (places_of chans) counts (block_at store) rows1) job.held) in
        let lies : Lies s (runs_of s) o (places_of chans) counts =
        laid_lies s axes chans (Motion.is_basis job.motion) points refl ec (chans_below job axes words store h) counts refl ep c.counted in
        let raw : (q : ℕ) → q < length (flatten (runs_of s)) → raw_at o.ch rows1 q ≡ map bits (get_or (flatten (runs_of s)) q []) =
        λ q lt. rw (ap length ec) (raw_is (length (channels s)) (flatten (runs_of s)) rows rows1 q (wide_runs job axes words store h) e1 lt) in
        let n : length W ≡ total.rows * row_words =
        words_long o (geometric_of axes) (places_of chans) counts (block_at store) rows1 job.held ∙ ap (λ (p : Place). p.rows * row_words) (sym c.place) in
        let many = many_runs job axes words store h in
        let wide = wide_runs job axes words store h in
        let same = same-words s (runs_of s) o (places_of chans) counts lies (block_at store) job.held refl many wide (raw_at o.ch rows1) raw in
        e2 ∙ ap (λ (x : List ℕ). spliced x 0 W) e1 ∙ spliced-over rows (encode (flatten (runs_of s))) W (rw n encoded_few)
        ∙ ap (spliced rows 0) (sym same)

-- the frame and the places as the code has them
module _ (axes chans : List ℕ) (basis : Bool) (points : ℕ) (counts : List ℕ) (f : ℕ → List ℕ) (held : ℕ) (rows places : List ℕ) (a m : ℕ)
    (ea : a ≡ mask_sum (λ (k : ℕ). member k axes) axis_codes) (em : m ≡ mask_sum (λ (k : ℕ). member k chans) axis_codes) (ep : places ≡ places_of chans) where
  pub spreads_at : (total : Place) → Spreads (frame_of axes chans basis points) (geometric_of axes) (places_of chans) counts f held total rows
      → Spreads (record { axes = a; mask = m; ch = length chans; basis = basis; points = points }) (geometric_of axes) places counts f held total rows
  spreads_at total s = rw (ea, em, ep) s

  pub spread_at : (u : List ℕ)
      → u ≡ spliced rows 0 (flatten (upto (held_words (record { axes = a; mask = m; ch = length chans; basis = basis; points = points })
      (geometric_of axes) places counts f rows) held))
      → u ≡ spliced rows 0 (flatten (upto (held_words (frame_of axes chans basis points) (geometric_of axes) (places_of chans) counts f rows) held))
  spread_at u e = rw (ea, em, ep) at e

-- ---- rows that are written where they and `own` more have room
rooms : (n own l : ℕ) → n + own ≤ l / row_words → n * row_words ≤ l
rooms n own l h = let d : l / row_words * row_words + l % row_words ≡ l = div-add-mod' l row_words in omega arith

module _ (own : ℕ) (out : List (List ℕ)) (n : ℕ) (l : List ℕ) (e : n ≡ length out) where
  pub put-none : length l / row_words < n + own → l ≡ put_within own out l
  unfolding put_within
  put-none h = rw (lt-leb (length out + own) (length l / row_words) (rw e at h))

  pub put_some : (l1 : List ℕ) → n + own ≤ length l / row_words → l1 ≡ spliced l 0 (flatten out) → l1 ≡ put_within own out l
  unfolding put_within
  put_some l1 h q = q ∙ rw (le-leb (length out + own) (length l / row_words) (rw e at h))

-- ---- a plan is written
module _ {axes words store : List ℕ} {e : Emission} {pts ws ks cs : List Float} {counts lefts : List ℕ}
    (p : Planned axes words store e pts ws ks cs counts lefts)
    (rows : List ℕ) where
  pub not_written : length rows / row_words < e.place.rows + e.job.own → Emitted e.job axes words store rows e.place.rows rows
  not_written full = record {
    count = p.counted.rows;
    written = put-none e.job.own (flatten (spline_groups (spline_in e.job axes words store))) e.place.rows rows p.counted.rows full;
  }

  runs_is : drawn_runs e.drawing (take e.curve.metric e.ms) pts ws ≡ runs_of (spline_in e.job axes words store)
  runs_is = rw p.drawing (runs_are e.job axes words store e.curve e.chans e.ms pts ws p.gathered)

  listed-is : take e.curve.ch e.chans ≡ channels (spline_in e.job axes words store)
  unfolding channels
  listed-is = p.gathered.listed

  count-is : e.curve.n - 1 ≡ length (runs_of (spline_in e.job axes words store))
  count-is = omega (arith, p.gathered.count, many_runs e.job axes words store p.holds)

  basis-is : {basis : Bool} → basis ≡ basis_kind e.drawing.kind → basis ≡ Motion.is_basis e.job.motion
  unfolding Motion.is_basis
  basis-is b = b ∙ ap (λ (d : Drawing). basis_kind d.kind) p.drawing

  module _ (room : e.place.rows + e.job.own ≤ length rows / row_words) where
    lent : e.place.rows * row_words ≤ length rows
    lent = rooms e.place.rows e.job.own (length rows) room

    pub samples-room : length (encode (flatten (drawn_runs e.drawing (take e.curve.metric e.ms) pts ws))) ≤ length rows
    samples-room = rw runs_is (le_trans (encoded_few e.job axes words store p.holds counts e.place p.counted) lent)

    module _ (basis : Bool) (eb : basis ≡ basis_kind e.drawing.kind) where
      pub spreads_of : (rows1 : List ℕ) → length rows1 ≡ length rows
          → Spreads (frame_of axes (take e.curve.ch e.chans) basis (e.curve.n - 1)) (geometric_of axes) (places_of (take e.curve.ch e.chans))
          counts (block_at store) e.job.held e.place rows1
      spreads_of rows1 el =
          rw (basis-is eb)
          (spreads_is e.job axes words store p.holds counts e.place p.counted (take e.curve.ch e.chans) (e.curve.n - 1)
          listed-is count-is rows1 (rw el lent))

      pub written_of : (rows1 rows2 : List ℕ)
          → rows1 ≡ spliced rows 0 (encode (flatten (drawn_runs e.drawing (take e.curve.metric e.ms) pts ws)))
          → rows2 ≡ spliced rows1 0 (flatten (upto (held_words (frame_of axes (take e.curve.ch e.chans) basis (e.curve.n - 1)) (geometric_of axes)
          (places_of (take e.curve.ch e.chans)) counts (block_at store) rows1) e.job.held))
          → Emitted e.job axes words store rows e.place.rows rows2
      written_of rows1 rows2 e1 e2 =
          let first = e1 ∙ ap (λ (x : List (List (List Float))). spliced rows 0 (encode (flatten x))) runs_is in
          let second = rw (basis-is eb) at e2 in
          let all = emitted_is e.job axes words store p.holds counts e.place p.counted (take e.curve.ch e.chans) (e.curve.n - 1)
          listed-is count-is rows rows1 rows2 first second in
          let groups : List (List ℕ) = flatten (spline_groups (spline_in e.job axes words store)) in
          record {
            count = p.counted.rows;
            written = put_some e.job.own groups e.place.rows rows p.counted.rows rows2 room all;
          }
