-- LAWS. The rows of a run, of a block and of all held blocks, written from the last to the first. Assumes nothing.
use Prim.Native.Nat.{ℕ, ◌+◌, ◌*◌, ◌-◌, ◌≤◌, ◌<◌}
use mathlib.Core.Path.{◌≡◌, refl, ◌∙◌, ap, subst}
use mathlib.Core.Bool.{Bool, true, false, cond}
use mathlib.Core.List.{List, [], ◌∷◌}
use native.Mathlib.Omega.{arith}
use lib.Dec.{eqb}
use lib.ListN.{length, get_or}
use Rattle.floats.specs.Lists.{upto, flatten, spliced}
use Rattle.floats.specs.Fill.{upto-below}
use Rattle.layout.specs.Layout.{row_words}
use Rattle.row_cells.specs.Row.{has_point}
use Rattle.spline_places.specs.declared.frame.Frame.{Frame}
use Rattle.spline_places.specs.declared.place.Place.{Place}
use Rattle.spline_places.specs.Sizes.{size_of, samples_of, unmoved, place_to}
use Rattle.spline_places.specs.Places.{Behind}
use Rattle.spline_places.specs.SizeLaws.{back, moved-rows, place-next, place-known, place-order, place_mono, size_most}
use Rattle.spline_sample.specs.Raw.{samples_at, raw_row, bare_row}
use Rattle.spline_rows.specs.RawBlocks.{raw_group, raw_block, raw_held, held_words}
use Rattle.spline_sample.specs.Puts.{Puts, RowPut}
use Rattle.spline_rows.specs.Puts.{RunPut, BlockPut, Blocks, Spreads}
use Rattle.spline_rows.specs.RawLaws.{raw_length, block-long}
use Rattle.spline_sample.specs.SampleLaws.{raw_before, sample_rows}
use Rattle.spline_rows.proofs.Backward.{Backward, backward_more, backward_raw}

-- a row goes by its own sample alone
raw_same : (o : Frame) (places : List ℕ) (j c : ℕ) (row : List ℕ) (raw raw' : ℕ → List ℕ) (t : ℕ) → raw t ≡ raw' t
    → raw_row o places j c row raw t ≡ raw_row o places j c row raw' t
unfolding raw_row
raw_same o places j c row raw raw' t e = rw e

pub puts_same : (o : Frame) (places : List ℕ) (p : Place) (c : ℕ) (row xs ys : List ℕ) → length ys ≡ length xs
    → Puts o places p c row xs → Puts o places p c row ys
puts_same o places p c row xs ys e h = record { sound = h.sound; long = h.long; few = h.few; behind = h.behind; room = rw e h.room }

-- ---- a run: rows t and later are written over l
abbrev pub RunFrom : Frame → List ℕ → Place → ℕ → List ℕ → ℕ → List ℕ → List ℕ → Type 0
RunFrom o places p c row t l xs = Backward (raw_row o places p.points c row (samples_at o l p)) c t ((p.rows + t) * row_words) l xs

module _ (o : Frame) (places : List ℕ) (p : Place) (c : ℕ) (row l : List ℕ) (h : Puts o places p c row l) where
  run_step : (t : ℕ) (xs ys : List ℕ) → t < c → RunFrom o places p c row (t + 1) l xs → length ys ≡ length xs
      → RowPut o places p c row t xs ys → RunFrom o places p c row t l ys
  run_step t xs ys k r s is =
      let f : ℕ → List ℕ = raw_row o places p.points c row (samples_at o l p) in
      let g : ℕ → List ℕ = raw_row o places p.points c row (samples_at o xs p) in
      let n : length (f t) ≡ row_words = raw_length o places p.points c row (samples_at o l p) t in
      let m : (p.rows + t) * row_words + row_words ≤ length l = sample_rows h t k in
      let b : ℕ = (p.rows + (t + 1)) * row_words in
      let q : ℕ = p.samples + t in
      let low : q * o.ch + o.ch ≤ b = omega (arith, raw_before q (p.rows + t) o.ch (omega (arith, h.behind)) h.sound.narrow) in
      let e : g t ≡ f t =
      raw_same o places p.points c row (samples_at o xs p) (samples_at o l p) t (backward_raw f c (t + 1) b l xs o.ch q r low (omega arith)) in
      backward_more f c t b ((p.rows + t) * row_words) l xs ys (g t) k r (rw n (omega arith)) (omega arith) s e is

  -- the same at the row before t
  pub run-again : (t : ℕ) (xs ys : List ℕ) → 0 < t → t ≤ c → RunFrom o places p c row t l xs → length ys ≡ length xs
      → RowPut o places p c row (t - 1) xs ys → RunFrom o places p c row (t - 1) l ys
  run-again t xs ys z k r s is =
      let e : t ≡ t - 1 + 1 = omega arith in
      run_step (t - 1) xs ys (omega arith) (subst (λ (n : ℕ). RunFrom o places p c row n l xs) e r) s is

  pub run_end : (t : ℕ) (xs : List ℕ) → t ≡ 0 → RunFrom o places p c row t l xs → RunPut o places p c row l xs
  run_end t xs z r = let e : p.rows + 0 ≡ p.rows = omega arith in r.is ∙ rw (z, e)

-- ---- a block: what it goes by
block-count : (o : Frame) (places : List ℕ) (point : Bool) (counts : List ℕ) (j : ℕ) (r : List ℕ) (raw : ℕ → List ℕ)
    → raw_block o places point j (samples_of point counts j) r raw ≡ raw_block o places point j (get_or counts j 0) r raw
unfolding raw_block samples_of
block-count o places false counts j r raw = refl
block-count o places true counts j r raw = refl

block_same : (o : Frame) (places : List ℕ) (point : Bool) (counts : List ℕ) (j : ℕ) (r : List ℕ) (raw raw' : ℕ → List ℕ)
    → ((t : ℕ) → t < samples_of point counts j → raw t ≡ raw' t)
    → raw_block o places point j (get_or counts j 0) r raw ≡ raw_block o places point j (get_or counts j 0) r raw'
unfolding raw_block raw_group samples_of
block_same o places false counts j r raw raw' h = refl
block_same o places true counts j r raw raw' h =
    let c : ℕ = get_or counts j 0 in
    let all : upto (raw_row o places j c r raw) c ≡ upto (raw_row o places j c r raw') c =
    upto-below (raw_row o places j c r raw) (raw_row o places j c r raw') c (λ t l. raw_same o places j c r raw raw' t (h t l)) in
    ap (λ (l : List (List ℕ)). cond (eqb c 0) (bare_row o j r ∷ []) l) all

-- the held block before a place, where its row has a point or not
module _ (o : Frame) (gs places counts row : List ℕ) (place : Place) (xs : List ℕ) (b : Blocks o gs places counts row place xs)
    (point : Bool) (e : point ≡ has_point gs row) where
  pub block-before : Behind point counts place
  block-before = rw e b.before

  pub before-is : (r : Place) → r ≡ unmoved point counts place → r ≡ b.before.before
  before-is r er = er ∙ rw e (ap (unmoved (has_point gs row) counts) b.before.is ∙ back (has_point gs row) counts b.before.before)

  pub block_index : (r : Place) → r ≡ unmoved point counts place → r.points < length counts
  block_index r er = rw (before-is r er) b.before.known

  pub block_puts : (r : Place) (c : ℕ) → r ≡ unmoved point counts place → c ≡ samples_of point counts r.points → Puts o places r c row xs
  block_puts r c er ec =
      let p : Place = b.before.before in
      let q : r ≡ p = before-is r er in
      let m : place.rows ≡ p.rows + size_of (samples_of (has_point gs row) counts p.points) =
      ap (λ (p : Place). p.rows) b.before.is ∙ moved-rows (has_point gs row) counts p in
      rw (ec, q, e) (record { sound = b.sound; long = b.long; few = b.few; behind = b.order; room = rw (← m) b.room })

  pub block-done : (r : Place) (c : ℕ) (ys : List ℕ) → c ≡ samples_of point counts r.points → BlockPut o places point r c row xs ys
      → BlockPut o places (has_point gs row) r (get_or counts r.points 0) row xs ys
  block-done r c ys ec ey =
      ey ∙ ap (λ (l : List (List ℕ)). spliced xs (r.rows * row_words) (flatten l))
      (rw (ec, e) (block-count o places (has_point gs row) counts r.points row (samples_at o xs r)))

-- ---- all held blocks: block i and later are written over l, block i from the rows of `place` on
abbrev pub HeldFrom : Frame → List ℕ → List ℕ → List ℕ → (ℕ → List ℕ) → ℕ → ℕ → Place → List ℕ → List ℕ → Type 0
HeldFrom o gs places counts f held i place l xs = Backward (held_words o gs places counts f l) held i (place.rows * row_words) l xs

module _ (o : Frame) (gs places counts : List ℕ) (f : ℕ → List ℕ) (held : ℕ) (total : Place) (l : List ℕ)
    (h : Spreads o gs places counts f held total l) where
  held-blocks : (i : ℕ) (row : List ℕ) (place : Place) (xs : List ℕ) → i < held → row ≡ f i → length row ≡ row_words
      → place ≡ place_to gs counts f (i + 1) → length xs ≡ length l → Blocks o gs places counts row place xs
  held-blocks i row place xs k er lr ep s =
      let known = place-known gs counts f i in
      let last = ap (λ (p : Place). p.rows) h.place in
      record {
        sound = h.sound;
        long = lr;
        before = record { before = place_to gs counts f i; is = ep ∙ place-next gs counts f i ∙ rw er; known = omega (arith, h.known, known) };
        few = omega (arith, h.many, known);
        order = place-order gs counts f i;
        room = rw (s, ep) (omega (arith, h.room, last, place_mono gs counts f held (i + 1) (omega arith)));
      }

  spread-one : (i : ℕ) (row : List ℕ) (place r : Place) (xs ys : List ℕ) → i < held → row ≡ f i → length row ≡ row_words
      → place ≡ place_to gs counts f (i + 1) → length ys ≡ length xs → HeldFrom o gs places counts f held (i + 1) place l xs
      → r ≡ unmoved (has_point gs row) counts place → BlockPut o places (has_point gs row) r (get_or counts r.points 0) row xs ys
      → (r ≡ place_to gs counts f i) × HeldFrom o gs places counts f held i r l ys
  unfolding raw_held held_words held-blocks
  spread-one i row place r xs ys k er lr ep s w came put =
      let bl : Blocks o gs places counts row place xs = held-blocks i row place xs k er lr ep w.same in
      let p : Place = place_to gs counts f i in
      let e : r ≡ p = before-is o gs places counts row place xs bl (has_point gs row) refl r came in
      let all : ℕ → List ℕ = held_words o gs places counts f l in
      let point : Bool = has_point gs (f i) in
      let c : ℕ = samples_of point counts p.points in
      let now : List (List ℕ) = raw_block o places point p.points (get_or counts p.points 0) (f i) (samples_at o xs p) in
      let m : place.rows ≡ p.rows + size_of c = ap (λ (q : Place). q.rows) (ep ∙ place-next gs counts f i) ∙ moved-rows point counts p in
      let n : length (all i) ≡ size_of c * row_words = block-long o places point counts p.points (f i) (samples_at o l p) in
      let room : place.rows * row_words ≤ length l = rw w.same at bl.room in
      let order : p.samples ≤ p.rows = place-order gs counts f i in
      let low : (t : ℕ) → t < c → (p.samples + t) * o.ch + o.ch ≤ place.rows * row_words =
      λ t lt. rw m (omega (arith, raw_before (p.samples + t) (p.rows + t) o.ch (omega arith) h.sound.narrow, (size_most c).0)) in
      let same : flatten now ≡ all i =
      ap flatten (block_same o places point counts p.points (f i) (samples_at o xs p) (samples_at o l p)
      (λ t lt. backward_raw all held (i + 1) (place.rows * row_words) l xs o.ch (p.samples + t) w (low t lt) room)) in (
        e,
        rw e (backward_more all held i (place.rows * row_words) (p.rows * row_words) l xs ys (flatten now) k w (rw (n, m) (omega arith)) room s same
            (rw (e, er) at put)),
      )

  -- the same at the block before i
  pub held-again : (i : ℕ) (row : List ℕ) (place : Place) (xs : List ℕ) → 0 < i → i ≤ held → row ≡ f (i - 1) → length row ≡ row_words
      → place ≡ place_to gs counts f i → length xs ≡ length l → Blocks o gs places counts row place xs
  held-again i row place xs z k er lr ep s =
      let e : i ≡ i - 1 + 1 = omega arith in
      held-blocks (i - 1) row place xs (omega arith) er lr (ep ∙ ap (place_to gs counts f) e) s

  pub spread-again : (i : ℕ) (row : List ℕ) (place r : Place) (xs ys : List ℕ) → 0 < i → i ≤ held → row ≡ f (i - 1) → length row ≡ row_words
      → place ≡ place_to gs counts f i → length ys ≡ length xs → HeldFrom o gs places counts f held i place l xs
      → r ≡ unmoved (has_point gs row) counts place → BlockPut o places (has_point gs row) r (get_or counts r.points 0) row xs ys
      → (r ≡ place_to gs counts f (i - 1)) × HeldFrom o gs places counts f held (i - 1) r l ys
  spread-again i row place r xs ys z k er lr ep s w came put =
      let e : i ≡ i - 1 + 1 = omega arith in
      spread-one (i - 1) row place r xs ys (omega arith) er lr (ep ∙ ap (place_to gs counts f) e) s
      (subst (λ (n : ℕ). HeldFrom o gs places counts f held n place l xs) e w) came put

  pub spread_end : (i : ℕ) (place : Place) (xs : List ℕ) → i ≡ 0 → place ≡ place_to gs counts f i → HeldFrom o gs places counts f held i place l xs
      → xs ≡ spliced l 0 (flatten (upto (held_words o gs places counts f l) held))
  unfolding place_to
  spread_end i place xs z ep w =
      let e : place.rows ≡ 0 = ap (λ (p : Place). p.rows) (ep ∙ ap (place_to gs counts f) z) in
      w.is ∙ rw (z, e)
