-- LAWS. The channels of a spline are geometric axes; its points and weights are numbers that refusal 3 lets pass. Assumes nothing.
use Prim.Native.Nat.{ℕ, zero, suc, ◌<◌}
use Rattle.std.specs.Prelude.{◌≡◌, refl, Bool, true, ◌&&◌, ◌||◌, not, length, get_or, T, eqb, Float}
use Rattle.std.proofs.Common.{sym, ◌∙◌, ap, arith, eq-eqb}
use Rattle.std.proofs.Math.Path.{subst}
use Rattle.std.proofs.lemmas.Bool.{false≢true}
use mathlib.Core.List.{List, [], ◌∷◌, ◌++◌, map}
use Rattle.std.proofs.Math.Option
use Rattle.std.proofs.Math.Option.{Option, none, some}
use Rattle.std.specs.Float.Ieee.{nan, fits, lt}
use Rattle.std.specs.Float.{binary64}
use Rattle.std.specs.Float.Ieee.Bits.{of_bits-fits}
use Rattle.floats.specs.Numbers.{num, at, f1, 1e-4}
use Rattle.floats.specs.Lists.{keep, member, opt}
use Rattle.floats.specs.Fill.{at-upto}
use Rattle.floats.specs.FloatLaws.{modest}
use Rattle.layout.specs.Layout.{axis_codes, cells, c_pw}
use Rattle.row_cells.specs.Bits.{has}
use Rattle.row_cells.specs.Row.{cell, number, present_of}
use Rattle.row_numbers.specs.RowNumbers.{within}
use Rattle.floats.specs.Truth.{by_bit, and_right, or_f, cond-t, cond-f}
use Rattle.row_cells.specs.Masks.{member_append, member-keep}
use Rattle.row_check.specs.CheckLaws.{check-cell-within}
use Rattle.curve_metric.specs.Metric.{point_of}
use Rattle.spline_answer.specs.Words.{channels_from, first_cell, next_point, points_from, weight_of}
use Rattle.demand_calls.specs.Every.{Every}
use Rattle.demand_calls.specs.Laws.{every_head, every_tail}
use Rattle.demand_groups.specs.InRange.{in_range}
use Rattle.demand_state.specs.Accepted.{Fine}

-- ---- channels
channel_listed : (gs cs : List ℕ) (rs : List (List ℕ)) → ((k : ℕ) → member k cs ≡ true → member k gs ≡ true)
    → (k : ℕ) → member k (channels_from gs cs rs) ≡ true → member k gs ≡ true
unfolding channels_from
channel_listed gs cs [] sub k m = sub k m
channel_listed gs cs (r ∷ rs) sub k m = channel_listed gs (cs ++ keep (new cs r) gs) rs (wider cs r sub) k m
  where
    new : List ℕ → List ℕ → ℕ → Bool
    new cs r k = has (present_of r) k && not (member k cs)

    wider : (cs : List ℕ) (r : List ℕ) → ((k : ℕ) → member k cs ≡ true → member k gs ≡ true) → (k : ℕ) → member k (cs ++ keep (new cs r) gs) ≡ true
        → member k gs ≡ true
    wider cs r sub k m =
        let e : (member k cs || (new cs r k && member k gs)) ≡ true =
        ap (λ (b : Bool). member k cs || b) (sym (member-keep (new cs r) k gs)) ∙ sym (member_append k cs (keep (new cs r) gs)) ∙ m in
        by_bit (member k cs)
        (λ a. sub k a)
        (λ a. and_right (new cs r k) (member k gs) (sym (or_f (new cs r k && member k gs) a) ∙ e))

pub channels-listed : (gs : List ℕ) (rs : List (List ℕ)) (k : ℕ) → member k (channels_from gs [] rs) ≡ true → member k gs ≡ true
unfolding member
channels-listed gs rs k m = channel_listed gs [] rs (λ k m. absurd (false≢true m)) k m

-- ---- numbers
pub record Word (y : Float) : Type 0 where
  pub word : ℕ
  pub passes : within word ≡ true
  pub is : y ≡ num word

pub word-modest : {y : Float} → Word y → modest y
word-modest w = subst modest (sym w.is) (in_range w.word w.passes)

pub word_fits : {y : Float} → Word y → T (fits binary64 y)
word_fits w = subst (λ (y : Float). T (fits binary64 y)) (sym w.is) (of_bits-fits binary64 w.word)

word-one : Word f1
unfolding within
word-one = record { word = 0x3ff0_0000_0000_0000; passes = refl; is = refl }

word_floor : Word 1e-4
unfolding within
word_floor = record { word = 0x3f1a_36e2_eb1c_432d; passes = refl; is = refl }

-- a present cell's, or what is there else
cell-word : (r : List ℕ) → Fine r → (k : ℕ) → k < cells → (y : Float) → Word y → Word (Option.get_or (number r k) y)
unfolding number
cell-word r f k h y w = by-cell (cell r k) refl
  where
    by-cell : (o : Option ℕ) → cell r k ≡ o → Word (Option.get_or (opt num o) y)
    by-cell none e = w
    by-cell (some x) e = record { word = x; passes = check-cell-within r f k x h e; is = refl }

first_passes_lem : (k : ℕ) (rs : List (List ℕ)) → Every Fine rs → k < cells → within (first_cell k rs) ≡ true
unfolding first_cell within
first_passes_lem k [] fs h = refl
first_passes_lem k (r ∷ rs) fs h = by-cell (cell r k) refl (first_passes_lem k rs (every_tail fs) h)
  where
    by-cell : (o : Option ℕ) → cell r k ≡ o → within (first_cell k rs) ≡ true → within (Option.get_or o (first_cell k rs)) ≡ true
    by-cell none e rest = rest
    by-cell (some x) e rest = check-cell-within r (every_head fs) k x h e

-- the numbers of a point
abbrev pub Words : ℕ → List Float → Type 0
Words n p = (c : ℕ) → c < n → Word (at p c)

at_map : (f : ℕ → Float) (cs : List ℕ) (c : ℕ) → c < length cs → at (map f cs) c ≡ f (get_or cs c 0)
at_map f [] c h = absurd (omega arith)
at_map f (k ∷ cs) zero h = refl
at_map f (k ∷ cs) (suc c) h = at_map f cs c (omega arith)

member-at : (cs : List ℕ) (c : ℕ) → c < length cs → member (get_or cs c 0) cs ≡ true
unfolding member
member-at [] c h = absurd (omega arith)
member-at (k ∷ cs) zero h = rw (eq-eqb k k refl)
member-at (k ∷ cs) (suc c) h = by_bit (eqb k (get_or cs c 0)) (λ b. rw b) (λ b. rw b (member-at cs c (omega arith)))

module _ (cs : List ℕ) (low : (k : ℕ) → member k cs ≡ true → k < axis_codes) where
  channel_low : (c : ℕ) → c < length cs → get_or cs c 0 < cells
  channel_low c h = let g : get_or cs c 0 < axis_codes = low (get_or cs c 0) (member-at cs c h) in omega arith

  pub start-words : (start : ℕ → Option ℕ) → ((k x : ℕ) → start k ≡ some x → within x ≡ true) → (rs : List (List ℕ)) → Every Fine rs
      → Words (length cs) (map (λ (k : ℕ). num (Option.get_or (start k) (first_cell k rs))) cs)
  start-words start ok rs fs c h =
      let k : ℕ = get_or cs c 0 in
      record { word = Option.get_or (start k) (first_cell k rs); passes = by-start (start k) refl; is = at_map _ cs c h }
    where
      by-start : (o : Option ℕ) → start (get_or cs c 0) ≡ o → within (Option.get_or o (first_cell (get_or cs c 0) rs)) ≡ true
      by-start none e = first_passes_lem (get_or cs c 0) rs fs (channel_low c h)
      by-start (some x) e = ok (get_or cs c 0) x e

  next-words : (p : List Float) (r : List ℕ) → Fine r → Words (length cs) p → Words (length cs) (next_point cs p r)
  unfolding next_point
  next-words p r f w c h =
      subst Word (sym (at-upto _ (length cs) c nan h)) (cell-word r f (get_or cs c 0) (channel_low c h) (at p c) (w c h))

  points-words : (p : List Float) (rs : List (List ℕ)) → Words (length cs) p → Every Fine rs → (i : ℕ) → i < length rs
      → Words (length cs) (get_or (points_from cs p rs) i [])
  unfolding points_from
  points-words p [] w fs i h = absurd (omega arith)
  points-words p (r ∷ rs) w fs zero h = next-words p r (every_head fs) w
  points-words p (r ∷ rs) w fs (suc i) h = points-words (next_point cs p r) rs (next-words p r (every_head fs) w) (every_tail fs) i (omega arith)

  -- every point of a spline, its start among them
  pub all_words : (p : List Float) (rs : List (List ℕ)) → Words (length cs) p → Every Fine rs → (i : ℕ) → i < suc (length rs)
      → Words (length cs) (point_of (p ∷ points_from cs p rs) i)
  all_words p rs w fs zero h = w
  all_words p rs w fs (suc i) h = points-words p rs w fs i (omega arith)

-- ---- weights
weight_word : (r : List ℕ) → Fine r → Word (weight_of r)
unfolding weight_of
weight_word r f =
    let w : Word (Option.get_or (number r c_pw) f1) = cell-word r f c_pw (omega arith) f1 word-one in
    by_bit (lt (Option.get_or (number r c_pw) f1) 1e-4)
    (λ b. subst Word (sym (cond-t 1e-4 (Option.get_or (number r c_pw) f1) b)) word_floor)
    (λ b. subst Word (sym (cond-f 1e-4 (Option.get_or (number r c_pw) f1) b)) w)

tail-weights : (rs : List (List ℕ)) → Every Fine rs → (i : ℕ) → i < length rs → Word (at (map weight_of rs) i)
tail-weights [] fs i h = absurd (omega arith)
tail-weights (r ∷ rs) fs zero h = weight_word r (every_head fs)
tail-weights (r ∷ rs) fs (suc i) h = tail-weights rs (every_tail fs) i (omega arith)

pub all-weights : (rs : List (List ℕ)) → Every Fine rs → (i : ℕ) → i < suc (length rs) → Word (at (f1 ∷ map weight_of rs) i)
all-weights rs fs zero h = word-one
all-weights rs fs (suc i) h = tail-weights rs fs i (omega arith)
