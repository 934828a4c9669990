-- LAWS. What a change of the state keeps: the axis list, the words below the curve start. Assumes nothing.
use Rattle.std.specs.Prelude.{ℕ, ◌+◌, ◌<◌, ◌≤◌, ◌≡◌, refl, Bool, true, false, cond, List, ◌∷◌, length, get_or, set, take, drop}
use Rattle.std.proofs.Common.{sym, ◌∙◌, ap, arith, length-set, length-take, length-drop, get_or-set_other, get_or-set_same, get_or-take, get_or-drop}
use Rattle.std.proofs.Common.{ext_get_or}
use Rattle.std.proofs.Math.Option
use Rattle.floats.specs.Lists.{upto, spliced}
use Rattle.floats.specs.Fill.{length-upto}
use Rattle.floats.specs.Splice.{length-spliced, below-spliced}
use Rattle.layout.specs.Layout.{axis_codes, w_axis_count, w_axes, w_motion, w_known, w_start, w_degree, w_held, state_words, list_codes}
use Rattle.row_cells.specs.Codes.{geometric_of}
use Rattle.row_cells.specs.Bits.{with_bit}
use Rattle.saved_state.specs.State.{plain_degree, axis_count, held, geometric, position, placed}
use Rattle.push_start.specs.Opened.{forgotten, opened}

-- ---- two states with the same axis list
pub record SameAxes (st st' : List ℕ) : Type 0 where
  pub long : length st' ≡ length st
  pub low : (j : ℕ) → j < w_motion → get_or st' j 0 ≡ get_or st j 0

pub same_codes : (st st' : List ℕ) → SameAxes st st' → axis_count st ≤ list_codes → length st ≡ state_words
    → take (axis_count st') (drop w_axes st') ≡ take (axis_count st) (drop w_axes st)
same_codes st st' s few long =
    let n : axis_count st' ≡ axis_count st = s.low w_axis_count (omega arith) in
    ap (λ (k : ℕ). take k (drop w_axes st')) n
    ∙ ext_get_or 0 (take (axis_count st) (drop w_axes st')) (take (axis_count st) (drop w_axes st))
    (simp (length-take, length-drop, s.long))
    (λ i h.
    let l : i < axis_count st = omega (arith, simp (length-take) at h) in
    get_or-take (axis_count st) (drop w_axes st') i 0 l ∙ get_or-drop w_axes st' i 0 ∙ s.low (w_axes + i) (omega arith)
    ∙ sym (get_or-take (axis_count st) (drop w_axes st) i 0 l ∙ get_or-drop w_axes st i 0))

pub same-geometric : (st st' : List ℕ) → SameAxes st st' → axis_count st ≤ list_codes → length st ≡ state_words → geometric st' ≡ geometric st
unfolding geometric
same-geometric st st' s few long = ap geometric_of (same_codes st st' s few long)

pub same_refl : (st : List ℕ) → SameAxes st st
same_refl st = record { long = refl; low = λ j h. refl }

pub same_trans : {a b c : List ℕ} → SameAxes a b → SameAxes b c → SameAxes a c
same_trans s t = record { long = t.long ∙ s.long; low = λ j h. t.low j h ∙ s.low j h }

pub same_set : (st : List ℕ) (i v : ℕ) → w_motion ≤ i → SameAxes st (set st i v)
same_set st i v h = record { long = length-set st i v; low = λ j l. get_or-set_other st i j v 0 (λ e. omega arith) }

pub same-placed : (st : List ℕ) (k x : ℕ) → SameAxes st (placed st k x)
unfolding placed
same-placed st k x =
    same_trans (same_set st w_known (with_bit (get_or st w_known 0) k) (omega arith))
    (same_set (set st w_known (with_bit (get_or st w_known 0) k)) (w_known + 1 + k) x (omega arith))

pub same_cond : {st a b : List ℕ} (t : Bool) → SameAxes st a → SameAxes st b → SameAxes st (cond t a b)
same_cond true p q = p
same_cond false p q = q

pub same-spliced : (st : List ℕ) (i : ℕ) (ws : List ℕ) → w_motion ≤ i → i + length ws ≤ length st → SameAxes st (spliced st i ws)
same-spliced st i ws h l = record { long = length-spliced st i ws l; low = λ j k. below-spliced st i ws j (omega arith) (omega arith) }

pub placed-keeps : (st : List ℕ) (k x j : ℕ) → (j ≡ w_known → ⊥) → (j ≡ w_known + 1 + k → ⊥) → get_or (placed st k x) j 0 ≡ get_or st j 0
unfolding placed
placed-keeps st k x j a b =
    get_or-set_other (set st w_known (with_bit (get_or st w_known 0) k)) (w_known + 1 + k) j x 0 b
    ∙ get_or-set_other st w_known j (with_bit (get_or st w_known 0) k) 0 a

-- ---- the curve start, forgotten and opened
abbrev pub none-at : ℕ → ℕ
none-at k = 0

abbrev pub no_words : List ℕ
no_words = upto none-at (axis_codes + 1)

pub same-forgotten : (st : List ℕ) → length st ≡ state_words → SameAxes st (forgotten st)
unfolding forgotten
same-forgotten st h =
    let n : length no_words ≡ axis_codes + 1 = length-upto none-at (axis_codes + 1) in
    same_trans (same-spliced st w_start no_words (omega arith) (omega (arith, n)))
    (same_set (spliced st w_start no_words) w_held 0 (omega arith))

pub forgotten-keeps : (st : List ℕ) (j : ℕ) → length st ≡ state_words → j < w_start → get_or (forgotten st) j 0 ≡ get_or st j 0
unfolding forgotten
forgotten-keeps st j h l =
    get_or-set_other (spliced st w_start no_words) w_held j 0 0 (λ e. omega arith)
    ∙ below-spliced st w_start no_words j (omega arith) l

pub held-forgotten : (st : List ℕ) → length st ≡ state_words → held (forgotten st) ≡ 0
unfolding forgotten
held-forgotten st h =
    let n : length no_words ≡ axis_codes + 1 = length-upto none-at (axis_codes + 1) in
    get_or-set_same (spliced st w_start no_words) w_held 0 0
    (rw (length-spliced st w_start no_words (omega (arith, n))) (omega arith))

-- the words that open the curve: a mask and a number for each axis code
abbrev pub start_words : List ℕ → List ℕ
start_words st = get_or st w_known 0 ∷ upto (λ (k : ℕ). Option.get_or (position st k) 0) axis_codes

pub length-start_words : (st : List ℕ) → length (start_words st) ≡ axis_codes + 1
length-start_words st = rw (length-upto (λ (k : ℕ). Option.get_or (position st k) 0) axis_codes) (omega arith)

pub same-opened : (st : List ℕ) → length st ≡ state_words → SameAxes st (opened st)
unfolding opened
same-opened st h =
    same_trans (same-spliced st w_start (start_words st) (omega arith) (omega (arith, length-start_words st)))
    (same_set (spliced st w_start (start_words st)) w_degree plain_degree (omega arith))
