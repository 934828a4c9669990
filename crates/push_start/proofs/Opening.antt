-- LAWS. What opening a curve leans on: each store to the state, put together to the definition. Assumes nothing.
use Prim.Native.Nat.{ℕ, ◌+◌, ◌<◌}
use mathlib.Core.Path.{◌≡◌, ◌∙◌, ap, ap₂}
use mathlib.Core.Bool.{cond}
use mathlib.Core.List.{List, [], ◌∷◌}
use mathlib.Core.Option
use mathlib.Core.Option.{Option, none, some}
use native.Mathlib.Omega.{arith}
use lib.ListN.{length, get_or, set}
use lib.Seq.{get_or-set_other}
use Rattle.floats.specs.Lists.{upto, spliced}
use Rattle.floats.specs.Fill.{upto-below}
use Rattle.floats.specs.Splice.{Splicing, set-spliced, spliced-spliced, below-spliced}
use Rattle.layout.specs.Layout.{axis_codes, w_known, w_start, w_degree, state_words}
use Rattle.row_cells.specs.Bits.{has}
use Rattle.saved_state.specs.State.{plain_degree, point_word, position}
use Rattle.push_start.specs.Opened.{opened}
use Rattle.push_start.specs.OpenedLaws.{same-opened}

-- ---- opening: a position is read below the words that are written
pub position-under : (f : ℕ → ℕ) (n : ℕ) (st st' : List ℕ) (k : ℕ) → Splicing f (w_start + 1) n st st' → length st ≡ state_words → k < axis_codes
    → position st' k ≡ position st k
unfolding point_word
position-under f n st st' k s h l =
    ap₂ (λ (p x : ℕ). cond (has p k) (some x) none)
    (ap (λ (l : List ℕ). get_or l w_known 0) s.is ∙ below-spliced st (w_start + 1) (upto f n) w_known (omega arith) (omega arith))
    (ap (λ (l : List ℕ). get_or l (w_known + 1 + k) 0) s.is ∙ below-spliced st (w_start + 1) (upto f n) (w_known + 1 + k) (omega arith) (omega arith))

position-mask : (st : List ℕ) (m k : ℕ) → k < axis_codes → position (set st w_start m) k ≡ position st k
unfolding point_word
position-mask st m k l =
    ap₂ (λ (p x : ℕ). cond (has p k) (some x) none)
    (get_or-set_other st w_start w_known m 0 (λ e. omega arith))
    (get_or-set_other st w_start (w_known + 1 + k) m 0 (λ e. omega arith))

pub open_done : (st t : List ℕ) → length st ≡ state_words
    → t ≡ spliced (set st w_start (get_or st w_known 0)) (w_start + 1) (upto (λ (k : ℕ). Option.get_or (position (set st w_start (get_or st w_known
    0)) k) 0) axis_codes)
    → set t w_degree plain_degree ≡ opened st
unfolding opened
open_done st t h e =
    ap (λ (l : List ℕ). set l w_degree plain_degree)
    (e
    ∙ ap (spliced (set st w_start (get_or st w_known 0)) (w_start + 1))
    (upto-below _ _ axis_codes (λ k l. ap (λ (o : Option ℕ). Option.get_or o 0) (position-mask st (get_or st w_known 0) k l)))
    ∙ ap (λ (l : List ℕ). spliced l (w_start + 1) (upto (λ (k : ℕ). Option.get_or (position st k) 0) axis_codes))
    (set-spliced st w_start (get_or st w_known 0) (omega arith))
    ∙ spliced-spliced st w_start (get_or st w_known 0 ∷ []) (upto (λ (k : ℕ). Option.get_or (position st k) 0) axis_codes) (omega arith))

pub open_length : (st t : List ℕ) → length st ≡ state_words
    → t ≡ spliced (set st w_start (get_or st w_known 0)) (w_start + 1) (upto (λ (k : ℕ). Option.get_or (position (set st w_start (get_or st w_known
    0)) k) 0) axis_codes)
    → length (set t w_degree plain_degree) ≡ length st
open_length st t h e = ap length (open_done st t h e) ∙ (same-opened st h).long
