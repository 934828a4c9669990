-- LAWS. The words before a row's cells, set one after the other. Assumes nothing.
use Prim.Native.Nat.{ℕ, ◌+◌, ◌≤◌}
use mathlib.Core.Path.{◌≡◌, ◌∙◌}
use mathlib.Core.List.{List, append_assoc}
use native.Mathlib.Nat.{add-zero}
use native.Mathlib.Numerals.{add-one, add-two, add-three, add-four, add_five}
use lib.ListN.{length, set, take, drop}
use lib.Seq.{sets-eq}
use Rattle.floats.specs.Lists.{spliced}
use Rattle.layout.specs.Layout.{r_cells, r_line, r_motion, r_plane, r_mark, r_carry, r_present}
use Rattle.row_lay.specs.declared.Head.{Head}
use Rattle.row_lay.specs.Asks.{head_words}

pub head-set : (l : List ℕ) (i : ℕ) (h : Head) → i + r_cells ≤ length l
    → set (set (set (set (set (set l (i + r_line) h.line) (i + r_motion) h.motion) (i + r_plane) h.plane) (i + r_mark) h.mark)
    (i + r_carry) h.carry) (i + r_present) h.present
    ≡ spliced l i (head_words h)
unfolding spliced
head-set l i h m =
    rw (add-zero i, add-one i, add-two i, add-three i, add-four i, add_five i)
    (sets-eq (head_words h) l i m ∙ append_assoc (take i l) (head_words h) (drop (i + r_cells) l))
