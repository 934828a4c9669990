-- Laws of this crate's proofs: what the code learns of a row, and whether its block is named there. Assumes nothing.
use Prim.Native.Nat.{ℕ, zero, suc, ◌+◌, ◌*◌, ◌<◌}
use mathlib.Core.Path.{◌≡◌, refl, sym, ap, ◌∙◌}
use mathlib.Core.Bool.{Bool, true, false, ◌&&◌, not}
use mathlib.Core.List.{List}
use lib.Dec.{eqb}
use lib.ListN.{drop, get_or}
use lib.Seq.{get_or-take, get_or-drop}
use borrow.Author.Tests.{eq-eqb, ne_eqb}
use Rattle.layout.specs.Layout.{row_words}
use Rattle.row_cells.specs.Row.{carry_of}
use Rattle.still_curved.specs.Curved.{row_at}
use Rattle.night_named.specs.Named.{further, warning_at}

-- ---- a row
pub word-is : (rows : List ℕ) (i k : ℕ) → k < row_words → get_or rows (i * row_words + k) 0 ≡ get_or (row_at rows i) k 0
word-is rows i k h = sym (get_or-take row_words (drop (i * row_words) rows) k 0 h ∙ get_or-drop (i * row_words) rows k 0)

pub first-not : (rows : List ℕ) (i : ℕ) → i ≡ 0 → false ≡ further rows i
unfolding further
first-not rows i e = sym (ap (further rows) e)

pub further-by : {carry : ℕ} (rows : List ℕ) (i : ℕ) → (i ≡ 0 → ⊥) → carry ≡ carry_of (row_at rows i) → eqb carry 0 ≡ further rows i
unfolding further
further-by rows zero h e = absurd (h refl)
further-by rows (suc i) h e = ap (λ (k : ℕ). eqb k 0) e

-- ---- whether a block is named
pub warned-last : (count warning i : ℕ) → i + 1 ≡ count → warning ≡ warning_at count warning i
unfolding warning_at
warned-last count warning i e = rw (eq-eqb (i + 1) count e)

pub warned-not : (count warning i : ℕ) → (i + 1 ≡ count → ⊥) → 0 ≡ warning_at count warning i
unfolding warning_at
warned-not count warning i e = rw (ne_eqb (i + 1) count e)

pub named-after : {b : Bool} (curved f before : Bool) → curved ≡ true → before ≡ true → b ≡ f → not b ≡ (curved && not (f && before))
named-after curved true before p q e = rw (p, q, e)
named-after curved false before p q e = rw (p, e)

pub named-first : (curved f before : Bool) → curved ≡ true → before ≡ false → true ≡ (curved && not (f && before))
named-first curved true before p q = rw (p, q)
named-first curved false before p q = rw p
