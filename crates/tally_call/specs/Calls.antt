-- DEFINITIONS. A told call: when it is one, what it adds to each figure, and what it does to a try (rules 9.2 to 9.13). Assumes nothing.
use Rattle.std.specs.Prelude.{ℕ, ◌+◌, ◌*◌, ◌-◌, ◌/◌, ◌^◌, Bool, true, false, ◌&&◌, ◌||◌, not, cond, List, length, drop, leb, eqb}
use Rattle.floats.specs.Lists.{all}
use Rattle.layout.specs.Layout.{row_words}
use Rattle.row_cells.specs.Bits.{has}
use Rattle.row_cells.specs.Row.{mark_of}
use Rattle.tally_words.specs.Words.{most_warning, most_code, w_blocks, w_rows, w_marked, w_turned, b_closed, b_first, b_final, b_failing, bit, count_if}
use Rattle.tally_call.specs.declared.Call.{Call}

-- ---- kinds of calls: 0 start, 1 seed, 2 push, 3 close
abbrev pub k_push : ℕ
k_push = 2

abbrev pub k_close : ℕ
k_close = 3

-- the refusal of 2.11, after which the same call is made again with more places
abbrev pub too_few_places : ℕ
too_few_places = 7

-- ---- the rows lent with a call: the mark of row i, and how many of the first n are marked
abbrev pub mark_at : List ℕ → ℕ → ℕ
mark_at rows i = mark_of (drop (i * row_words) rows)

unfoldable pub marks_in : List ℕ → ℕ → ℕ
marks_in rows n = count_if (λ (i : ℕ). eqb (mark_at rows i) 1) n

-- 9.4: the rows that an accepted call says it wrote are lent, and their marks are marks
unfoldable pub rows_ok : ℕ → List ℕ → Bool
rows_ok count rows = leb count (length rows / row_words) && all count (λ (i : ℕ). leb (mark_at rows i) 1)

-- 9.3: the numbers are those of a call; refused by 4 where not
unfoldable pub told_ok : ℕ → ℕ → ℕ → ℕ → List ℕ → Bool
told_ok kind code count warning rows =
    leb kind k_close
    && (leb code most_code
    && (leb warning most_warning
    && (not (eqb code 0) || rows_ok count rows)))

-- 9.2: what a told call is to a tally; only an accepted call has written rows, and marks on them
unfoldable pub call_of : ℕ → ℕ → ℕ → ℕ → List ℕ → Call
call_of kind code count warning rows =
    record { kind = kind; code = code; count = count; warning = warning; marked = cond (eqb code 0) (marks_in rows count) 0 }

-- ---- 9.7 to 9.10: what a call adds to figure k, k the figure's word in a slot
-- x where the call was accepted, 0 where not
abbrev pub if_done : Call → ℕ → ℕ
if_done c x = cond (eqb c.code 0) x 0

unfoldable pub figure : Call → ℕ → ℕ
figure c k =
    cond (eqb k w_blocks) (if_done c (bit (eqb c.kind k_push)))
    (cond (eqb k w_rows) (if_done c c.count)
    (cond (eqb k w_marked) (if_done c c.marked)
    (cond (leb k w_turned) (bit (eqb c.warning (k - w_marked))) (bit (eqb c.code (k - w_turned))))))

-- ---- 9.12, 9.13: a call fails the try that it stands in where it was refused, 7 apart, or warned; an accepted close ends it
unfoldable pub fails : Call → Bool
fails c = not (eqb c.warning 0) || not (eqb c.code 0 || eqb c.code too_few_places)

unfoldable pub closes : Call → Bool
closes c = eqb c.kind k_close && eqb c.code 0

-- ---- 9.22: the try word of its four bits, and after one more call
unfoldable pub try_number : Bool → Bool → Bool → Bool → ℕ
try_number closed first final bad = 2 ^ b_closed * bit closed + 2 ^ b_first * bit first + 2 ^ b_final * bit final + 2 ^ b_failing * bit bad

unfoldable pub try_after : ℕ → Call → ℕ
try_after w c =
    let bad = has w b_failing || fails c in
    cond (closes c)
    (try_number true (cond (has w b_closed) (has w b_first) (not bad)) (not bad) false)
    (try_number (has w b_closed) (has w b_first) (has w b_final) bad)
