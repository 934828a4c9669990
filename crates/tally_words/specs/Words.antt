-- DEFINITIONS. The words of a tally of told calls, each named once, and when words are no tally (rules 9.20 to 9.23). Assumes nothing.
use Rattle.std.specs.Prelude.{ℕ, zero, suc, ◌+◌, ◌*◌, ◌^◌, Bool, ◌&&◌, ◌||◌, not, cond, List, length, get_or, leb, ltb, eqb}
use Rattle.floats.specs.Lists.{upto, all}
use Rattle.row_cells.specs.Bits.{has}

-- ---- What is chosen; the rest of this part follows from it.
abbrev pub most_jobs : ℕ
most_jobs = 64

abbrev pub most_warning : ℕ
most_warning = 15

abbrev pub most_code : ℕ
most_code = 31

-- ---- 9.21: a slot: the job's number, blocks accepted, rows written, marked rows, calls with warning w at w_marked + w, calls refused by n
-- at w_turned + n, the try word
abbrev pub w_job : ℕ
w_job = 0

abbrev pub w_blocks : ℕ
w_blocks = w_job + 1

abbrev pub w_rows : ℕ
w_rows = w_blocks + 1

abbrev pub w_marked : ℕ
w_marked = w_rows + 1

abbrev pub w_turned : ℕ
w_turned = w_marked + most_warning

-- the figures are the words 1 to this one
abbrev pub figures : ℕ
figures = w_turned + most_code

abbrev pub w_try : ℕ
w_try = figures + 1

abbrev pub job_words : ℕ
job_words = w_try + 1

-- ---- 9.20: how many jobs have a slot, then the slots
abbrev pub w_jobs : ℕ
w_jobs = 0

abbrev pub w_slots : ℕ
w_slots = w_jobs + 1

abbrev pub tally_words : ℕ
tally_words = w_slots + most_jobs * job_words

abbrev pub jobs_in : List ℕ → ℕ
jobs_in st = get_or st w_jobs 0

-- the first word of slot i
abbrev pub slot_at : ℕ → ℕ
slot_at i = w_slots + i * job_words

-- the try word of slot i
abbrev pub try_at : List ℕ → ℕ → ℕ
try_at st i = get_or st (slot_at i + w_try) 0

-- ---- 9.22: bits of the try word: a try was closed, the first one passed, the last one closed passed, a call fails the open one
abbrev pub b_closed : ℕ
b_closed = 0

abbrev pub b_first : ℕ
b_first = 1

abbrev pub b_final : ℕ
b_final = 2

abbrev pub b_failing : ℕ
b_failing = 3

abbrev pub try_words : ℕ
try_words = 2 ^ (b_failing + 1)

-- ---- 9.23: words that are no tally; a try that passed is a closed one
unfoldable pub try_ok : ℕ → Bool
try_ok w = ltb w try_words && (has w b_closed || not (has w b_first || has w b_final))

unfoldable pub tally_ok : List ℕ → Bool
tally_ok st =
    eqb (length st) tally_words
    && (leb (jobs_in st) most_jobs
    && all (jobs_in st) (λ (i : ℕ). try_ok (try_at st i)))

-- ---- 9.25: a tally that was told nothing
unfoldable pub empty_tally : List ℕ
empty_tally = upto (λ (k : ℕ). 0) tally_words

-- ---- how many k below n pass
abbrev pub bit : Bool → ℕ
bit b = cond b 1 0

unfoldable pub count_if : (ℕ → Bool) → ℕ → ℕ
count_if f zero = 0
count_if f (suc n) = count_if f n + bit (f n)

-- how many slots have bit b in their try word
unfoldable pub jobs_with : List ℕ → ℕ → ℕ
jobs_with st b = count_if (λ (i : ℕ). has (try_at st i) b) (jobs_in st)
