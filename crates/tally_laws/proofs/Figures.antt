-- LAWS. Each figure of a job by what it counts among the job's calls, and its try word by their tries. Assumes nothing.
use Rattle.std.specs.Prelude.{ℕ, ◌+◌, ◌-◌, ◌<◌, ◌≤◌, ◌≡◌, refl, Bool, ◌&&◌, cond, List, [], ◌∷◌, length, eqb, leb}
use Rattle.std.proofs.Common.{◌∙◌, ap, ne_of_gt, arith, ne_eqb, le-leb}
use Rattle.std.proofs.lemmas.Bool.{lt-leb}
use Rattle.floats.specs.Lists.{keep}
use Rattle.floats.specs.Truth.{by_bit, cond-t, cond-f}
use Rattle.row_cells.specs.Bits.{has}
use Rattle.tally_words.specs.Words.{b_closed, b_first, b_final, b_failing}
use Rattle.tally_words.specs.Words.{most_warning, most_code, w_blocks, w_rows, w_marked, w_turned, w_try, empty_tally, bit}
use Rattle.tally_call.specs.Calls.{k_push, figure}
use Rattle.tally_call.specs.declared.Call.{Call}
use Rattle.tally_laws.specs.Jobs.{Note, run, taken, calls_of, sum_of}
use Rattle.tally_laws.specs.Statements.{total, accepted, try_in, FiguresAre}
use Rattle.tally_laws.proofs.JobLaws.{try_of, try-bits}
use Rattle.tally_laws.proofs.Holds.{old-word}
use Rattle.tally_laws.proofs.Counts.{holds, figures-count, try-word}

-- ---- sums of figures: of those that count, and of those that add up
sum-keep : (k : ℕ) (p : Call → Bool) → ((c : Call) → figure c k ≡ bit (p c)) → (cs : List Call) → sum_of k cs ≡ length (keep p cs)
unfolding sum_of keep
sum-keep k p e [] = refl
sum-keep k p e (c ∷ cs) =
    let r : sum_of k cs ≡ length (keep p cs) = sum-keep k p e cs in
    let f : figure c k ≡ bit (p c) = e c in
    rw (f, r) (by_bit (p c) (λ b. rw b (omega arith)) (λ b. rw b (omega arith)))

sum-total : (k : ℕ) (f : Call → ℕ) → ((c : Call) → figure c k ≡ cond (accepted c) (f c) 0) → (cs : List Call) → sum_of k cs ≡ total f (keep accepted cs)
unfolding sum_of keep total
sum-total k f e [] = refl
sum-total k f e (c ∷ cs) =
    let r : sum_of k cs ≡ total f (keep accepted cs) = sum-total k f e cs in
    let g : figure c k ≡ cond (accepted c) (f c) 0 = e c in
    rw (g, r) (by_bit (accepted c) (λ b. rw b) (λ b. rw b (omega arith)))

-- ---- what a call adds to each figure
block-bit : (c : Call) → figure c w_blocks ≡ bit (accepted c && eqb c.kind k_push)
unfolding figure
block-bit c = by_bit (accepted c) (λ b. rw b) (λ b. rw b)

row_count : (c : Call) → figure c w_rows ≡ cond (accepted c) c.count 0
unfolding figure
row_count c = refl

mark-count : (c : Call) → figure c w_marked ≡ cond (accepted c) c.marked 0
unfolding figure
mark-count c = refl

-- a figure past the first three
later : (c : Call) (k : ℕ) → w_marked < k → figure c k ≡ cond (leb k w_turned) (bit (eqb c.warning (k - w_marked))) (bit (eqb c.code (k - w_turned)))
unfolding figure
later c k l =
    cond-f _ _ (ne_eqb k w_blocks (ne_of_gt (omega arith)))
    ∙ cond-f _ _ (ne_eqb k w_rows (ne_of_gt (omega arith)))
    ∙ cond-f _ _ (ne_eqb k w_marked (ne_of_gt l))

warn_bit : (w : ℕ) → 0 < w → w ≤ most_warning → (c : Call) → figure c (w_marked + w) ≡ bit (eqb c.warning w)
warn_bit w l h c =
    let e : w_marked + w - w_marked ≡ w = omega arith in
    later c (w_marked + w) (omega arith)
    ∙ cond-t _ _ (le-leb (w_marked + w) w_turned (omega arith))
    ∙ ap (λ (x : ℕ). bit (eqb c.warning x)) e

turn-bit : (n : ℕ) → 0 < n → n ≤ most_code → (c : Call) → figure c (w_turned + n) ≡ bit (eqb c.code n)
turn-bit n l h c =
    let e : w_turned + n - w_turned ≡ n = omega arith in
    later c (w_turned + n) (omega arith)
    ∙ cond-f _ _ (lt-leb (w_turned + n) w_turned (omega arith))
    ∙ ap (λ (x : ℕ). bit (eqb c.code x)) e

-- the try word
try-in : (ns : List Note) (job : ℕ) → try_in (run empty_tally ns) job ≡ try_of (calls_of job (taken empty_tally ns))
try-in ns job = old-word (holds ns) job w_try (omega arith) (ne_of_gt (omega arith)) ∙ try-word job (calls_of job (taken empty_tally ns))

-- after any notes to a fresh tally: blocks, rows, marked rows, warned calls, refused calls and the try word of a job are what they say
pub figures_are : (ns : List Note) (job : ℕ) → FiguresAre (run empty_tally ns) job (calls_of job (taken empty_tally ns))
figures_are ns job =
    let cs : List Call = calls_of job (taken empty_tally ns) in
    record {
      blocks = figures-count ns job w_blocks (omega arith) (omega arith) ∙ sum-keep w_blocks _ block-bit cs;
      rows = figures-count ns job w_rows (omega arith) (omega arith) ∙ sum-total w_rows _ row_count cs;
      marked = figures-count ns job w_marked (omega arith) (omega arith) ∙ sum-total w_marked _ mark-count cs;
      warned = λ w l h. figures-count ns job (w_marked + w) (omega arith) (omega arith) ∙ sum-keep (w_marked + w) _ (warn_bit w l h) cs;
      turned = λ n l h. figures-count ns job (w_turned + n) (omega arith) (omega arith) ∙ sum-keep (w_turned + n) _ (turn-bit n l h) cs;
      closed = ap (λ (w : ℕ). has w b_closed) (try-in ns job) ∙ (try-bits cs).b0;
      first = ap (λ (w : ℕ). has w b_first) (try-in ns job) ∙ (try-bits cs).b1;
      final = ap (λ (w : ℕ). has w b_final) (try-in ns job) ∙ (try-bits cs).b2;
      failing = ap (λ (w : ℕ). has w b_failing) (try-in ns job) ∙ (try-bits cs).b3;
    }
