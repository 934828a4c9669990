-- LAWS. Every job is in one lot, so that the lots add up to all jobs. Assumes nothing.
use Rattle.std.specs.Prelude.{ℕ, zero, suc, ◌+◌, ◌<◌, ◌≡◌, refl, Bool, true, false, cond, List, eqb, get_or}
use Rattle.std.proofs.Common.{sym, ◌∙◌, ap, ap₂, arith}
use Rattle.std.proofs.lemmas.Bool.{false≢true}
use Rattle.floats.specs.Truth.{by_bit, or_t}
use Rattle.row_cells.specs.Bits.{has}
use Rattle.row_cells.specs.Masks.{with-other}
use Rattle.tally_words.specs.Words.{bit, count_if, b_closed, b_first, b_final}
use Rattle.night_marks.specs.Marks.{mark_number, mark_after, b_left, is_over}
use Rattle.night_counts.specs.Counts.{count_with}
use Rattle.night_tried.specs.Tried.{tries_of}
use Rattle.night_lots.specs.Lot.{at_first, when_coarser, never_passed, not_closed, not_tried, lot_of}
use Rattle.night_jobs.specs.Jobs.{count_lot, Settled}

-- ---- one job, one lot
abbrev lots : ℕ → ℕ
lots l = bit (eqb l at_first) + bit (eqb l when_coarser) + bit (eqb l never_passed) + bit (eqb l not_closed) + bit (eqb l not_tried)

one_lot : (m tries tolerances : ℕ) → lots (lot_of m tries tolerances) ≡ 1
unfolding lot_of
one_lot m tries tolerances =
    by_bit (has m b_final)
    (λ h. by_bit (has m b_first) (λ g. rw (h, g)) (λ g. rw (h, g)))
    (λ h. by_bit (is_over m tries tolerances) (λ o. by_bit (has m b_closed) (λ g. rw (h, o, g)) (λ g. rw (h, o, g))) (λ o. rw (h, o)))

-- ---- 11.20: so the lots add up to all jobs
pub lots_add : (marks words : List ℕ) (tolerances n : ℕ)
    → count_lot marks words n tolerances at_first
    + count_lot marks words n tolerances when_coarser
    + count_lot marks words n tolerances never_passed
    + count_lot marks words n tolerances not_closed
    + count_lot marks words n tolerances not_tried
    ≡ n
unfolding count_lot count_if
lots_add marks words tolerances zero = refl
lots_add marks words tolerances (suc n) =
    let o = one_lot (get_or marks n 0) (tries_of (get_or words n 0)) tolerances in omega (arith, lots_add marks words tolerances n, o)

-- ---- a first try that passed is the last one, so what the first rate counts is the first lot
pub settled-none : Settled 0
unfolding has
settled-none h = absurd (false≢true h)

first_of : (a b x : Bool) → has (mark_number a b x) b_first ≡ b
unfolding mark_number has
first_of true true true = refl
first_of true true false = refl
first_of true false true = refl
first_of true false false = refl
first_of false true true = refl
first_of false true false = refl
first_of false false true = refl
first_of false false false = refl

final_of : (a b x : Bool) → has (mark_number a b x) b_final ≡ x
unfolding mark_number has
final_of true true true = refl
final_of true true false = refl
final_of true false true = refl
final_of true false false = refl
final_of false true true = refl
final_of false true false = refl
final_of false false true = refl
final_of false false false = refl

-- behind a job that is not done with
pub settled-after : (m tries tolerances : ℕ) (closed passed : Bool) → is_over m tries tolerances ≡ false → Settled m → Settled (mark_after m closed passed)
unfolding mark_after is_over
settled-after m tries tolerances true passed o s =
    by_bit (has m b_closed) (λ h. late h) (λ h. early h)
  where
    fresh : has m b_first ≡ false
    fresh = by_bit (has m b_first) (λ f. absurd (false≢true (sym o ∙ or_t _ (s f)))) (λ f. f)

    late : has m b_closed ≡ true → Settled (mark_number true (cond (has m b_closed) (has m b_first) passed) passed)
    late h = rw (h, fresh) (λ g. absurd (false≢true (sym (first_of true false passed) ∙ g)))

    early : has m b_closed ≡ false → Settled (mark_number true (cond (has m b_closed) (has m b_first) passed) passed)
    early h = rw (h) (λ g. final_of true passed passed ∙ sym (first_of true passed passed) ∙ g)
settled-after m tries tolerances false passed o s =
    λ g. with-other m b_left b_final (λ z. absurd (omega arith)) ∙ s (sym (with-other m b_left b_first (λ z. absurd (omega arith))) ∙ g)

first_lot : (m tries tolerances : ℕ) → Settled m → eqb (lot_of m tries tolerances) at_first ≡ has m b_first
unfolding lot_of
first_lot m tries tolerances s =
    by_bit (has m b_first)
    (λ f. rw (s f, f))
    (λ f. by_bit (has m b_final) (λ h. rw (h, f)) (λ h. by_bit (is_over m tries tolerances)
    (λ o. by_bit (has m b_closed) (λ g. rw (h, o, g, f)) (λ g. rw (h, o, g, f))) (λ o. rw (h, o, f))))

pub first_counted : (marks words : List ℕ) (tolerances n : ℕ) → ((i : ℕ) → i < n → Settled (get_or marks i 0))
    → count_lot marks words n tolerances at_first ≡ count_with marks n b_first
unfolding count_lot count_with count_if
first_counted marks words tolerances zero s = refl
first_counted marks words tolerances (suc n) s =
    ap₂ (λ (x y : ℕ). x + y)
    (first_counted marks words tolerances n (λ i l. s i (omega arith)))
    (ap bit (first_lot (get_or marks n 0) (tries_of (get_or words n 0)) tolerances (s n (omega arith))))
