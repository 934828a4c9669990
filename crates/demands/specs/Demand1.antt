-- LAWS. Demand 1 holds of the four calls. Assumes nothing.
use Rattle.std.specs.Prelude.{ℕ, ◌≤◌, ◌≡◌, refl, List, length, leb, eqb}
use Rattle.std.proofs.Common.{sym, ◌∙◌, arith, eqb-true, leb-true}
use Rattle.floats.specs.Truth.{by_bit}
use Rattle.call_reply.specs.declared.Reply.{Reply}
use Rattle.floats.specs.Lists.{member}
use Rattle.floats.specs.Fill.{length-upto}
use Rattle.layout.specs.Layout.{state_words, last_code}
use Rattle.row_numbers.specs.RowNumbers.{within}
use Rattle.saved_state.specs.State.{state_ok, tol_ok, codes_ok, geometric, held, saved_check}
use Rattle.call_reply.specs.Replies.{plain, AfterState, too_few, untouched}
use Rattle.call_start.specs.Start.{fresh_word, fresh, start_spec}
use Rattle.call_seed.specs.Seed.{seeded, seed_spec}
use Rattle.push_check.specs.Refusal.{push_check}
use Rattle.call_answer.specs.Push.{push_rows, push_done, push_spec}
use Rattle.row_room.specs.Room.{fits}
use Rattle.call_answer.specs.Close.{close_rows, close_state, close_spec}
use Rattle.demand_calls.specs.Laws.{cond_both}
use Rattle.demand_calls.specs.PlaceLaws.{spliced-rows}
use Rattle.demand_calls.specs.Safe.{Turned, Safe, SafeState}
use Rattle.demand_state.specs.Accepted.{Saved, saved, Pushed, pushed}
use Rattle.demand_state.specs.Lengths.{placed-length, forgotten-length, push_state-length, push_store-length}
use Rattle.demands.specs.Demands.{Demand1}
use Rattle.demand_state.specs.Refusals.{saved-number, push-number}
use Rattle.demands.specs.RowLengths.{push_rows-long, close_rows-long}
use Rattle.demand_calls.specs.Places.{places}
use Rattle.demand_calls.proofs.SafeLaws.{done_safe, few-turned, kept_safe, kept-state, new-state, plain-turned}

-- ---- start and seed
start_safe : (st : List ℕ) (tol : ℕ) (axes : List ℕ) → SafeState (start_spec st tol axes) st
unfolding start_spec fresh
start_safe st tol axes =
    by_bit (eqb (length st) state_words)
    (λ a. rw a
    (cond_both (λ (x : AfterState). SafeState x st) (tol_ok tol)
    (cond_both (λ (x : AfterState). SafeState x st) (codes_ok axes)
    (new-state st (fresh tol axes) (length-upto (fresh_word tol axes) state_words ∙ sym (eqb-true (length st) state_words a)))
    (kept-state 2 st (omega arith)))
    (kept-state 1 st (omega arith))))
    (λ a. rw a (kept-state 9 st (omega arith)))

seeded-length : (st : List ℕ) (code x : ℕ) → length (seeded st code x) ≡ length st
unfolding seeded
seeded-length st code x = cond_both (λ (s : List ℕ). length s ≡ length st) (member code (geometric st)) (placed-length st code x) refl

seed_safe : (st : List ℕ) (code x : ℕ) → SafeState (seed_spec st code x) st
unfolding seed_spec
seed_safe st code x =
    cond_both (λ (a : AfterState). SafeState a st) (state_ok st)
    (cond_both (λ (a : AfterState). SafeState a st) (leb code last_code)
    (cond_both (λ (a : AfterState). SafeState a st) (within x) (new-state st (seeded st code x) (seeded-length st code x)) (kept-state 3 st (omega arith)))
    (kept-state 2 st (omega arith)))
    (kept-state 9 st (omega arith))

-- ---- push and close
untouched_safe : (p : Reply) (st store rows : List ℕ) → Turned p → Safe (untouched p st store rows) st store rows
unfolding untouched
untouched_safe p st store rows t = kept_safe p st store rows t

push-done : (st store rows r : List ℕ) → push_check st store r ≡ 0 → length (push_rows st store r) ≤ places rows
    → Safe (push_done st store rows r (push_rows st store r)) st store rows
unfolding push_done
push-done st store rows r e f =
    let p : Pushed st store r = pushed st store r e in
    done_safe _ st store rows refl
    (push_state-length st r p.saved.words ∙ sym p.saved.words)
    (push_store-length st store r p)
    (spliced-rows (push_rows st store r) rows (push_rows-long st store r) f)

push_safe : (st store rows r : List ℕ) → Safe (push_spec st store rows r) st store rows
unfolding push_spec
push_safe st store rows r =
    by_bit (eqb (push_check st store r) 0)
    (λ a. by_bit (fits (push_rows st store r) rows)
    (λ b. rw (a, b) (push-done st store rows r (eqb-true _ 0 a) (leb-true _ _ b)))
    (λ b. rw (a, b) (untouched_safe (too_few _) st store rows (few-turned _))))
    (λ a. rw a (untouched_safe (plain _) st store rows (plain-turned _ (push-number st store r).low)))

close_state-length : (st : List ℕ) → length st ≡ state_words → length (close_state st) ≡ state_words
unfolding close_state
close_state-length st e = cond_both (λ (s : List ℕ). length s ≡ state_words) (eqb (held st) 0) e (forgotten-length st e)

close_safe : (st store rows : List ℕ) → Safe (close_spec st store rows) st store rows
unfolding close_spec
close_safe st store rows =
    by_bit (eqb (saved_check st store) 0)
    (λ a. by_bit (fits (close_rows st store) rows)
    (λ b. let s : Saved st store = saved st store (eqb-true _ 0 a) in
    rw (a, b) (done_safe _ st store rows refl
    (close_state-length st s.words ∙ sym s.words) refl (spliced-rows (close_rows st store) rows (close_rows-long st store) (leb-true _ _ b))))
    (λ b. rw (a, b) (untouched_safe (too_few _) st store rows (few-turned _))))
    (λ a. rw a (untouched_safe (plain _) st store rows (plain-turned _ (saved-number st store).low)))

pub demand1 : Demand1
demand1 = record { start = start_safe; seeds = seed_safe; push = push_safe; close = close_safe }
