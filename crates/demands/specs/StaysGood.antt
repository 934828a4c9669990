-- LAWS. From an accepted start on, no call leaves a state or a store that 9 or 8 would refuse, so a close with room is always accepted. Assumes nothing.
use Rattle.std.specs.Prelude.{ℕ, ◌≤◌, ◌≡◌, true, List, length}
use Rattle.std.proofs.Common.{◌∙◌, ap₂, eqb-true}
use Rattle.std.proofs.Math.Path.{ap}
use Rattle.row_numbers.specs.RowNumbers.{within}
use Rattle.floats.specs.Truth.{by_bit}
use Rattle.saved_state.specs.State.{tol_ok, codes_ok, state_ok, saved_check}
use Rattle.demand_calls.specs.Places.{places}
use Rattle.demand_calls.specs.Runs.{Call, pushing, seeding, closing, accepts, run}
use Rattle.demand_state.specs.Accepted.{saved, Pushed, pushed}
use Rattle.demand_state.specs.Keeps.{push-saved}
use Rattle.demands.specs.Answers.{close_done, push-done, push-accepted, close-done, close-accepted, seed-left}
use Rattle.demand_close.specs.Again.{close-saved}
use Rattle.demands.specs.Demands.{answer}
use Rattle.demands.specs.NoTrace.{refused-leaves}
use Rattle.call_reply.specs.Replies.{After, AfterState, plain}
use Rattle.call_start.specs.Start.{fresh}
use Rattle.call_seed.specs.Seed.{seeded, seed_spec}
use Rattle.push_check.specs.Refusal.{push_check}
use Rattle.call_answer.specs.Push.{push_rows, push_done}
use Rattle.call_answer.specs.Close.{close_rows, close_spec}
use Rattle.demand_calls.proofs.RunLaws.{run-keeps}
use Rattle.demand_state.specs.Begun.{fresh-saved, seeded-saved}

-- ---- any call
answer-saved : (st store : List ℕ) (c : Call) → saved_check st store ≡ 0 → saved_check (answer st store c).state (answer st store c).store ≡ 0
answer-saved st store c s =
    by_bit (accepts (answer st store c))
    (accepted c)
    (λ f. let k : ((answer st store c).state ≡ st) × ((answer st store c).store ≡ store) = refused-leaves st store c f in ap₂ saved_check k.0 k.1 ∙ s)
  where
    accepted : (c : Call) → accepts (answer st store c) ≡ true → saved_check (answer st store c).state (answer st store c).store ≡ 0
    accepted (pushing rows r) y = unfold answer push_done in
        let ok : (push_check st store r ≡ 0) × (length (push_rows st store r) ≤ places rows) = push-accepted st store r rows (eqb-true _ 0 y) in
        let p : Pushed st store r = pushed st store r ok.0 in
        ap (λ (a : After). saved_check a.state a.store) (push-done st store r rows ok.0 ok.1)
        ∙ push-saved st store r s p.row p.space
    accepted (seeding c x) y = unfold answer in
        let l : (state_ok st ≡ true) × (seed_spec st c x ≡ record { reply = plain 0; state = seeded st c x }) × (within x ≡ true) = seed-left st c x y in
        ap (λ (a : AfterState). saved_check a.state store) l.1 ∙ seeded-saved st store c x s l.2
    accepted (closing rows) y = unfold answer close_done in
        let ok : (saved_check st store ≡ 0) × (length (close_rows st store) ≤ places rows) = close-accepted st store rows (eqb-true _ 0 y) in
        ap (λ (a : After). saved_check a.state a.store) (close-done st store rows ok.0 ok.1) ∙ close-saved st store (saved st store s).state

pub run-saved : (st store : List ℕ) (cs : List Call) → saved_check st store ≡ 0 → saved_check (run answer st store cs).state (run answer st store cs).store ≡ 0
run-saved st store cs = run-keeps answer (λ (st store : List ℕ). saved_check st store ≡ 0) answer-saved st store cs

-- so demand 3 asks for nothing that cannot be had: a close with room for its rows is accepted after any calls
pub close-goes : (tol : ℕ) (axes store : List ℕ) (cs : List Call) (rows : List ℕ) → tol_ok tol ≡ true → codes_ok axes ≡ true
    → length (close_rows (run answer (fresh tol axes) store cs).state (run answer (fresh tol axes) store cs).store) ≤ places rows
    → (close_spec (run answer (fresh tol axes) store cs).state (run answer (fresh tol axes) store cs).store rows).reply.code ≡ 0
unfolding close_done
close-goes tol axes store cs rows t ok h =
    ap (λ (a : After). a.reply.code)
    (close-done (run answer (fresh tol axes) store cs).state (run answer (fresh tol axes) store cs).store rows
    (run-saved (fresh tol axes) store cs (fresh-saved tol axes t ok store)) h)
