-- LAWS. 10.6 of the output of any calls behind an accepted start. Assumes nothing.
use Rattle.std.specs.Prelude.{ℕ, ◌≤◌, ◌≡◌, refl, true, List, [], ◌∷◌, eqb, length}
use Rattle.std.proofs.Common.{◌∙◌, subst, eqb-true}
use Rattle.std.proofs.Math.Path.{ap}
use Rattle.floats.specs.Truth.{by_bit}
use Rattle.floats.specs.Lists.{member}
use Rattle.row_cells.specs.Codes.{geometric_of}
use Rattle.row_numbers.specs.RowNumbers.{within}
use Rattle.saved_state.specs.State.{geometric, placed, held, state_ok, saved_check, codes_ok}
use Rattle.call_reply.specs.Replies.{After, AfterState, plain}
use Rattle.call_start.specs.Start.{fresh, start_spec}
use Rattle.call_seed.specs.Seed.{seeded, seed_spec}
use Rattle.push_check.specs.Refusal.{push_check}
use Rattle.push_start.specs.Opened.{forgotten}
use Rattle.push_start.specs.OpenedLaws.{same-geometric, same-placed, same-forgotten}
use Rattle.push_state.specs.Pushed.{push_state}
use Rattle.call_answer.specs.Push.{push_rows, push_done}
use Rattle.call_answer.specs.Close.{close_rows, close_state}
use Rattle.demand_calls.specs.Laws.{cond_both}
use Rattle.demand_calls.specs.Places.{places}
use Rattle.demand_calls.specs.Runs.{Call, pushing, seeding, closing, accepts, wrote, run}
use Rattle.demand_state.specs.Accepted.{state-words, few-axes, saved, pushed}
use Rattle.demand_state.specs.Lengths.{push_state-length}
use Rattle.demand_state.specs.StateWords.{same-axes, push-low}
use Rattle.demand_standing.proofs.Stands.{fresh-stands}
use Rattle.demands.specs.Answers.{close_done, push-done, push-accepted, close-done, close-accepted, seed-left}
use Rattle.demands.specs.Demand3.{started}
use Rattle.demands.specs.Demands.{answer}
use Rattle.demands.specs.NoTrace.{refused-leaves}
use Rattle.still_laws.specs.Statements.{OnlyBehindLone}
use Rattle.still_curved.specs.Curved.{row_at}
use Rattle.still_laws.specs.Joined.{lone-joined}
use Rattle.still_laws.specs.Rows.{each-joined}
use Rattle.still_laws.specs.Straight.{always_one}
use Rattle.still_calls.specs.Statements.{EachRun, EachForce}
use Rattle.still_calls.specs.Words.{Low}
use Rattle.still_calls.specs.Calls.{Lone, lone-none, call_lone}

-- ---- no call changes the axes
push-axes : (st r : List ℕ) → state_ok st ≡ true → geometric (push_state st r) ≡ geometric st
push-axes st r ok =
    same-axes st (push_state st r) (state-words st ok) (push_state-length st r (state-words st ok)) (few-axes st ok) (push-low st r (state-words st ok))

seed-axes : (st : List ℕ) (c x : ℕ) → state_ok st ≡ true → geometric (seeded st c x) ≡ geometric st
unfolding seeded
seed-axes st c x ok =
    cond_both (λ (s : List ℕ). geometric s ≡ geometric st) (member c (geometric st))
    (same-geometric st (placed st c x) (same-placed st c x) (few-axes st ok) (state-words st ok))
    refl

close-axes : (st : List ℕ) → state_ok st ≡ true → geometric (close_state st) ≡ geometric st
unfolding close_state
close-axes st ok =
    cond_both (λ (s : List ℕ). geometric s ≡ geometric st) (eqb (held st) 0)
    refl
    (same-geometric st (forgotten st) (same-forgotten st (state-words st ok)) (few-axes st ok) (state-words st ok))

call-axes : (st store : List ℕ) (c : Call) → geometric (answer st store c).state ≡ geometric st
call-axes st store c = by_bit (accepts (answer st store c)) (accepted c) (λ f. ap geometric (refused-leaves st store c f).0)
  where
    accepted : (c : Call) → accepts (answer st store c) ≡ true → geometric (answer st store c).state ≡ geometric st
    accepted (pushing rows r) y = unfold answer push_done in
        let ok : (push_check st store r ≡ 0) × (length (push_rows st store r) ≤ places rows) = push-accepted st store r rows (eqb-true _ 0 y) in
        ap (λ (a : After). geometric a.state) (push-done st store r rows ok.0 ok.1) ∙ push-axes st r (pushed st store r ok.0).saved.state
    accepted (seeding k x) y = unfold answer in
        let l : (state_ok st ≡ true) × (seed_spec st k x ≡ record { reply = plain 0; state = seeded st k x }) × (within x ≡ true) = seed-left st k x y in
        ap (λ (a : AfterState). geometric a.state) l.1 ∙ seed-axes st k x l.0
    accepted (closing rows) y = unfold answer close_done in
        let ok : (saved_check st store ≡ 0) × (length (close_rows st store) ≤ places rows) = close-accepted st store rows (eqb-true _ 0 y) in
        ap (λ (a : After). geometric a.state) (close-done st store rows ok.0 ok.1) ∙ close-axes st (saved st store ok.0).state

-- ---- one call behind another
run-lone : (gs st store : List ℕ) (cs : List Call) → geometric st ≡ gs
    → (OnlyBehindLone gs (run answer st store cs).out) × ((i : ℕ) → Low (row_at (run answer st store cs).out i))
unfolding run
run-lone gs st store [] e = ((lone-none gs).only, (lone-none gs).low)
run-lone gs st store (c ∷ cs) e =
    let a : After = answer st store c in
    let out : List ℕ = (run answer a.state a.store cs).out in
    let first : Lone gs (wrote a) = subst (λ (l : List ℕ). Lone l (wrote a)) e (call_lone st store c) in
    let rest : (OnlyBehindLone gs out) × ((i : ℕ) → Low (row_at out i)) = run-lone gs a.state a.store cs (call-axes st store c ∙ e) in (
      lone-joined gs (wrote a) out first.count first.whole first.only rest.0,
      each-joined (wrote a) out first.count first.whole Low first.low rest.1,
    )

started-axes : (old : List ℕ) (tol : ℕ) (axes store : List ℕ) → (start_spec old tol axes).reply.code ≡ 0
    → geometric (start_spec old tol axes).state ≡ geometric_of axes
started-axes old tol axes store z =
    let ok : (codes_ok axes ≡ true) × ((start_spec old tol axes).state ≡ fresh tol axes) = started old tol axes z in
    ap geometric ok.1 ∙ (fresh-stands tol axes ok.0 store).axes

pub each-run : EachRun
each-run old tol axes store cs z = (run-lone (geometric_of axes) (start_spec old tol axes).state store cs (started-axes old tol axes store z)).0

pub each_force : EachForce
each_force st store cs n =
    always_one (run answer st store cs).out n (λ k l. ((run-lone (geometric st) st store cs refl).1 k).word)
