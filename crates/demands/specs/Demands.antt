-- DEFINITIONS. The demands, as statements over the definitions of the four calls: rules 8.2, 8.3, 8.7, 8.10. Assumes nothing.
use Rattle.std.specs.Prelude.{ℕ, ◌≡◌, List, [], ◌++◌}
use Rattle.row_cells.specs.Codes.{geometric_of}
use Rattle.call_reply.specs.Replies.{After}
use Rattle.call_start.specs.Start.{start_spec}
use Rattle.call_seed.specs.Seed.{seed_spec}
use Rattle.call_answer.specs.Push.{push_spec}
use Rattle.call_answer.specs.Close.{close_spec}
use Rattle.demand_calls.specs.Runs.{blocks_of, Call, pushing, seeding, closing, wrote, run, Traceless}
use Rattle.demand_calls.specs.Safe.{Safe, SafeState}
use Rattle.demand_groups.specs.Written.{Written}
use Rattle.demands.specs.Pieces.{pieces}

-- 8.2, 8.3: demand 1, beside 8.1, which the exported functions' proofs say
pub record Demand1 : Type 0 where
  pub start : (st : List ℕ) (tol : ℕ) (axes : List ℕ) → SafeState (start_spec st tol axes) st
  pub seeds : (st : List ℕ) (code x : ℕ) → SafeState (seed_spec st code x) st
  pub push : (st store rows r : List ℕ) → Safe (push_spec st store rows r) st store rows
  pub close : (st store rows : List ℕ) → Safe (close_spec st store rows) st store rows

-- what a call after the start answers
unfoldable pub answer : List ℕ → List ℕ → Call → After
answer st store (pushing rows r) = push_spec st store rows r
answer st store (seeding k x) = record { reply = (seed_spec st k x).reply; state = (seed_spec st k x).state; store = store; rows = [] }
answer st store (closing rows) = close_spec st store rows

-- 8.7: after an accepted start any calls, refused ones and closes among them, and then an accepted close
abbrev pub Demand3 : Type 0
Demand3 =
    (old : List ℕ) (tol : ℕ) (axes store : List ℕ) (cs : List Call) (rows : List ℕ)
    → (start_spec old tol axes).reply.code ≡ 0
    → let x = run answer (start_spec old tol axes).state store cs in
    let last = close_spec x.state x.store rows in
    last.reply.code ≡ 0 → Written (geometric_of axes) (blocks_of x.events) (pieces tol axes x.events) (x.out ++ wrote last)

-- 8.10: refused calls change nothing
abbrev pub NoTrace : Type 0
NoTrace = Traceless answer
