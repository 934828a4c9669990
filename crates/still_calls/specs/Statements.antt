-- DEFINITIONS. 10.4 and 10.6 of the calls: the motion in force in what they write, and which marked rows stay curved. Assumes nothing.
use Rattle.std.specs.Prelude.{ℕ, ◌≤◌, ◌≡◌, List}
use Rattle.motion.specs.Motion.{g_one, last_motion}
use Rattle.row_cells.specs.Codes.{geometric_of}
use Rattle.saved_state.specs.State.{geometric}
use Rattle.call_start.specs.Start.{start_spec}
use Rattle.demand_calls.specs.Runs.{Call, wrote, run}
use Rattle.demands.specs.Demands.{answer}
use Rattle.still_curved.specs.Curved.{motion_behind}
use Rattle.still_laws.specs.Statements.{OnlyBehindLone}

-- 10.6 of what one call writes, whatever state and store it is given; the lone word is then the same call's
abbrev pub EachCall : Type 0
EachCall = (st store : List ℕ) (c : Call) → OnlyBehindLone (geometric st) (wrote (answer st store c))

-- 10.6 of all that any calls write, refused ones and closes among them, behind an accepted start
abbrev pub EachRun : Type 0
EachRun =
    (old : List ℕ) (tol : ℕ) (axes store : List ℕ) (cs : List Call) → (start_spec old tol axes).reply.code ≡ 0
    → OnlyBehindLone (geometric_of axes) (run answer (start_spec old tol axes).state store cs).out

-- 10.4 of the same, from any state on: begun under G1, one of 1 to 31 is in force behind any of the rows
abbrev pub EachForce : Type 0
EachForce =
    (st store : List ℕ) (cs : List Call) (n : ℕ)
    → let out = (run answer st store cs).out in (1 ≤ motion_behind g_one out n) × (motion_behind g_one out n ≤ last_motion)
