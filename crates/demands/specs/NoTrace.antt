-- LAWS. 8.10: refused calls leave no trace. Assumes nothing.
use Rattle.std.specs.Prelude.{ℕ, ◌≡◌, refl, false, List}
use Rattle.std.proofs.lemmas.Bool.{eqb-false}
use Rattle.call_answer.specs.Push.{push_spec}
use Rattle.call_answer.specs.Close.{close_spec}
use Rattle.demand_calls.proofs.RunLaws.{traceless}
use Rattle.demand_calls.specs.Runs.{Call, pushing, seeding, closing, accepts}
use Rattle.demands.specs.Demand1.{demand1}
use Rattle.demands.specs.Demands.{answer, NoTrace}

-- a refused call leaves the state and the store
pub refused-leaves : (st store : List ℕ) (c : Call) → accepts (answer st store c) ≡ false
    → ((answer st store c).state ≡ st) × ((answer st store c).store ≡ store)
unfolding answer
refused-leaves st store (pushing rows r) f =
    let k : ((push_spec st store rows r).state ≡ st) × ((push_spec st store rows r).store ≡ store) × ((push_spec st store rows r).rows ≡ rows) =
    (demand1.push st store rows r).same (eqb-false _ 0 f) in
    (k.0, k.1)
refused-leaves st store (seeding k x) f = ((demand1.seeds st k x).same (eqb-false _ 0 f), refl)
refused-leaves st store (closing rows) f =
    let k : ((close_spec st store rows).state ≡ st) × ((close_spec st store rows).store ≡ store) × ((close_spec st store rows).rows ≡ rows) =
    (demand1.close st store rows).same (eqb-false _ 0 f) in
    (k.0, k.1)

pub no_trace : NoTrace
no_trace = traceless answer refused-leaves
