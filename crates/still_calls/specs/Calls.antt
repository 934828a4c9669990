-- LAWS. 10.6 of what any call writes: whole rows, in which a marked row stays curved only behind a lone word. Assumes nothing.
use Rattle.std.specs.Prelude.{ℕ, ◌*◌, ◌≤◌, ◌≡◌, true, List, [], length, take}
use Rattle.std.proofs.Common.{sym, subst, arith, eqb-true}
use Rattle.std.proofs.Math.Seq.{take-nil}
use Rattle.floats.specs.Truth.{by_bit, cond-t, cond-f}
use Rattle.floats.specs.Lists.{flatten}
use Rattle.layout.specs.Layout.{row_words}
use Rattle.saved_state.specs.State.{geometric, saved_check}
use Rattle.call_reply.specs.Replies.{After}
use Rattle.call_seed.specs.Seed.{seed_spec}
use Rattle.push_check.specs.Refusal.{push_check}
use Rattle.call_answer.specs.Push.{push_rows}
use Rattle.call_answer.specs.Close.{close_rows}
use Rattle.demand_calls.specs.Every.{Every, nil}
use Rattle.demand_calls.specs.Laws.{length-flatten, every_imp}
use Rattle.demand_calls.specs.Places.{places}
use Rattle.demand_calls.specs.PlaceLaws.{Long}
use Rattle.demand_calls.specs.Runs.{Call, pushing, seeding, closing, accepts, wrote}
use Rattle.demand_state.specs.Accepted.{saved, Pushed, pushed}
use Rattle.demands.specs.Answers.{push-accepted, close-accepted}
use Rattle.demands.specs.Beyond.{push_places, close-places}
use Rattle.demands.specs.Demands.{answer}
use Rattle.demands.specs.RowLengths.{push_rows-long, close_rows-long}
use Rattle.still_laws.specs.Statements.{OnlyBehindLone}
use Rattle.still_curved.specs.Curved.{row_at}
use Rattle.still_laws.specs.Rows.{every_row}
use Rattle.still_calls.specs.Statements.{EachCall}
use Rattle.still_calls.specs.Words.{Low, Rows, rows_none}
use Rattle.still_calls.specs.Written.{push-rows, close-rows}

-- whole rows, of which 10.6 holds, and whose words are motions'
pub record Lone (gs words : List ℕ) : Type 0 where
  pub count : ℕ
  pub whole : length words ≡ count * row_words
  pub only : OnlyBehindLone gs words
  pub low : (i : ℕ) → Low (row_at words i)

lone-rows : (gs : List ℕ) (out : List (List ℕ)) → Every Long out → Rows gs out → Lone gs (flatten out)
lone-rows gs out l p =
    record {
      count = length out;
      whole = length-flatten row_words out (every_imp (λ x q. q.words) l);
      only = p.only;
      low = every_row Low (record { word = omega arith }) l p.low;
    }

pub lone-none : (gs : List ℕ) → Lone gs []
unfolding flatten
lone-none gs = lone-rows gs [] nil (rows_none gs)

-- a call that is refused writes nothing
wrote-lone : (gs : List ℕ) (a : After) → (accepts a ≡ true → Lone gs (take (a.reply.count * row_words) a.rows)) → Lone gs (wrote a)
unfolding wrote
wrote-lone gs a f =
    by_bit (accepts a)
    (λ y. subst (Lone gs) (sym (cond-t _ [] y)) (f y))
    (λ n. subst (Lone gs) (sym (cond-f _ [] n)) (lone-none gs))

pub call_lone : (st store : List ℕ) (c : Call) → Lone (geometric st) (wrote (answer st store c))
unfolding answer
call_lone st store (pushing rows r) =
    wrote-lone (geometric st) _ (λ y.
    let z = eqb-true _ 0 y in
    let ok : (push_check st store r ≡ 0) × (length (push_rows st store r) ≤ places rows) = push-accepted st store r rows z in
    let p : Pushed st store r = pushed st store r ok.0 in
    subst (Lone (geometric st)) (sym (push_places st store rows r z).written)
    (lone-rows (geometric st) (push_rows st store r) (push_rows-long st store r) (push-rows st store p.saved r p.row)))
call_lone st store (seeding k x) =
    wrote-lone (geometric st) _ (λ y. subst (Lone (geometric st)) (sym (take-nil ((seed_spec st k x).reply.count * row_words))) (lone-none (geometric st)))
call_lone st store (closing rows) =
    wrote-lone (geometric st) _ (λ y.
    let z = eqb-true _ 0 y in
    let ok : (saved_check st store ≡ 0) × (length (close_rows st store) ≤ places rows) = close-accepted st store rows z in
    subst (Lone (geometric st)) (sym (close-places st store rows z).written)
    (lone-rows (geometric st) (close_rows st store) (close_rows-long st store) (close-rows st store (saved st store ok.0))))

pub each-call : EachCall
each-call st store c = (call_lone st store c).only
