-- LAWS. 2.2: places beyond the rows stay; 3.15: closing again writes nothing. Assumes nothing.
use Rattle.std.specs.Prelude.{ℕ, ◌≤◌, ◌≡◌, List, [], length}
use Rattle.std.proofs.Common.{sym, ◌∙◌, ap, subst, arith}
use Rattle.floats.specs.Lists.{flatten, spliced}
use Rattle.floats.specs.Splice.{spliced-none}
use Rattle.saved_state.specs.State.{saved_check}
use Rattle.call_reply.specs.Replies.{After}
use Rattle.push_check.specs.Refusal.{push_check}
use Rattle.call_answer.specs.Push.{push_rows, push_done, push_spec}
use Rattle.call_answer.specs.Close.{close_rows, close_state, close_spec}
use Rattle.demand_calls.specs.Places.{places, Filled}
use Rattle.demand_state.specs.Accepted.{Saved, saved}
use Rattle.demand_close.specs.Again.{close-saved, again-rows}
use Rattle.demands.specs.Answers.{close_done, push-done, push-accepted, close-done, close-accepted}
use Rattle.demands.specs.RowLengths.{push_rows-long, close_rows-long}
use Rattle.demand_calls.specs.PlaceLaws.{filled}

-- ---- 2.2: the rows, then what stood there
pub push_places : (st store rows r : List ℕ) → (push_spec st store rows r).reply.code ≡ 0
    → Filled rows (push_spec st store rows r).rows (push_spec st store rows r).reply.count (push_rows st store r)
unfolding push_done
push_places st store rows r z =
    let ok : (push_check st store r ≡ 0) × (length (push_rows st store r) ≤ places rows) = push-accepted st store r rows z in
    subst (λ (a : After). Filled rows a.rows a.reply.count (push_rows st store r)) (sym (push-done st store r rows ok.0 ok.1))
    (filled rows (push_rows st store r) (push_rows-long st store r))

pub close-places : (st store rows : List ℕ) → (close_spec st store rows).reply.code ≡ 0
    → Filled rows (close_spec st store rows).rows (close_spec st store rows).reply.count (close_rows st store)
unfolding close_done
close-places st store rows z =
    let ok : (saved_check st store ≡ 0) × (length (close_rows st store) ≤ places rows) = close-accepted st store rows z in
    subst (λ (a : After). Filled rows a.rows a.reply.count (close_rows st store)) (sym (close-done st store rows ok.0 ok.1))
    (filled rows (close_rows st store) (close_rows-long st store))

-- ---- 3.15: closing again writes nothing
pub close-again : (st store rows lent : List ℕ) → (close_spec st store rows).reply.code ≡ 0
    → ((close_spec (close_state st) store lent).reply.code ≡ 0) × ((close_spec (close_state st) store lent).reply.count ≡ 0) ×
    ((close_spec (close_state st) store lent).rows ≡ lent)
unfolding close_done flatten
close-again st store rows lent z =
    let ok : (saved_check st store ≡ 0) × (length (close_rows st store) ≤ places rows) = close-accepted st store rows z in
    let p : Saved st store = saved st store ok.0 in
    let e : close_rows (close_state st) store ≡ [] = again-rows st store p in
    let n : length (close_rows (close_state st) store) ≡ 0 = ap length e in
    let d : close_spec (close_state st) store lent ≡ close_done (close_state st) store lent (close_rows (close_state st) store) =
    close-done (close_state st) store lent (close-saved st store p.state) (omega arith) in (
      ap (λ (a : After). a.reply.code) d,
      ap (λ (a : After). a.reply.count) d ∙ n,
      ap (λ (a : After). a.rows) d ∙ ap (λ (out : List (List ℕ)). spliced lent 0 (flatten out)) e ∙ sym (spliced-none lent 0),
    )
