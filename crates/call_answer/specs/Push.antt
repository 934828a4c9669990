-- DEFINITIONS. What a push answers and leaves: rules 2.2, 2.19, 3.4. Assumes nothing.
use Rattle.std.specs.Prelude.{ℕ, cond, List, ◌++◌, length, eqb}
use Rattle.floats.specs.Lists.{flatten, spliced}
use Rattle.call_reply.specs.Replies.{plain, too_few, After, untouched}
use Rattle.spline_answer.specs.Held.{emission}
use Rattle.row_room.specs.Room.{fits}
use Rattle.push_resolve.specs.Blocks.{emits, news}
use Rattle.push_check.specs.Refusal.{push_check}
use Rattle.call_answer.specs.Answer.{own_answer}
use Rattle.push_state.specs.Pushed.{push_state, push_store}

-- ---- the rows (3.4): room is judged for all of them at once
unfoldable pub push_rows : List ℕ → List ℕ → List ℕ → List (List ℕ)
push_rows st store r = let own = (own_answer st r).rows in cond (emits st r) (emission st store ++ own) own

unfoldable pub push_done : List ℕ → List ℕ → List ℕ → List ℕ → List (List ℕ) → After
push_done st store rows r out =
    let own = own_answer st r in
    record {
      reply = record { code = 0; count = length out; warning = cond (news st r) 7 own.warning; wanted = own.wanted; held = own.held };
      state = push_state st r;
      store = push_store st store r;
      rows = spliced rows 0 (flatten out);
    }

unfoldable pub push_spec : List ℕ → List ℕ → List ℕ → List ℕ → After
push_spec st store rows r =
    let out = push_rows st store r in
    let room = cond (fits out rows) (push_done st store rows r out) (untouched (too_few (length out)) st store rows) in
    cond (eqb (push_check st store r) 0) room (untouched (plain (push_check st store r)) st store rows)
