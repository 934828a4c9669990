-- DEFINITIONS. What a close answers and leaves: rules 2.20, 3.15. Assumes nothing.
use Rattle.std.specs.Prelude.{ℕ, cond, List, [], length, eqb}
use Rattle.floats.specs.Lists.{flatten, spliced}
use Rattle.saved_state.specs.State.{held, saved_check}
use Rattle.call_reply.specs.Replies.{plain, After, too_few, untouched}
use Rattle.spline_answer.specs.Held.{emission}
use Rattle.push_start.specs.Opened.{forgotten}
use Rattle.row_room.specs.Room.{fits}

unfoldable pub close_rows : List ℕ → List ℕ → List (List ℕ)
close_rows st store = cond (eqb (held st) 0) [] (emission st store)

unfoldable pub close_state : List ℕ → List ℕ
close_state st = cond (eqb (held st) 0) st (forgotten st)

-- 2.20: the order of refusals
unfoldable pub close_spec : List ℕ → List ℕ → List ℕ → After
close_spec st store rows =
    let out = close_rows st store in
    let done : After = record {
      reply = record { code = 0; count = length out; warning = 0; wanted = 0; held = 0 };
      state = close_state st;
      store = store;
      rows = spliced rows 0 (flatten out);
    } in
    let room = cond (fits out rows) done (untouched (too_few (length out)) st store rows) in
    cond (eqb (saved_check st store) 0) room (untouched (plain (saved_check st store)) st store rows)
