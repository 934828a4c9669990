-- CONTRACTS. The end of a push, where nothing can refuse any more: what it asks, answers and leaves. Assumes nothing.
use Rattle.std.specs.Prelude.{ℕ, ◌+◌, ◌*◌, ◌^◌, ◌<◌, ◌≤◌, ◌≡◌, false, cond, List, length}
use Rattle.floats.specs.Lists.{flatten, spliced}
use Rattle.layout.specs.Layout.{row_words, most_held}
use Rattle.arc_rows.specs.declared.Plan.{Plan}
use Rattle.saved_state.specs.State.{held}
use Rattle.push_resolve.specs.Blocks.{news}
use Rattle.push_check.specs.Refusal.{is_full, push_check}
use Rattle.push_resolve.specs.declared.Resolved.{Resolved}
use Rattle.push_resolve.specs.Resolved.{resolved}
use Rattle.push_state.specs.Pushed.{push_state, push_store}
use Rattle.push_rows.specs.Own.{Ready, OwnPlanned, own_rows}
use Rattle.call_reply.specs.Replies.{After, done_reply}

-- the block passed every check but that of room, and is resolved
pub record Passed (st store r : List ℕ) (b : Resolved) : Type 0 where
  pub check : push_check st store r ≡ 0
  pub told : b ≡ resolved st r

-- the block is planned too, and there is room for its rows after the n first ones
pub record Settles (st store r : List ℕ) (b : Resolved) (rows : List ℕ) (n : ℕ) (p : Plan) : Type 0 where
  pub ready : Ready st r b
  pub planned : OwnPlanned st r p
  pub few : held st ≤ most_held
  pub space : is_full st store r ≡ false
  pub small : (n + p.count) * row_words < 2 ^ 64
  pub room : n * row_words + p.count * row_words ≤ length rows

unfoldable pub settled : List ℕ → List ℕ → List ℕ → List ℕ → ℕ → Plan → After
settled st store rows r n p =
    record {
      reply = done_reply (n + p.count) (cond (news st r) 7 p.warning) p.wanted p.held;
      state = push_state st r;
      store = push_store st store r;
      rows = spliced rows (n * row_words) (flatten (own_rows st r p));
    }
