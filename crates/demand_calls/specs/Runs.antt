-- DEFINITIONS. A run of calls, whatever answers them: what they leave and write, and the events that were accepted: rules 8.7, 8.10. Assumes nothing.
use Rattle.std.specs.Prelude.{ℕ, ◌*◌, ◌≡◌, Bool, cond, List, [], ◌∷◌, ◌++◌, take, eqb}
use Rattle.layout.specs.Layout.{row_words}
use Rattle.call_reply.specs.Replies.{After}

-- what a host gives after a start: seeds, blocks, and closes on the way
pub data Event : Type 0 where
  seed : ℕ → ℕ → Event
  block : List ℕ → Event
  closed : Event

unfoldable pub blocks_of : List Event → List (List ℕ)
blocks_of [] = []
blocks_of (seed k x ∷ es) = blocks_of es
blocks_of (block r ∷ es) = r ∷ blocks_of es
blocks_of (closed ∷ es) = blocks_of es

-- a call after the start, with the row places lent to it
pub data Call : Type 0 where
  pushing : List ℕ → List ℕ → Call
  seeding : ℕ → ℕ → Call
  closing : List ℕ → Call

-- the event that an accepted call is
unfoldable pub event_of : Call → Event
event_of (pushing rows r) = block r
event_of (seeding k x) = seed k x
event_of (closing rows) = closed

abbrev pub accepts : After → Bool
accepts a = eqb a.reply.code 0

-- the words that an accepted call wrote; a refused one wrote none
unfoldable pub wrote : After → List ℕ
wrote a = cond (accepts a) (take (a.reply.count * row_words) a.rows) []

unfoldable pub taken : After → Call → List Event
taken a c = cond (accepts a) (event_of c ∷ []) []

-- what some calls come to: the state and the store, all that was written, and the accepted events
pub record Ran : Type 0 where
  pub state : List ℕ
  pub store : List ℕ
  pub out : List ℕ
  pub events : List Event

-- what answers a call, from a state and a store
abbrev pub Answering : Type 0
Answering = List ℕ → List ℕ → Call → After

-- each call gets the state and the store that the one before it left
unfoldable pub run : Answering → List ℕ → List ℕ → List Call → Ran
run f st store [] = record { state = st; store = store; out = []; events = [] }
run f st store (c ∷ cs) =
    let a = f st store c in
    let rest = run f a.state a.store cs in
    record { state = rest.state; store = rest.store; out = wrote a ++ rest.out; events = taken a c ++ rest.events }

-- 8.10: the calls of cs that are accepted, each where it stands in cs
unfoldable pub accepted_of : Answering → List ℕ → List ℕ → List Call → List Call
accepted_of f st store [] = []
accepted_of f st store (c ∷ cs) =
    let a = f st store c in
    let rest = accepted_of f a.state a.store cs in
    cond (accepts a) (c ∷ rest) rest

-- 8.10: without the refused calls all is left and written as with them
abbrev pub Traceless : Answering → Type 0
Traceless f = (st store : List ℕ) (cs : List Call) → run f st store (accepted_of f st store cs) ≡ run f st store cs
