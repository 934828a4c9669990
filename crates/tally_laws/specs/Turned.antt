-- LAWS. The four ways a note can go. Assumes nothing.
use Rattle.std.specs.Prelude.{ℕ, ◌≡◌, true, false, List, eqb}
use Rattle.std.proofs.Common.{sym, ◌∙◌, ap}
use Rattle.std.proofs.lemmas.Bool.{false≢true}
use Rattle.floats.specs.Truth.{by_bit, cond-t, cond-f}
use Rattle.call_reply.specs.Replies.{plain, AfterState}
use Rattle.tally_words.specs.Words.{tally_ok}
use Rattle.tally_slot.specs.Slots.{tally_full, room_for, noted, counted}
use Rattle.tally.specs.Tally.{note_spec}
use Rattle.tally_laws.specs.Jobs.{Note, answer, took, told_of}
use Rattle.tally_laws.specs.Statements.{well_told, TurnedTally}

-- the four ways that a note can go, with what each answers and leaves
pub data Way (st : List ℕ) (n : Note) : Type 0 where
  none : tally_ok st ≡ false → answer st n ≡ record { reply = plain 9; state = st } → Way st n
  untold : tally_ok st ≡ true → well_told n ≡ false → answer st n ≡ record { reply = plain 4; state = st } → Way st n
  full : tally_ok st ≡ true → well_told n ≡ true → room_for st n.job (told_of n).call ≡ false
      → answer st n ≡ record { reply = plain tally_full; state = st } → Way st n
  done : tally_ok st ≡ true → well_told n ≡ true → room_for st n.job (told_of n).call ≡ true
      → answer st n ≡ record { reply = plain 0; state = noted st n.job (told_of n).call } → Way st n

pub way : (st : List ℕ) (n : Note) → Way st n
unfolding note_spec counted
way st n =
    by_bit (tally_ok st)
    (λ t. by_bit (well_told n)
    (λ o. by_bit (room_for st n.job (told_of n).call)
    (λ r. done t o r (cond-t _ _ t ∙ cond-t _ _ o ∙ cond-t _ _ r))
    (λ r. full t o r (cond-t _ _ t ∙ cond-t _ _ o ∙ cond-f _ _ r)))
    (λ o. untold t o (cond-t _ _ t ∙ cond-f _ _ o)))
    (λ t. none t (cond-f _ _ t))

state_of : {a b : AfterState} → a ≡ b → a.state ≡ b.state
state_of e = ap (λ (z : AfterState). z.state) e

code_of : {a b : AfterState} → a ≡ b → eqb a.reply.code 0 ≡ eqb b.reply.code 0
code_of e = ap (λ (z : AfterState). eqb z.reply.code 0) e

-- a note that is not taken leaves every word
pub turned-leaves : (st : List ℕ) (n : Note) → took st n ≡ false → (answer st n).state ≡ st
turned-leaves st n h = turned (way st n)
  where
    turned : Way st n → (answer st n).state ≡ st
    turned (none t e) = state_of e
    turned (untold t o e) = state_of e
    turned (full t o r e) = state_of e
    turned (done t o r e) = absurd (false≢true (sym h ∙ code_of e))

-- one that is taken had room, and leaves the noted words
pub taken-room : (st : List ℕ) (n : Note) → took st n ≡ true → room_for st n.job (told_of n).call ≡ true
taken-room st n h = room (way st n)
  where
    room : Way st n → room_for st n.job (told_of n).call ≡ true
    room (none t e) = absurd (false≢true (sym (code_of e) ∙ h))
    room (untold t o e) = absurd (false≢true (sym (code_of e) ∙ h))
    room (full t o r e) = absurd (false≢true (sym (code_of e) ∙ h))
    room (done t o r e) = r

pub taken-state : (st : List ℕ) (n : Note) → took st n ≡ true → (answer st n).state ≡ noted st n.job (told_of n).call
taken-state st n h = left (way st n)
  where
    left : Way st n → (answer st n).state ≡ noted st n.job (told_of n).call
    left (none t e) = absurd (false≢true (sym (code_of e) ∙ h))
    left (untold t o e) = absurd (false≢true (sym (code_of e) ∙ h))
    left (full t o r e) = absurd (false≢true (sym (code_of e) ∙ h))
    left (done t o r e) = state_of e

-- what a note answers, where, and what it leaves
pub turned-tally : (st : List ℕ) (n : Note) → TurnedTally st n
turned-tally st n = by_way (way st n)
  where
    number : {a b : AfterState} → a ≡ b → a.reply.code ≡ b.reply.code
    number e = ap (λ (z : AfterState). z.reply.code) e

    by_way : Way st n → TurnedTally st n
    by_way (none t e) =
        let c : (answer st n).reply.code ≡ 9 = number e in
        record { nine = rw (c, t); four = rw (c, t); other = rw (c, t); leaves = turned-leaves st n }
    by_way (untold t o e) =
        let c : (answer st n).reply.code ≡ 4 = number e in
        record { nine = rw (c, t); four = rw (c, t, o); other = rw (c, t, o); leaves = turned-leaves st n }
    by_way (full t o r e) =
        let c : (answer st n).reply.code ≡ tally_full = number e in
        record { nine = rw (c, t); four = rw (c, t, o); other = rw (c, t, o); leaves = turned-leaves st n }
    by_way (done t o r e) =
        let c : (answer st n).reply.code ≡ 0 = number e in
        record { nine = rw (c, t); four = rw (c, t, o); other = rw (c, t, o); leaves = turned-leaves st n }
