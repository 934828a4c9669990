-- LAWS. 11.6: behind the end of its input a try is not open: it was closed, or left without a close, or a call could not be told. Assumes nothing.
use Rattle.std.specs.Prelude.{ℕ, ◌/◌, ◌≤◌, ◌≡◌, refl, true, false, eqb, length}
use Rattle.std.proofs.Math.Path.{ap}
use Rattle.std.proofs.Common.{◌∙◌, arith, eqb-true, eq-eqb, le-leb}
use Rattle.std.proofs.lemmas.Bool.{false≢true, eqb-false}
use mathlib.Core.List.{List}
use Rattle.floats.specs.Lists.{all}
use Rattle.floats.specs.Truth.{by_bit}
use Rattle.layout.specs.Layout.{row_words}
use Rattle.row_room.specs.Room.{fits}
use Rattle.saved_state.specs.State.{saved_check}
use Rattle.call_reply.specs.declared.Reply.{Reply}
use Rattle.call_reply.specs.Replies.{After, done_reply, too_few, untouched}
use Rattle.call_answer.specs.Close.{close_rows, close_state, close_spec}
use Rattle.tally_call.specs.Calls.{k_close, too_few_places}
use Rattle.csv_count.specs.Count.{bad_text}
use Rattle.csv_write.specs.Writer.{rows_writable}
use Rattle.demand_state.specs.Accepted.{saved}
use Rattle.demand_state.specs.Refusals.{saved-number}
use Rattle.demand_close.specs.Again.{close-saved, again-rows}
use Rattle.night_course.specs.declared.Ticket.{Ticket}
use Rattle.night_course.specs.declared.Course.{Course}
use Rattle.night_course.specs.Course.{is_open, if_told}
use Rattle.night_refusal.specs.Refusal.{turned_down, stands_then}
use Rattle.night_answer.specs.Answer.{heard, answered, done_by, stands_on}
use Rattle.night_spec.specs.Try.{Stand, called, on_close, closes, shuts}

-- ---- a close that leaves a try open was heard as refused by 10
open_heard : (t : Ticket) (c : Course) (q : Reply) (rows : List ℕ) (k : ℕ) → is_open (if_told k (answered t c k_close q rows).course).stands ≡ true
    → q.code ≡ bad_text
unfolding if_told answered done_by stands_on turned_down stands_then
open_heard t c q rows k =
    by_bit (eqb k 0)
    (λ a. by_bit (eqb q.code 0) (λ b. rw (a, b) (λ e. absurd (false≢true e)))
    (λ b. by_bit (eqb q.code too_few_places) (λ d. rw (a, b, d) (λ e. absurd (false≢true e)))
    (λ d. by_bit (eqb q.code bad_text) (λ f e. eqb-true q.code bad_text f) (λ f. rw (a, b, d, f) (λ e. absurd (false≢true e))))))
    (λ a. rw a (λ e. absurd (false≢true e)))

-- which the flattener never answers: it did the close
close-number : (st store rows : List ℕ) → (close_spec st store rows).reply.code ≡ bad_text → ⊥
unfolding close_spec too_few untouched
close-number st store rows =
    by_bit (eqb (saved_check st store) 0)
    (λ a. by_bit (fits (close_rows st store) rows) (λ b. rw (a, b) (λ e. omega arith)) (λ b. rw (a, b) (λ e. omega arith)))
    (λ a. rw a (λ e. omega (arith, (saved-number st store).low)))

heard-done : (p : Reply) (rows : List ℕ) → (p.code ≡ bad_text → ⊥) → (heard p rows).code ≡ bad_text → p.code ≡ 0
unfolding heard
heard-done p rows d = by_bit (eqb p.code 0) (λ a e. eqb-true p.code 0 a) (λ a. rw a (λ e. absurd (d e)))

-- and a close that it did leaves this
record Left (st store : List ℕ) (a : After) : Type 0 where
  pub good : saved_check st store ≡ 0
  pub state : a.state ≡ close_state st
  pub store_is : a.store ≡ store

close-left : (st store rows : List ℕ) → (close_spec st store rows).reply.code ≡ 0 → Left st store (close_spec st store rows)
unfolding close_spec too_few untouched
close-left st store rows =
    by_bit (eqb (saved_check st store) 0)
    (λ a. by_bit (fits (close_rows st store) rows)
    (λ b. rw (a, b) (λ e. record { good = eqb-true _ 0 a; state = refl; store_is = refl }))
    (λ b. rw (a, b) (λ e. absurd (omega arith))))
    (λ a. rw a (λ e. absurd (eqb-false _ 0 a e)))

-- ---- closed again it is done, with no rows
again-done : (st store lent : List ℕ) → saved_check st store ≡ 0 → (close_spec (close_state st) store lent).reply ≡ done_reply 0 0 0 0
unfolding close_spec
again-done st store lent z =
    let p = saved st store z in
    let n : length (close_rows (close_state st) store) ≡ 0 = ap length (again-rows st store p) in
    let few : length (close_rows (close_state st) store) ≤ length lent / row_words = omega arith in
    rw (eq-eqb _ 0 (close-saved st store p.state), le-leb _ _ few) (ap (λ (k : ℕ). done_reply k 0 0 0) n)

none-heard : (p : Reply) (rows : List ℕ) → p ≡ done_reply 0 0 0 0 → (heard p rows).code ≡ bad_text → ⊥
unfolding heard rows_writable all
none-heard p rows e = rw e (λ (z : ◌≡◌ {A = ℕ} 0 bad_text). absurd (omega arith))

module _ (t : Ticket) where
  again-shut : (s : Stand) → is_open (on_close t s).stand.course.stands ≡ true → is_open (on_close t (on_close t s).stand).stand.course.stands ≡ false
  unfolding on_close called
  again-shut s e =
      let a = close_spec s.state s.store s.rows in
      let l = close-left _ _ _ (heard-done a.reply a.rows (close-number s.state s.store s.rows) (open_heard t _ _ _ _ e)) in
      let same : close_spec a.state a.store a.rows ≡ close_spec (close_state s.state) s.store a.rows =
      ap (λ (x : List ℕ). close_spec x a.store a.rows) l.state ∙ ap (λ (x : List ℕ). close_spec (close_state s.state) x a.rows) l.store_is in
      let b = close_spec a.state a.store a.rows in
      let done : b.reply ≡ done_reply 0 0 0 0 = ap (λ (x : After). x.reply) same ∙ again-done s.state s.store a.rows l.good in
      by_bit (is_open (on_close t (on_close t s).stand).stand.course.stands)
      (λ o. absurd (none-heard b.reply b.rows done (open_heard t _ _ _ _ o)))
      (λ o. o)

  shut-stays : (s : Stand) → is_open s.course.stands ≡ false → is_open (closes t s).stand.course.stands ≡ false
  unfolding closes
  shut-stays s e = rw e e

  pub twice-shut : (s : Stand) → is_open (shuts t s).stand.course.stands ≡ false
  unfolding shuts closes
  twice-shut s =
      by_bit (is_open s.course.stands)
      (λ a. rw a (by_bit (is_open (on_close t s).stand.course.stands) (λ b. rw b (again-shut s b)) (λ b. rw b b)))
      (λ a. rw (a, a) a)
