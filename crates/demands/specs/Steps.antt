-- LAWS. What some calls write, with an accepted close behind them, is the groups of the accepted events, one after another. Assumes nothing.
use Rattle.std.specs.Prelude.{ℕ, ◌<◌, ◌≤◌, ◌≡◌, refl, Bool, true, false, length, Float}
use Rattle.std.proofs.Math.Path.{sym, ap, ap₂, subst, fun_ext}
use Rattle.std.proofs.Common.{◌∙◌, ⊎_elim}
use Rattle.std.proofs.Math.Bool.{not}
use mathlib.Core.List.{List, [], ◌∷◌, ◌++◌, append_assoc, append-nil}
use Rattle.std.proofs.Math.Option.{Option, none}
use Rattle.std.proofs.Math.ListN.{length-map}
use Rattle.std.proofs.Math.Dec.{eqb}
use borrow.Author.Tests.{eqb-true, eqb-false}
use Rattle.floats.specs.Numbers.{num}
use Rattle.floats.specs.Lists.{flatten}
use Rattle.floats.specs.Fill.{lt_or_le}
use Rattle.layout.specs.Layout.{axis_codes}
use Rattle.motion.specs.Motion.{is_spline, kind_of}
use Rattle.row_cells.specs.Row.{plane_of, out_row}
use Rattle.row_numbers.specs.RowNumbers.{within}
use Rattle.floats.specs.Truth.{by_bit, cond-t, cond-f}
use Rattle.floats.specs.Joins.{flatten_append}
use Rattle.spline_answer.specs.Words.{Spline, spline_groups}
use Rattle.saved_state.specs.State.{state_ok, held, position, curve_start, tolerance, motion_now, degree, saved_check}
use Rattle.spline_answer.specs.Held.{held_spline, emission}
use Rattle.call_reply.specs.Replies.{After, AfterState, plain}
use Rattle.call_seed.specs.Seed.{seeded, seed_spec}
use Rattle.push_resolve.specs.Blocks.{or_now, motion_then, emits}
use Rattle.push_check.specs.Refusal.{push_check}
use Rattle.call_answer.specs.Answer.{answer_as, own_answer}
use Rattle.call_answer.specs.Push.{push_rows, push_done, push_spec}
use Rattle.call_answer.specs.Close.{close_rows, close_state, close_spec}
use Rattle.demand_calls.specs.Places.{places}
use Rattle.demand_calls.specs.Runs.{Event, seed, block, closed, Call, pushing, seeding, closing, accepts, wrote, event_of, taken, Ran, run}
use Rattle.demand_state.specs.Accepted.{Saved, saved, Pushed, pushed, few-axes, past-place, past-start, state-words}
use Rattle.demand_standing.specs.Standing.{Standing, motion_with, with_block, with_seed, with_close}
use Rattle.demand_standing.proofs.Stands.{Stands, some-length, Same, Changed, same, changed, motion-is, none_kept, push-stands, seed-stands, emptied-stands}
use Rattle.demand_standing.proofs.Stands.{none-stands}
use Rattle.demands.specs.Answers.{close_done, push-done, push-accepted, close-done, close-accepted, seed-left}
use Rattle.demands.specs.Demand1.{demand1}
use Rattle.demands.specs.Demands.{answer}
use Rattle.demands.specs.Pending.{to_come, opened, own_rows, spline-length, come_none, come_seed, come_closed, come_on, come_other, come_own}
use Rattle.demands.specs.Pending.{come_own-other}
use Rattle.demands.specs.Pieces.{spline_with}
use Rattle.demands.specs.RowLengths.{spline_as, push_rows-long, close_rows-long}
use Rattle.demand_calls.specs.PlaceLaws.{take-written}
use Rattle.demand_calls.specs.Laws.{no_elements}

-- the words of some groups
abbrev pub words : List (List (List ℕ)) → List ℕ
words gs = flatten (flatten gs)

words_append : (a b : List (List (List ℕ))) → words (a ++ b) ≡ words a ++ words b
words_append a b = ap flatten (flatten_append a b) ∙ flatten_append (flatten a) (flatten b)

words-cons : (g : List (List ℕ)) (b : List (List (List ℕ))) → words (g ∷ b) ≡ flatten g ++ words b
unfolding flatten
words-cons g b = flatten_append g (flatten b)

-- ---- what a state and a store hold is the open spline
module _ {tol : ℕ} {gs : List ℕ} {s : Standing} {st store : List ℕ} (t : Stands tol gs s st store) (ok : state_ok st ≡ true) where
  all-places : position st ≡ s.place
  all-places = fun_ext (λ k. ⊎_elim
      (λ (h : k < axis_codes). t.place k h)
      (λ (h : axis_codes ≤ k). past-place st ok k h ∙ sym (t.past k h).0)
      (lt_or_le k axis_codes))

  all-starts : 0 < length s.curve → curve_start st ≡ s.start
  all-starts z = fun_ext (λ k. ⊎_elim
      (λ (h : k < axis_codes). t.start z k h)
      (λ (h : axis_codes ≤ k). past-start st ok k h ∙ sym (t.past k h).1)
      (lt_or_le k axis_codes))

  held-is : 0 < length s.curve → held_spline st store ≡ spline_with tol gs s s.curve
  unfolding held_spline spline_with
  held-is z = λ i. record {
    motion = t.motion i;
    power = t.degree z i;
    tol = num (t.tolerance i);
    axes = t.axes i;
    start = all-starts z i;
    blocks = t.rows i;
  }

  emission-is : 0 < length s.curve → emission st store ≡ flatten (opened tol gs s)
  unfolding emission opened
  emission-is z = ap (λ (sp : Spline). flatten (spline_groups sp)) (held-is z)

  none-opened : length s.curve ≡ 0 → opened tol gs s ≡ []
  unfolding opened spline_with
  none-opened z =
      no_elements (spline_groups (spline_with tol gs s s.curve))
      (spline-length (spline_with tol gs s s.curve) ∙ length-map s.curve out_row ∙ z)

-- ---- a block of a spline has no row of its own
spline-rows : (m : ℕ) → is_spline m ≡ true → (tol : Float) (gs : List ℕ) (plane : ℕ) (pos : ℕ → Option ℕ) (r : List ℕ)
    → (answer_as (kind_of m) tol gs plane pos r).rows ≡ []
unfolding is_spline
spline-rows m y tol gs plane pos r = spline_as (kind_of m) y tol gs plane pos r

-- ---- the rows of a push
module _ {tol : ℕ} {gs : List ℕ} {s : Standing} {st store : List ℕ} (r : List ℕ) (t : Stands tol gs s st store) (p : Pushed st store r) where
  own_is : (own_answer st r).rows ≡ own_rows tol gs s r
  unfolding own_answer own_rows with_block
  own_is =
      λ i.
      (answer_as (kind_of (motion-is r t p i)) (num (t.tolerance i)) (t.axes i) (ap (or_now (plane_of r)) t.plane i) (all-places t p.saved.state i) r).rows

  own-none : is_spline (motion_with s r) ≡ true → own_rows tol gs s r ≡ []
  unfolding own_rows
  own-none y = spline-rows (motion_with s r) y _ _ _ _ r

  rows_same : Same r t p → push_rows st store r ≡ own_rows tol gs s r
  unfolding push_rows
  rows_same e = cond-f _ _ e.none ∙ own_is

  rows-changed : Changed r t p → push_rows st store r ≡ flatten (opened tol gs s) ++ own_rows tol gs s r
  unfolding push_rows flatten
  rows-changed e =
      by_bit (eqb (length s.curve) 0)
      (λ b. cond-f _ _ (e.emits ∙ ap not b) ∙ own_is
      ∙ ap (λ (l : List (List (List ℕ))). flatten l ++ own_rows tol gs s r) (sym (none-opened t p.saved.state (eqb-true _ 0 b))))
      (λ b. cond-t _ _ (e.emits ∙ ap not b)
      ∙ ap₂ (λ (a c : List (List ℕ)). a ++ c) (emission-is t p.saved.state (some-length (length s.curve) (eqb-false _ 0 b))) own_is)

  -- the rows that it writes, and what is to come after it, are what was to come before it
  push-adds : (es : List Event) → words (to_come tol gs s (block r ∷ es)) ≡ flatten (push_rows st store r) ++ words (to_come tol gs (with_block gs s r) es)
  unfolding flatten
  push-adds es =
      by_bit (is_spline (motion_with s r))
      (λ y. let none : own_rows tol gs s r ≡ [] = own-none y in
      by_bit (eqb (motion_with s r) s.motion)
      (λ e. ap words (come_on tol gs s r es y e)
      ∙ ap (λ (l : List (List ℕ)). flatten l ++ words (to_come tol gs (with_block gs s r) es)) (sym (rows_same (same r t p (test e)) ∙ none)))
      (λ e. ap words (come_other tol gs s r es y e)
      ∙ words_append (opened tol gs s) (to_come tol gs (with_block gs s r) es)
      ∙ ap (λ (l : List (List ℕ)). flatten l ++ words (to_come tol gs (with_block gs s r) es))
      (sym (rows-changed (changed r t p (test e)) ∙ ap (λ (l : List (List ℕ)). flatten (opened tol gs s) ++ l) none ∙ append-nil (flatten (opened tol gs s))))))
      (λ f. by_bit (eqb (motion_with s r) s.motion)
      (λ e. let w : Same r t p = same r t p (test e) in
      ap words (come_own tol gs s r es f (sym w.kept ∙ none_kept r t p (ap is_spline (motion-is r t p) ∙ f)))
      ∙ words-cons (own_rows tol gs s r) (to_come tol gs (with_block gs s r) es)
      ∙ ap (λ (l : List (List ℕ)). flatten l ++ words (to_come tol gs (with_block gs s r) es)) (sym (rows_same w)))
      (λ e. ap words (come_own-other tol gs s r es f e)
      ∙ words_append (opened tol gs s) (own_rows tol gs s r ∷ to_come tol gs (with_block gs s r) es)
      ∙ ap (λ (l : List ℕ). words (opened tol gs s) ++ l) (words-cons (own_rows tol gs s r) (to_come tol gs (with_block gs s r) es))
      ∙ sym (append_assoc (words (opened tol gs s)) (flatten (own_rows tol gs s r)) (words (to_come tol gs (with_block gs s r) es)))
      ∙ ap (λ (l : List ℕ). l ++ words (to_come tol gs (with_block gs s r) es))
      (sym (flatten_append (flatten (opened tol gs s)) (own_rows tol gs s r)) ∙ ap flatten (sym (rows-changed (changed r t p (test e)))))))
    where
      test : {b : Bool} → eqb (motion_with s r) s.motion ≡ b → eqb (motion_then st r) (motion_now st) ≡ b
      test e = ap₂ eqb (motion-is r t p) t.motion ∙ e

-- ---- one call: the events that it is, what stands after it, and what it adds to what was written
pub data How (gs : List ℕ) (s : Standing) (st store : List ℕ) : List Event → Standing → Type 0 where
  stays : How gs s st store [] s
  pushes : (r : List ℕ) → Pushed st store r → How gs s st store (block r ∷ []) (with_block gs s r)
  seeds : (c x : ℕ) → within x ≡ true → How gs s st store (seed c x ∷ []) (with_seed gs s c x)
  closes : Saved st store → How gs s st store (closed ∷ []) (with_close s)

pub record Step (tol : ℕ) (gs : List ℕ) (s : Standing) (st store : List ℕ) (a : After) (c : Call) : Type 0 where
  pub next : Standing
  pub how : How gs s st store (taken a c) next
  pub stands : Stands tol gs next a.state a.store
  pub adds : (es : List Event) → words (to_come tol gs s (taken a c ++ es)) ≡ wrote a ++ words (to_come tol gs next es)

-- a refused call leaves all as it was
refused-step : {tol : ℕ} {gs : List ℕ} {s : Standing} {st store : List ℕ} (a : After) (c : Call) → Stands tol gs s st store
    → accepts a ≡ false → a.state ≡ st → a.store ≡ store → Step tol gs s st store a c
unfolding taken wrote
refused-step {tol} {gs} {s} {st} {store} a c t f e g = record {
  next = s;
  how = subst (λ (l : List Event). How gs s st store l s) (sym (cond-f _ [] f)) stays;
  stands = subst (λ (l : List ℕ). Stands tol gs s l a.store) (sym e) (subst (λ (l : List ℕ). Stands tol gs s st l) (sym g) t);
  adds =
      λ es. ap (λ (l : List Event). words (to_come tol gs s (l ++ es))) (cond-f _ [] f)
      ∙ ap (λ (l : List ℕ). l ++ words (to_come tol gs s es)) (sym (cond-f _ [] f));
}

module _ {tol : ℕ} {gs : List ℕ} {s : Standing} {st store : List ℕ} (t : Stands tol gs s st store) where
  push_step : (rows r : List ℕ) → accepts (push_spec st store rows r) ≡ true → Step tol gs s st store (push_spec st store rows r) (pushing rows r)
  unfolding taken wrote event_of push_done
  push_step rows r y =
      let ok : (push_check st store r ≡ 0) × (length (push_rows st store r) ≤ places rows) = push-accepted st store r rows (eqb-true _ 0 y) in
      let p : Pushed st store r = pushed st store r ok.0 in
      subst (λ (a : After). Step tol gs s st store a (pushing rows r)) (sym (push-done st store r rows ok.0 ok.1))
      (record {
        next = with_block gs s r;
        how = pushes r p;
        stands = push-stands r t p;
        adds = λ es. push-adds r t p es
            ∙ ap (λ (l : List ℕ). l ++ words (to_come tol gs (with_block gs s r) es))
            (sym (take-written rows (push_rows st store r) (push_rows-long st store r)));
      })

  close-rows : Saved st store → close_rows st store ≡ flatten (opened tol gs s)
  unfolding close_rows flatten
  close-rows p =
      by_bit (eqb (length s.curve) 0)
      (λ b. cond-t [] _ (ap (λ (n : ℕ). eqb n 0) t.held ∙ b) ∙ ap flatten (sym (none-opened t p.state (eqb-true _ 0 b))))
      (λ b. cond-f [] _ (ap (λ (n : ℕ). eqb n 0) t.held ∙ b) ∙ emission-is t p.state (some-length (length s.curve) (eqb-false _ 0 b)))

  -- what an accepted close writes
  close-wrote : (rows : List ℕ) → (close_spec st store rows).reply.code ≡ 0 → wrote (close_spec st store rows) ≡ words (opened tol gs s)
  unfolding wrote close_done
  close-wrote rows z =
      let ok : (saved_check st store ≡ 0) × (length (close_rows st store) ≤ places rows) = close-accepted st store rows z in
      ap wrote (close-done st store rows ok.0 ok.1)
      ∙ take-written rows (close_rows st store) (close_rows-long st store)
      ∙ ap flatten (close-rows (saved st store ok.0))

  close-step : (rows : List ℕ) → accepts (close_spec st store rows) ≡ true → Step tol gs s st store (close_spec st store rows) (closing rows)
  unfolding taken event_of close_done close_state
  close-step rows y =
      let z : (close_spec st store rows).reply.code ≡ 0 = eqb-true _ 0 y in
      let ok : (saved_check st store ≡ 0) × (length (close_rows st store) ≤ places rows) = close-accepted st store rows z in
      let p : Saved st store = saved st store ok.0 in
      record {
        next = with_close s;
        how = subst (λ (l : List Event). How gs s st store l (with_close s)) (sym (cond-t _ [] y)) (closes p);
        stands = subst (λ (a : After). Stands tol gs (with_close s) a.state a.store) (sym (close-done st store rows ok.0 ok.1)) (close-left p);
        adds = λ es. ap (λ (l : List Event). words (to_come tol gs s (l ++ es))) (cond-t _ [] y)
            ∙ ap words (come_closed tol gs s es)
            ∙ words_append (opened tol gs s) (to_come tol gs (with_close s) es)
            ∙ ap (λ (l : List ℕ). l ++ words (to_come tol gs (with_close s) es)) (sym (close-wrote rows z));
      }
    where
      close-left : Saved st store → Stands tol gs (with_close s) (close_state st) store
      close-left p =
          by_bit (eqb (held st) 0)
          (λ b. rw b (none-stands t p.words (few-axes st p.state) (eqb-true _ 0 b)))
          (λ b. rw b (emptied-stands t p.words (few-axes st p.state)))

  seed-step : (c x : ℕ) → accepts (answer st store (seeding c x)) ≡ true → Step tol gs s st store (answer st store (seeding c x)) (seeding c x)
  unfolding answer taken wrote event_of
  seed-step c x y =
      let ok : (state_ok st ≡ true) × (seed_spec st c x ≡ record { reply = plain 0; state = seeded st c x }) × (within x ≡ true) = seed-left st c x y in
      subst (λ (a : AfterState). Step tol gs s st store (record { reply = a.reply; state = a.state; store = store; rows = [] }) (seeding c x)) (sym ok.1)
      (record {
        next = with_seed gs s c x;
        how = seeds c x ok.2;
        stands = seed-stands c x t (state-words st ok.0) (few-axes st ok.0);
        adds = λ es. ap words (come_seed tol gs s c x es);
      })

  pub step : (c : Call) → Step tol gs s st store (answer st store c) c
  unfolding answer
  step (pushing rows r) =
      by_bit (accepts (push_spec st store rows r))
      (push_step rows r)
      (λ f.
      let k : ((push_spec st store rows r).state ≡ st) × ((push_spec st store rows r).store ≡ store) × ((push_spec st store rows r).rows ≡ rows) =
      (demand1.push st
      store rows r).same (eqb-false _ 0 f) in
      refused-step (push_spec st store rows r) (pushing rows r) t f k.0 k.1)
  step (seeding c x) =
      by_bit (accepts (answer st store (seeding c x)))
      (seed-step c x)
      (λ f. refused-step (answer st store (seeding c x)) (seeding c x) t f ((demand1.seeds st c x).same (eqb-false _ 0 f)) refl)
  step (closing rows) =
      by_bit (accepts (close_spec st store rows))
      (close-step rows)
      (λ f.
      let k : ((close_spec st store rows).state ≡ st) × ((close_spec st store rows).store ≡ store) × ((close_spec st store rows).rows ≡ rows) =
      (demand1.close st
      store rows).same (eqb-false _ 0 f) in
      refused-step (close_spec st store rows) (closing rows) t f k.0 k.1)

-- ---- any calls, and then an accepted close
abbrev pub closing_after : Ran → List ℕ → After
closing_after x rows = close_spec x.state x.store rows

pub run-groups : {tol : ℕ} {gs : List ℕ} {s : Standing} {st store : List ℕ} (cs : List Call) (rows : List ℕ) → Stands tol gs s st store
    → (closing_after (run answer st store cs) rows).reply.code ≡ 0
    → (run answer st store cs).out ++ wrote (closing_after (run answer st store cs) rows) ≡ words (to_come tol gs s (run answer st store cs).events)
unfolding run
run-groups {tol} {gs} {s} [] rows t z = close-wrote t rows z ∙ ap words (sym (come_none tol gs s))
run-groups {tol} {gs} {s} {st} {store} (c ∷ cs) rows t z =
    let a : After = answer st store c in
    let w : Step tol gs s st store a c = step t c in
    append_assoc (wrote a) (run answer a.state a.store cs).out (wrote (closing_after (run answer a.state a.store cs) rows))
    ∙ ap (λ (l : List ℕ). wrote a ++ l) (run-groups {s = (step t c).next} cs rows w.stands z)
    ∙ sym (w.adds (run answer a.state a.store cs).events)
