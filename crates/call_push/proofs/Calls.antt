-- LAWS. What a push answers, by its cases. Assumes nothing.
use Prim.Native.Nat.{ℕ, ◌+◌, ◌*◌, ◌/◌, ◌%◌, ◌≤◌, ◌<◌}
use mathlib.Core.Path.{◌≡◌, refl, sym, ◌∙◌, ap, ap₂}
use mathlib.Core.Bool.{Bool, true, false, cond}
use mathlib.Core.List.{List, [], ◌++◌}
use native.Mathlib.Omega.{arith}
use native.Mathlib.Nat.{div-add-mod'}
use lib.ListN.{length, length-append}
use lib.Dec.{eqb, leb}
use borrow.Author.Tests.{eqb-true, eqb-false, eq-eqb, ne_eqb, le-leb, lt-leb}
use Rattle.floats.specs.Lists.{flatten, spliced}
use Rattle.floats.specs.Splice.{spliced-none, spliced-spliced}
use Rattle.layout.specs.Layout.{row_words, most_held}
use Rattle.row_check.specs.Check.{row_check}
use Rattle.floats.specs.Truth.{by_bit, cond-t, cond-f}
use Rattle.floats.specs.Joins.{flatten_append}
use Rattle.arc_rows.specs.declared.Plan.{Plan}
use Rattle.saved_state.specs.State.{held, saved_check}
use Rattle.call_reply.specs.declared.Reply.{Reply}
use Rattle.call_reply.specs.Replies.{plain, After, too_few, done_reply, PushIs, untouched}
use Rattle.call_reply.specs.ReplyLaws.{answers}
use Rattle.push_resolve.specs.Blocks.{emits, news}
use Rattle.push_check.specs.Refusal.{is_full, push_check}
use Rattle.push_resolve.specs.declared.Resolved.{Resolved}
use Rattle.push_resolve.specs.Resolved.{resolved}
use Rattle.push_check.specs.Due.{due}
use Rattle.call_answer.specs.Answer.{own_answer}
use Rattle.push_state.specs.Pushed.{push_state, push_store}
use Rattle.spline_answer.specs.Held.{emission}
use Rattle.call_answer.specs.Push.{push_rows, push_done, push_spec}
use Rattle.saved_state.specs.Checked.{saved-ok}
use Rattle.saved_state.specs.StateLaws.{good, good-few}
use Rattle.push_rows.specs.Own.{Ready, OwnPlanned, own_rows}
use Rattle.push_rows.specs.OwnLaws.{ready}
use Rattle.row_room.specs.Room.{put_within}
use Rattle.call_push.specs.Before.{before}
use Rattle.call_push.specs.BeforeLaws.{before-words}
use Rattle.spline_put.specs.Emitted.{Put}
use Rattle.spline_put.specs.EmittedLaws.{room-left, room-short, put_refused, put_written}
use Rattle.push_rows.specs.Few.{few-own}
use Rattle.std.specs.Prelude.{Ok, Err}
use Rattle.push_check.proofs.DueLaws.{due-refused, due-push}
use Rattle.push_settle.specs.Settle.{Passed, Settles, settled}

-- what a push that passes its checks has
pub record Passes (st store r : List ℕ) : Type 0 where
  pub saved : saved_check st store ≡ 0
  pub row : row_check r ≡ 0
  pub space : is_full st store r ≡ false

pub passes : (st store r : List ℕ) → push_check st store r ≡ 0 → Passes st store r
unfolding push_check
passes st store r p =
    by_bit (eqb (saved_check st store) 0)
    (λ a. by_bit (eqb (row_check r) 0)
    (λ b. by_bit (is_full st store r)
    (λ c. let z : ◌≡◌ {A = ℕ} 6 0 = sym (cond-t _ _ a ∙ cond-t _ _ b ∙ cond-t _ _ c) ∙ p in absurd (omega arith))
    (λ c. record { saved = eqb-true (saved_check st store) 0 a; row = eqb-true (row_check r) 0 b; space = c }))
    (λ b. absurd (eqb-false (row_check r) 0 b (sym (cond-t _ _ a ∙ cond-f _ (row_check r) b) ∙ p))))
    (λ a. absurd (eqb-false (saved_check st store) 0 a (sym (cond-f _ (saved_check st store) a) ∙ p)))

pub passes-ready : {st store r : List ℕ} {b : Resolved} → Passes st store r → b ≡ resolved st r → Ready st r b
passes-ready {st} {store} {r} {b} p e = ready st r b (saved-ok st store p.saved) p.row e

pub passes-few : {st store r : List ℕ} → Passes st store r → held st ≤ most_held
passes-few {st} {store} p = good-few st (good st (saved-ok st store p.saved))

-- the rows are those of the emission, then the block's own
rows_are : (st store r : List ℕ) → push_rows st store r ≡ before (emits st r) st store ++ (own_answer st r).rows
unfolding push_rows
rows_are st store r = by_bit (emits st r) (λ b. rw b) (λ b. rw b)

pub turned-is : (st store rows r : List ℕ) → (push_check st store r ≡ 0 → ⊥)
    → push_spec st store rows r ≡ untouched (plain (push_check st store r)) st store rows
unfolding push_spec
turned-is st store rows r d = cond-f _ _ (ne_eqb (push_check st store r) 0 d)

-- what a push that is done leaves, by its count, warning, wanted count, held axes and rows
abbrev pub done_of : List ℕ → List ℕ → List ℕ → List ℕ → ℕ → ℕ → ℕ → ℕ → List (List ℕ) → After
done_of st store rows r count warning wanted held out =
    record {
      reply = done_reply count (cond (news st r) 7 warning) wanted held;
      state = push_state st r;
      store = push_store st store r;
      rows = spliced rows 0 (flatten out);
    }

module _ (st store rows r : List ℕ) (pass : push_check st store r ≡ 0) (p : Plan) (h : OwnPlanned st r p) (n : ℕ)
    (hn : n ≡ length (before (emits st r) st store)) where
  count-is : length (push_rows st store r) ≡ n + p.count
  count-is =
      ap length (rows_are st store r) ∙ length-append (before (emits st r) st store) (own_answer st r).rows
      ∙ ap₂ (λ (a b : ℕ). a + b) (sym hn) (sym h.count)

  pub few-is : length rows / row_words < n + p.count → push_spec st store rows r ≡ untouched (too_few (n + p.count)) st store rows
  unfolding push_spec
  few-is l =
      cond-t _ _ (eq-eqb (push_check st store r) 0 pass)
      ∙ cond-f _ _ (ap (λ (k : ℕ). leb k (length rows / row_words)) count-is ∙ lt-leb (n + p.count) (length rows / row_words) l)
      ∙ ap (λ (k : ℕ). untouched (too_few k) st store rows) count-is

  pub done-is : n + p.count ≤ length rows / row_words
      → push_spec st store rows r ≡ done_of st store rows r (n + p.count) p.warning p.wanted p.held (before (emits st r) st store ++ own_rows st r p)
  unfolding push_spec push_done
  done-is l =
      cond-t _ _ (eq-eqb (push_check st store r) 0 pass)
      ∙ cond-t _ _ (ap (λ (k : ℕ). leb k (length rows / row_words)) count-is ∙ le-leb (n + p.count) (length rows / row_words) l)
      ∙ ap (λ (c : ℕ). done_of st store rows r c (own_answer st r).warning (own_answer st r).wanted (own_answer st r).held (push_rows st store r)) count-is
      ∙ ap (λ (w : ℕ). done_of st store rows r (n + p.count) w (own_answer st r).wanted (own_answer st r).held (push_rows st store r)) (sym h.warning)
      ∙ ap (λ (k : ℕ). done_of st store rows r (n + p.count) p.warning k (own_answer st r).held (push_rows st store r)) (sym h.wanted)
      ∙ ap (λ (k : ℕ). done_of st store rows r (n + p.count) p.warning p.wanted k (push_rows st store r)) (sym h.held)
      ∙ ap (done_of st store rows r (n + p.count) p.warning p.wanted p.held)
      (rows_are st store r ∙ ap (λ (o : List (List ℕ)). before (emits st r) st store ++ o) (sym h.rows))

  -- both writings, one after the other
  pub both-written : n + p.count ≤ length rows / row_words → (t u : List ℕ) → t ≡ spliced rows 0 (flatten (before (emits st r) st store))
      → u ≡ spliced t (n * row_words) (flatten (own_rows st r p))
      → u ≡ spliced rows 0 (flatten (before (emits st r) st store ++ own_rows st r p))
  both-written l t u et eu =
      let w : length (flatten (before (emits st r) st store)) ≡ length (before (emits st r) st store) * row_words = before-words (emits st r) st store in
      let d : length rows / row_words * row_words + length rows % row_words ≡ length rows = div-add-mod' (length rows) row_words in
      let i : 0 + length (flatten (before (emits st r) st store)) ≡ n * row_words =
      (let z : 0 + length (flatten (before (emits st r) st store)) ≡ length (flatten (before (emits st r) st store)) = omega arith in z
      ∙ w
      ∙ ap (λ (k : ℕ). k * row_words) (sym hn)) in
      eu ∙ ap (λ (q : List ℕ). spliced q (n * row_words) (flatten (own_rows st r p))) et
      ∙ ap (λ (k : ℕ). spliced (spliced rows 0 (flatten (before (emits st r) st store))) k (flatten (own_rows st r p))) (sym i)
      ∙ spliced-spliced rows 0 (flatten (before (emits st r) st store)) (flatten (own_rows st r p)) (omega arith)
      ∙ ap (spliced rows 0) (sym (flatten_append (before (emits st r) st store) (own_rows st r p)))

-- n and m places are room for m rows after n rows
pub row_room_lem : (n m l : ℕ) → n + m ≤ l / row_words → n * row_words + m * row_words ≤ l
row_room_lem n m l h = let d : l / row_words * row_words + l % row_words ≡ l = div-add-mod' l row_words in omega arith

-- ---- the rows before the block's own
none-put : (own : ℕ) (l : List ℕ) → Put own [] l 0 l
unfolding put_within flatten
none-put own l = record {
  count = refl;
  few = omega arith;
  rows = by_bit (leb (0 + own) (length l / row_words)) (λ b. rw b (spliced-none l 0)) (λ b. rw b);
}

module _ (st store : List ℕ) where
  pub put-before-some : {e : Bool} {own n : ℕ} {l l1 : List ℕ} → e ≡ true → Put own (emission st store) l n l1 → Put own (before e st store) l n l1
  put-before-some e p = rw e p

  pub put-before-none : {e : Bool} (own : ℕ) (l : List ℕ) → e ≡ false → Put own (before e st store) l 0 l
  put-before-none own l e = rw e (none-put own l)

-- the rows that go out before a resolved block's own
pub put-told : (st store r : List ℕ) (b : Resolved) {own n : ℕ} {l l1 : List ℕ} → b ≡ resolved st r
    → Put own (before b.emits st store) l n l1 → Put own (before (emits st r) st store) l n l1
put-told st store r b e p = rw (ap (λ (x : Resolved). x.emits) e) at p

-- ---- the answers of a push whose block is planned and whose first rows, n of them, are put where there is room
module _ (st store rows r : List ℕ) (b : Resolved) (pass : Passed st store r b) (p : Plan) (h : OwnPlanned st r p)
    (n : ℕ) (l : List ℕ) (put : Put p.count (before b.emits st store) rows n l) (long : length l ≡ length rows) where
  put_is : Put p.count (before (emits st r) st store) rows n l
  put_is = put-told st store r b pass.told put

  pub few-answer : {a : Reply} → length l / row_words < n + p.count → a ≡ too_few (n + p.count) → PushIs (push_spec st store rows r) a st store l
  unfolding untouched
  few-answer x e =
      let short = room-short _ _ _ _ _ put_is long _ refl x in
      answers (few-is st store rows r pass.check p h n put_is.count short) e refl refl (put_refused _ _ _ _ _ put_is long _ refl x)

  module _ (room : n + p.count ≤ length l / row_words) where
    pub settles : Settles st store r b l n p
    settles =
        let q : Passes st store r = passes st store r pass.check in
        record {
          ready = passes-ready q pass.told;
          planned = h;
          few = passes-few q;
          space = q.space;
          small = omega (arith, h.count, few-own st r, put.few);
          room = row_room_lem n p.count (length l) room;
        }

    pub done-answer : {a : Reply} {s t u : List ℕ} → PushIs (settled st store l r n p) a s t u → PushIs (push_spec st store rows r) a s t u
    unfolding settled
    done-answer w =
        let left = room-left _ _ _ _ _ put_is long _ refl room in
        let first = put_written _ _ _ _ _ put_is long _ refl room in
        answers (done-is st store rows r pass.check p h n put_is.count left) w.reply w.state w.store
        (both-written st store rows r pass.check p h n put_is.count left _ _ first w.rows)

-- a push that is turned down
pub turned-answer : (st store rows r : List ℕ) (n : ℕ) {a : Reply} → due st store r ≡ Err n → a ≡ plain n
    → PushIs (push_spec st store rows r) a st store rows
unfolding untouched
turned-answer st store rows r n d e =
    let t = due-refused st store r n d in
    answers (turned-is st store rows r t.1) (e ∙ ap plain (sym t.0)) refl refl refl

pub passed : (st store r : List ℕ) (b : Resolved) → due st store r ≡ Ok b → Passed st store r b
passed st store r b d = let t = due-push st store r b d in record { check = t.0; told = t.1 }
