-- LAWS. What a close answers, by its cases. Assumes nothing.
use Rattle.std.specs.Prelude.{ℕ, ◌/◌, ◌≤◌, ◌<◌, ◌≡◌, List, [], length}
use Rattle.std.proofs.Common.{◌∙◌, arith}
use borrow.Author.Tests.{eq-eqb, ne_eqb, le-leb, lt-leb}
use Rattle.floats.specs.Lists.{flatten, spliced}
use Rattle.floats.specs.Splice.{spliced-none}
use Rattle.layout.specs.Layout.{row_words}
use Rattle.floats.specs.Truth.{cond-t, cond-f}
use Rattle.saved_state.specs.State.{held, saved_check}
use Rattle.call_reply.specs.Replies.{plain, After, too_few, done_reply, untouched}
use Rattle.spline_answer.specs.Held.{emission}
use Rattle.call_answer.specs.Close.{close_rows, close_state, close_spec}

-- ---- a close
pub close-turned-is : (st store rows : List ℕ) → (saved_check st store ≡ 0 → ⊥)
    → close_spec st store rows ≡ untouched (plain (saved_check st store)) st store rows
unfolding close_spec close_rows
close-turned-is st store rows d = cond-f _ _ (ne_eqb (saved_check st store) 0 d)

abbrev pub closed : List ℕ → List ℕ → List ℕ → List (List ℕ) → After
closed st store rows out = record { reply = done_reply (length out) 0 0 0; state = close_state st; store = store; rows = spliced rows 0 (flatten out) }

module _ (st store rows : List ℕ) (pass : saved_check st store ≡ 0) where
  pub close-none-is : held st ≡ 0 → close_spec st store rows ≡ closed st store rows []
  unfolding close_spec close_rows
  close-none-is e =
      cond-t _ _ (eq-eqb (saved_check st store) 0 pass)
      ∙ rw (eq-eqb (held st) 0 e, le-leb 0 (length rows / row_words) (omega arith))

  pub close-few-is : (held st ≡ 0 → ⊥) → length rows / row_words < length (emission st store)
      → close_spec st store rows ≡ untouched (too_few (length (emission st store))) st store rows
  unfolding close_spec close_rows
  close-few-is d l =
      cond-t _ _ (eq-eqb (saved_check st store) 0 pass)
      ∙ rw (ne_eqb (held st) 0 d, lt-leb (length (emission st store)) (length rows / row_words) l)

  pub close-done-is : (held st ≡ 0 → ⊥) → length (emission st store) ≤ length rows / row_words
      → close_spec st store rows ≡ closed st store rows (emission st store)
  unfolding close_spec close_rows
  close-done-is d l =
      cond-t _ _ (eq-eqb (saved_check st store) 0 pass)
      ∙ rw (ne_eqb (held st) 0 d, le-leb (length (emission st store)) (length rows / row_words) l)

pub no_rows : (rows : List ℕ) → rows ≡ spliced rows 0 (flatten [])
unfolding flatten
no_rows rows = spliced-none rows 0
