-- LAWS. A call that is done has no more rows than it was lent. Assumes nothing.
use Rattle.std.specs.Prelude.{ℕ, ◌/◌, ◌≤◌, ◌≡◌, refl, Bool, true, false, cond, List, eqb, leb, length}
use Rattle.std.proofs.Common.{sym, ◌∙◌, arith, leb-true}
use Rattle.std.proofs.lemmas.Bool.{eqb-false}
use Rattle.layout.specs.Layout.{row_words}
use Rattle.call_reply.specs.Replies.{After, too_few, untouched}
use Rattle.call_answer.specs.Push.{push_spec, push_rows, push_done}
use Rattle.call_answer.specs.Close.{close_spec, close_rows}
use Rattle.push_check.specs.Refusal.{push_check}
use Rattle.saved_state.specs.State.{saved_check}

module _ (k n p : ℕ) (done few bad : After) where
  abbrev answered : Bool → Bool → After
  answered x y = cond x (cond y done few) bad

  fits_by : done.reply.count ≡ n → few.reply.code ≡ 7 → bad.reply.code ≡ k
      → (answered (eqb k 0) (leb n p)).reply.code ≡ 0 → (answered (eqb k 0) (leb n p)).reply.count ≤ p
  fits_by d f b = go (eqb k 0) (leb n p) refl refl
    where
      go : (x y : Bool) → eqb k 0 ≡ x → leb n p ≡ y → (answered x y).reply.code ≡ 0 → (answered x y).reply.count ≤ p
      go true true h j z = omega (arith, leb-true n p j, d)
      go true false h j z = absurd (omega arith)
      go false y h j z = absurd (eqb-false k 0 h (sym b ∙ z))

pub push-fits : (st store rows r : List ℕ) → let p = push_spec st store rows r in p.reply.code ≡ 0 → p.reply.count ≤ length rows / row_words
unfolding push_spec push_done untouched too_few
push-fits st store rows r = fits_by (push_check st store r) (length (push_rows st store r)) (length rows / row_words) _ _ _ refl refl refl

pub close-fits : (st store rows : List ℕ) → let p = close_spec st store rows in p.reply.code ≡ 0 → p.reply.count ≤ length rows / row_words
unfolding close_spec untouched too_few
close-fits st store rows = fits_by (saved_check st store) (length (close_rows st store)) (length rows / row_words) _ _ _ refl refl refl
