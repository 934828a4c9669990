-- LAWS. What an answer says of text that was tried. Assumes nothing.
use Rattle.std.specs.Prelude.{ℕ, ◌+◌, ◌≡◌, refl, Bool, true, false, cond, List, length, Option, Some, None}
use Rattle.std.proofs.Common.{sym, ◌∙◌}
use Rattle.csv_figures.specs.OutLaws.{upto-none, upto-same}
use Rattle.csv_write.specs.Writer.{Tried}

pub tried_bad : {ok : Bool} {t o o' : List ℕ} {n : ℕ} {r : Option ℕ} → Tried ok t o n o' r → r ≡ None → ok ≡ false
tried_bad {ok} {t} {o} {o'} {n} {r} w e = go ok (sym w.answer ∙ e)
  where
    go : (b : Bool) → cond b (Some (n + length t)) None ≡ None → b ≡ false
    go true q = absurd (upto-none (n + length t) q)
    go false q = refl

pub tried-good : {ok : Bool} {t o o' : List ℕ} {n m : ℕ} {r : Option ℕ} → Tried ok t o n o' r → r ≡ Some m → (ok ≡ true) × (m ≡ n + length t)
tried-good {ok} {t} {o} {o'} {n} {m} {r} w e = go ok (sym e ∙ w.answer)
  where
    go : (b : Bool) → Some m ≡ cond b (Some (n + length t)) None → (b ≡ true) × (m ≡ n + length t)
    go true q = (refl, upto-same m (n + length t) q)
    go false q = absurd (upto-none m q)
