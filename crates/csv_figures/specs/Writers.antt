-- LAWS. The answers of the writers, case by case. Assumes nothing.
use Rattle.std.specs.Prelude.{◌≡◌, ℕ, ◌+◌, ◌/◌, ◌≤◌, ◌<◌, true, false, List, [], ◌∷◌, length, Float, Some, None}
use Rattle.std.proofs.Common.{ap, subst, arith}
use Rattle.std.specs.Float.{binary64}
use Rattle.std.specs.Float.Ieee.{lt, of_bits}
use borrow.Author.Tests.{lt-ltb, le-ltb}
use Rattle.csv_decimal.specs.Decimal.{millionths, width}
use Rattle.csv_decimal.specs.Widths.{width-nine}
use Rattle.csv_figures.specs.Out.{Wrote, Put}
use Rattle.csv_figures.specs.OutLaws.{wrote_then, wrote-length}
use Rattle.csv_figures.specs.Write.{figures, whole_text, millionths_text, number_text}
use Rattle.csv_figures.specs.Figures.{figures-length}

pub whole_length : (v : ℕ) → length (whole_text v) ≡ width v
whole_length v = figures-length (width v) v

pub as_whole : {o o' : List ℕ} {n r : ℕ} (v k : ℕ) → k ≡ width v → Wrote o n (figures k v) o' r → Wrote o n (whole_text v) o' r
as_whole {o} {o'} {n} {r} v k e w = subst (λ (i : ℕ). Wrote o n (figures i v) o' r) e w

-- what is left of 16 places behind the whole part
pub seven-left : {o o' : List ℕ} {n r : ℕ} (v : ℕ) → Wrote o n (whole_text v) o' r → n + 16 ≤ length o → v < 1000000000 → r + 7 ≤ length o'
seven-left v w h l = omega (arith, w.next, whole_length v, width-nine v l, wrote-length w)

-- ---- n millionths
pub in_three : {o o₁ o₂ o₃ : List ℕ} {n a b r : ℕ} (v : ℕ) → Wrote o n (whole_text (v / 1000000)) o₁ a → Wrote o₁ a (46 ∷ []) o₂ b
    → Wrote o₂ b (figures 6 v) o₃ r
    → Wrote o n (millionths_text v) o₃ r
unfolding millionths_text
in_three v x y z = wrote_then x (wrote_then y z)

-- ---- a number
module _ (x : Float) (o : List ℕ) (n v : ℕ) (e : v ≡ millionths x) where
  pub refused : 1000000000000000 ≤ v → Put x o n o None
  refused h = record { answer = rw (← e, le-ltb v 1000000000000000 h); text = rw (← e, le-ltb v 1000000000000000 h) }

  put-text : (o' t : List ℕ) (r : ℕ) → v < 1000000000000000 → number_text x ≡ t → Wrote o n t o' r → Put x o n o' (Some r)
  put-text o' t r h k w =
      record {
        answer = rw (← e, lt-ltb v 1000000000000000 h, k) (ap Some w.next);
        text = rw (← e, lt-ltb v 1000000000000000 h, k) w.text;
      }

  pub not-below : (o' : List ℕ) (r : ℕ) → v < 1000000000000000 → lt x (of_bits binary64 0) ≡ false → Wrote o n (millionths_text v) o' r
      → Put x o n o' (Some r)
  unfolding number_text
  not-below o' r h l w = put-text o' (millionths_text v) r h (rw (l, ← e)) w

  pub all-zeros : (o' : List ℕ) (r : ℕ) → v < 1000000000000000 → v ≤ 0 → lt x (of_bits binary64 0) ≡ true → Wrote o n (millionths_text v) o' r
      → Put x o n o' (Some r)
  unfolding number_text
  all-zeros o' r h z l w = put-text o' (millionths_text v) r h (rw (l, ← e, le-ltb 0 v z)) w

  pub with-minus : {o₁ o' : List ℕ} {a r : ℕ} → v < 1000000000000000 → 0 < v → lt x (of_bits binary64 0) ≡ true → Wrote o n (45 ∷ []) o₁ a
      → Wrote o₁ a (millionths_text v) o' r → Put x o n o' (Some r)
  unfolding number_text
  with-minus {o₁} {o'} {a} {r} h p l w z = put-text o' (45 ∷ millionths_text v) r h (rw (l, ← e, lt-ltb 0 v p)) (wrote_then w z)
