-- What a line of standard error is put together from. Assumes nothing.
use Prim.Native.Nat.{ℕ, ◌+◌, ◌≤◌}
use mathlib.Core.Path.{◌≡◌}
use mathlib.Core.Bool.{true, false}
use mathlib.Core.List.{List, [], ◌∷◌}
use native.Mathlib.Omega.{arith}
use lib.ListN.{length}
use Rattle.csv_figures.specs.Out.{Wrote}
use Rattle.csv_figures.specs.OutLaws.{wrote_then, wrote-length}
use Rattle.csv_figures.specs.Write.{whole_text}
use Rattle.csv_decimal.specs.Widths.{width-ten}
use Rattle.csv_figures.specs.Writers.{whole_length}
use Rattle.csv_words.specs.Text.{bytes}
use Rattle.csv_line.specs.LineText.{comma, crlf}
use Rattle.csv_line.specs.Notice.{notice_text}

module _ {o o₁ o₂ o₃ : List ℕ} {n a b c : ℕ} (line number : ℕ) (u : Wrote o n (whole_text line) o₁ a) (v : Wrote o₁ a (comma ∷ []) o₂ b)
    (w : Wrote o₂ b (whole_text number) o₃ c) where
  pub warned : {o' : List ℕ} {r : ℕ} → Wrote o₃ c crlf o' r → Wrote o n (notice_text line number false) o' r
  unfolding notice_text
  warned z = wrote_then u (wrote_then (wrote_then v w) z)

  pub refused : {o₄ o' : List ℕ} {d r : ℕ} → Wrote o₃ c (bytes ",refused") o₄ d → Wrote o₄ d crlf o' r → Wrote o n (notice_text line number true) o' r
  unfolding notice_text
  refused y z = wrote_then u (wrote_then (wrote_then v w) (wrote_then y z))

pub whole-short : {o o' : List ℕ} {n r : ℕ} (v : ℕ) → Wrote o n (whole_text v) o' r → (r ≤ n + 10) × (length o' ≡ length o)
whole-short {o} {o'} {n} {r} v w = (omega (arith, w.next, whole_length v, width-ten v), wrote-length w)
