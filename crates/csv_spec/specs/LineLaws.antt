-- LAWS. The definition of a line and of the end of the input, by cases. Assumes nothing.
use Rattle.std.specs.Prelude.{ℕ, ◌+◌, ◌-◌, ◌≤◌, ◌≡◌, Bool, cond, List, eqb, ltb, length, get_or, Some, None}
use Rattle.std.proofs.Math.Path.{refl, ap}
use Rattle.std.proofs.Common.{sym, arith, eq-eqb, ne_eqb}
use Rattle.std.proofs.Math.Bool.{true, false}
use Rattle.std.proofs.lemmas.Bool.{false≢true}
use Rattle.std.proofs.Math.Option
use Rattle.std.proofs.Math.Option.{Option, none, some}
use Rattle.floats.specs.Lists.{is_some}
use Rattle.csv_line.specs.LineText.{end_of}
use Rattle.csv_read.specs.Reader.{read_row}
use Rattle.csv_out.specs.Say.{heading}
use Rattle.csv_spec.specs.Line.{Stand, spoken, unread, on_row, on_read, on_text, csv_end}

-- ---- the cases of a line
module _ (s : Stand) (text : List ℕ) where
  pub text-header : s.physical ≡ 1 → on_text s text ≡ spoken s (heading s.physical text)
  unfolding on_text
  text-header h = rw (eq-eqb s.physical 1 h)

  pub text-row : (row d : List ℕ) → (s.physical ≡ 1 → ⊥) → is_some (read_row text) ≡ true → row ≡ Option.get_or (read_row text) d
      → on_text s text ≡ on_row s row
  unfolding on_text
  text-row row d h j k = rw (ne_eqb s.physical 1 h) (go (read_row text) j k)
    where
      go : (o : Option (List ℕ)) → is_some o ≡ true → row ≡ Option.get_or o d → on_read s o ≡ on_row s row
      go none j k = absurd (false≢true j)
      go (some x) j k = ap (on_row s) (sym k)

  pub text_bad : (s.physical ≡ 1 → ⊥) → is_some (read_row text) ≡ false → on_text s text ≡ unread s
  unfolding on_text
  text_bad h j = rw (ne_eqb s.physical 1 h) (go (read_row text) j)
    where
      go : (o : Option (List ℕ)) → is_some o ≡ false → on_read s o ≡ unread s
      go none j = refl
      go (some x) j = absurd (false≢true (sym j))

module _ (s : Stand) (left : ℕ) where
  pub end-left : (left ≡ 0 → ⊥) → csv_end s left ≡ unread s
  unfolding csv_end
  end-left h = rw (ne_eqb left 0 h)

-- the text of a line is all but its last two bytes, and so lies in it
pub end-at : (s : List ℕ) {n : ℕ} → end_of s ≡ Some n → n ≡ length s - 2
unfolding end_of
end-at s {n} e = go (ltb (length s) 2) (eqb (get_or s (length s - 2) 0) 13) (eqb (get_or s (length s - 2 + 1) 0) 10) e
  where
    same : (a b : ℕ) → Some a ≡ Some b → a ≡ b
    same a b e = cc

    none-there : (a : ℕ) → None ≡ Some a → ⊥
    none-there a e = let z : ◌≡◌ {A = ℕ} 0 1 = cc in omega arith

    go : (a b c : Bool) → cond a None (cond b (cond c (Some (length s - 2)) None) None) ≡ Some n → n ≡ length s - 2
    go true b c q = absurd (none-there n q)
    go false true true q = sym (same (length s - 2) n q)
    go false true false q = absurd (none-there n q)
    go false false c q = absurd (none-there n q)

pub end_in : (s : List ℕ) {n : ℕ} → end_of s ≡ Some n → n ≤ length s
end_in s e = omega (arith, end-at s e)
