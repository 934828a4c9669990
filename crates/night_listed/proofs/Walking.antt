-- Laws of this crate's proofs: the lines row by row. Assumes nothing.
use Prim.Native.Nat.{ℕ, zero, suc, ◌+◌, ◌-◌, ◌*◌, ◌≤◌, ◌<◌}
use mathlib.Core.Path.{◌≡◌, refl, sym, ap, ap₂, ◌∙◌, subst}
use mathlib.Core.Bool.{Bool, true, false, cond, ◌&&◌, not}
use mathlib.Core.List.{List, []}
use native.Mathlib.Omega.{arith}
use native.Mathlib.Numerals.{add-one}
use native.Mathlib.Nat.{mul-suc}
use lib.Dec.{eqb, ltb}
use lib.ListN.{length, take, drop}
use borrow.Author.Tests.{ltb-true}
use Rattle.layout.specs.Layout.{line_numbers, row_words}
use Rattle.floats.specs.Lists.{upto, flatten, all}
use Rattle.floats.specs.Truth.{and_left, and_right, all-at}
use Rattle.row_cells.specs.Codes.{plane_ok}
use Rattle.row_cells.specs.Row.{line_of, motion_of, plane_of}
use Rattle.tally_words.specs.Words.{bit, count_if}
use Rattle.still_curved.specs.declared.Seen.{Seen}
use Rattle.still_curved.specs.Curved.{row_at, motion_after, motion_behind, still_curved, seen_of}
use Rattle.csv_figures.specs.Out.{Wrote}
use Rattle.csv_figures.specs.OutLaws.{wrote_then}
use Rattle.csv_line.specs.LineText.{column_count}
use Rattle.csv_write.specs.Writer.{cell_shown, head_ok, writable, rows_writable}
use Rattle.csv_write.specs.Texts.{flatten-more}
use Rattle.night_named.specs.Named.{further, warning_at}
use Rattle.night_naming.specs.Naming.{listed_room, listed_line}
use Rattle.night_naming.specs.Pieces.{motion_words, PutIn}
use Rattle.night_listed.specs.declared.Walk.{Walk}
use Rattle.night_listed.specs.Listed.{curved_at, named_at, listed_at, listed_text, listed_count}
use Rattle.night_listed.specs.Lines.{RowFits, named_then, line_then, RowIs, ListFits, ListIs}

-- ---- one row
pub row_seen : {s : Seen} (motion : ℕ) (rows : List ℕ) (i from to : ℕ) → from ≡ i * row_words → to ≡ from + row_words
    → s ≡ seen_of motion (take (to - from) (drop from rows)) → s ≡ seen_of motion (row_at rows i)
row_seen motion rows i from to e f s =
    let k : to - from ≡ row_words = omega arith in
    s ∙ ap (λ (z : ℕ). seen_of motion (take z (drop from rows))) k ∙ ap (λ (z : ℕ). seen_of motion (take row_words (drop z rows))) e

after-word : (m : ℕ) (row : List ℕ) → m < motion_words → motion_of row < motion_words → motion_after m row < motion_words
unfolding motion_after
after-word m row h k = go (eqb (motion_of row) 0)
  where
    go : (b : Bool) → cond b m (motion_of row) < motion_words
    go true = h
    go false = k

module _ {rows : List ℕ} {i out : ℕ} {was : Walk} {s : Seen} (f : RowFits rows i out was) (e : s ≡ seen_of was.motion (row_at rows i)) where
  seen-motion : s.motion ≡ motion_after was.motion (row_at rows i)
  unfolding seen_of
  seen-motion = ap (λ (z : Seen). z.motion) e

  seen-curved : s.curved ≡ still_curved was.motion (row_at rows i)
  unfolding seen_of
  seen-curved = ap (λ (z : Seen). z.curved) e

  pub seen-word : s.motion < motion_words
  seen-word = subst (λ (z : ℕ). z < motion_words) (sym seen-motion) (after-word was.motion (row_at rows i) f.word f.own)

  -- the test that the code makes, in the definition's words
  named-then : {b : Bool} → b ≡ (s.curved && not (further rows i && was.curved)) → b ≡ named_then rows i was
  named-then q = q ∙ ap (λ (z : Bool). z && not (further rows i && was.curved)) seen-curved

  pub row_named : {b : Bool} {o o' : List ℕ} {line at : ℕ} (job number warning : ℕ) → b ≡ (s.curved && not (further rows i && was.curved)) → b ≡ true
      → line ≡ line_of (row_at rows i) → PutIn listed_room (listed_line job number line s.motion warning) o was.at o' at
      → RowIs job number rows i warning was o (record { at = at; motion = s.motion; lines = was.lines + 1; curved = s.curved }) o'
  row_named {b} {o} {o'} {line} {at} job number warning q t l p =
      let n : named_then rows i was ≡ true = sym (named-then q) ∙ t in
      let m = seen-motion in
      record {
        text = rw n (subst (λ (z : ℕ). PutIn listed_room (listed_line job number z (motion_after was.motion (row_at rows i)) warning) o was.at o' at) l
            (subst (λ (z : ℕ). PutIn listed_room (listed_line job number line z warning) o was.at o' at) m p));
        motion = m;
        word = seen-word;
        lines = rw n;
        curved = seen-curved;
      }

  pub row_unnamed : {b : Bool} {o : List ℕ} (job number warning : ℕ) → b ≡ (s.curved && not (further rows i && was.curved)) → b ≡ false
      → RowIs job number rows i warning was o (record { at = was.at; motion = s.motion; lines = was.lines; curved = s.curved }) o
  row_unnamed {b} {o} job number warning q t =
      let n : named_then rows i was ≡ false = sym (named-then q) ∙ t in
      record {
        text = rw n (record { wrote = record { next = omega arith; text = refl }; most = omega arith; ahead = omega arith; same = refl });
        motion = seen-motion;
        word = seen-word;
        lines = rw n (omega arith);
        curved = seen-curved;
      }

-- ---- row after row
-- whether the row before row i stays curved
abbrev before : ℕ → List ℕ → ℕ → Bool
before m rows zero = false
before m rows (suc i) = curved_at m rows i

named-is : (m : ℕ) (rows : List ℕ) (i : ℕ) → named_at m rows i ≡ (curved_at m rows i && not (further rows i && before m rows i))
unfolding named_at further
named-is m rows zero = refl
named-is m rows (suc i) =
    let e : suc i - 1 ≡ i = omega arith in
    ap (λ (k : ℕ). curved_at m rows (suc i) && not (further rows (suc i) && curved_at m rows k)) e

-- the first i rows are listed
pub record Walked (job number m : ℕ) (rows : List ℕ) (count warning : ℕ) (o : List ℕ) (n i : ℕ) (o' : List ℕ) (w : Walk) : Type 0 where
  pub text : Wrote o n (flatten (upto (listed_at job number m rows count warning) i)) o' w.at
  pub room : w.at ≤ n + listed_room * i
  pub same : length o' ≡ length o
  pub motion : w.motion ≡ motion_behind m rows i
  pub word : w.motion < motion_words
  pub lines : w.lines ≡ count_if (named_at m rows) i
  pub most : w.lines ≤ i
  pub curved : w.curved ≡ before m rows i

own-word : (rows : List ℕ) (count i : ℕ) → rows_writable rows count ≡ true → i < count → motion_of (row_at rows i) < motion_words
unfolding rows_writable writable head_ok
own-word rows count i e h =
    let r = row_at rows i in
    let w = all-at count (λ (k : ℕ). writable (row_at rows k)) i e h in
    let k = and_right (ltb (line_of r) line_numbers) (ltb (motion_of r) motion_words && plane_ok (plane_of r))
    (and_left (head_ok r) (all column_count (cell_shown r)) w) in
    ltb-true (motion_of r) motion_words (and_left (ltb (motion_of r) motion_words) (plane_ok (plane_of r)) k)

module _ (job number m : ℕ) (rows : List ℕ) (count warning : ℕ) where
  pub walked_none : (o : List ℕ) (n : ℕ) → m < motion_words
      → Walked job number m rows count warning o n 0 o (record { at = n; motion = m; lines = 0; curved = false })
  unfolding upto flatten motion_behind count_if
  walked_none o n h =
      record {
        text = record { next = omega arith; text = refl };
        room = omega arith;
        same = refl;
        motion = refl;
        word = h;
        lines = refl;
        most = omega arith;
        curved = refl;
      }

  pub row_fits_lem : {o o' : List ℕ} {n i : ℕ} {w : Walk} → ListFits m rows count n (length o) → i < count
      → Walked job number m rows count warning o n i o' w → RowFits rows i (length o') w
  row_fits_lem {o} {o'} {n} {i} {w} f h p =
      record {
        lent = omega (arith, f.lent);
        own = own-word rows count i f.texts h;
        word = p.word;
        room = omega (arith, f.room, p.room, p.same);
        most = p.most;
      }

  bit-low : (b : Bool) → bit b ≤ 1
  bit-low true = omega arith
  bit-low false = omega arith

  -- in terms of the walk, the definition's test and its line
  named_walk : (i : ℕ) (w : Walk) → w.motion ≡ motion_behind m rows i → w.curved ≡ before m rows i → named_then rows i w ≡ named_at m rows i
  named_walk i w e c =
      ap₂ (λ (k : ℕ) (b : Bool). still_curved k (row_at rows i) && not (further rows i && b)) e c ∙ sym (named-is m rows i)

  line_walk : (i : ℕ) (w : Walk) → w.motion ≡ motion_behind m rows i → w.curved ≡ before m rows i
      → line_then job number rows i (warning_at count warning i) w ≡ listed_at job number m rows count warning i
  unfolding listed_at
  line_walk i w e c =
      ap₂ (λ (b : Bool) (k : ℕ). cond b (listed_line job number (line_of (row_at rows i)) (motion_after k (row_at rows i)) (warning_at count warning i)) [])
      (named_walk i w e c) e

  pub walked_more : {o o' o'' : List ℕ} {n i v : ℕ} {w r : Walk} → Walked job number m rows count warning o n i o' w → v ≡ warning_at count warning i
      → RowIs job number rows i v w o' r o'' → Walked job number m rows count warning o n (i + 1) o'' r
  unfolding motion_behind count_if
  walked_more {o} {o'} {o''} {n} {i} {v} {w} {r} p e q =
      let f = listed_at job number m rows count warning in
      let l : line_then job number rows i v w ≡ f i = ap (λ (z : ℕ). line_then job number rows i z w) e ∙ line_walk i w p.motion p.curved in
      let b = named_walk i w p.motion p.curved in
      rw (add-one i)
      (record {
        text = subst (λ (t : List ℕ). Wrote o n t o'' r.at) (sym (flatten-more f i))
            (wrote_then p.text (subst (λ (t : List ℕ). Wrote o' w.at t o'' r.at) l q.text.wrote));
        room = omega (arith, p.room, q.text.most, mul-suc listed_room i);
        same = q.text.same ∙ p.same;
        motion = q.motion ∙ ap (λ (k : ℕ). motion_after k (row_at rows i)) p.motion;
        word = q.word;
        lines = q.lines ∙ ap₂ (λ (a : ℕ) (c : Bool). a + bit c) p.lines b;
        most = omega (arith, q.lines, bit-low (named_then rows i w), p.most);
        curved = q.curved ∙ ap (λ (k : ℕ). still_curved k (row_at rows i)) p.motion;
      })

  pub walked_all : {o o' : List ℕ} {n i : ℕ} {w : Walk} → i ≡ count → Walked job number m rows count warning o n i o' w
      → ListIs job number m rows count warning o n o' (record { at = w.at; motion = w.motion; lines = w.lines })
  unfolding listed_text listed_count
  walked_all {o} {o'} {n} {i} {w} e p =
      let q = subst (λ (k : ℕ). Walked job number m rows count warning o n k o' w) e p in
      record { text = q.text; room = q.room; motion = q.motion; word = q.word; lines = q.lines; most = q.most }
