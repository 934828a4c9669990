-- LAWS. What is left of the room behind each step. Assumes nothing.
use Rattle.std.specs.Prelude.{ℕ, ◌+◌, ◌-◌, ◌≤◌, ◌≡◌, refl, Bool, true, false, cond, List, eqb, ltb, length, get_or, Option, Some, None}
use Rattle.std.proofs.Common.{sym, subst, arith}
use Rattle.text_lines.specs.declared.Turn.{Turn}
use Rattle.csv_line.specs.LineText.{end_of}
use Rattle.csv_line.specs.Notice.{notice_text}
use Rattle.csv_out.specs.declared.Run.{Run}
use Rattle.csv_out.specs.Said.{Noted, NextIs}
use Rattle.csv_out.specs.SayLaws.{notice_short}
use Rattle.csv_io.specs.Flush.{Emptied}
use Rattle.csv_io.specs.declared.Left.{Left}
use Rattle.csv_reading.specs.declared.Reading.{Reading}
use Rattle.csv_reading.specs.Reading.{first_reading, behind}
use Rattle.picture_fixed.specs.Rooms.{start_room}
use Rattle.picture_row.specs.Room.{Room, Kept}
use Rattle.picture_run.specs.Pages.{Behind, Within}

pub kept_same : (run : Run) → Kept run run
kept_same run = record { out = omega arith; err = omega arith }

pub noted-kept : {b : Bool} {e e' : List ℕ} {run r : Run} (line number : ℕ) → Noted b (notice_text line number b) run e r e' → Kept run r
noted-kept {b} line number d = record { out = omega (arith, d.out); err = omega (arith, d.err.count, notice_short line number b) }

pub next-kept : {run s r : Run} → Kept run s → NextIs s r → Kept run r
next-kept k n = record { out = omega (arith, k.out, n.out); err = omega (arith, k.err, n.err) }

pub behind-kept : {t : Turn} {run then : Run} {r : Reading} (over : ℕ) → r ≡ behind t then over → Kept run then → Behind t run r
behind-kept {t} {run} {then} {r} over e k =
    subst (λ (x : Reading). Behind t run x) (sym e) (record { from = refl; upto = refl; kept = k })

-- a line's room behind a flush, and what is left of it behind a turn
pub emptied-room : {run : Run} {o e : List ℕ} (left : Left) → Emptied run o e left → Room left.run
emptied-room left d = record { out = omega (arith, d.outs); err = omega (arith, d.errs) }

pub behind-within : {t : Turn} {run : Run} {r : Reading} → t.at ≤ t.end → t.end ≤ 65536 → Room run → Behind t run r → Within r
behind-within w i m b =
    record {
      window = omega (arith, b.from, b.upto);
      inside = omega (arith, b.upto);
      outs = omega (arith, m.out, b.kept.out);
      errs = omega (arith, m.err, b.kept.err);
    }

pub first-within : (s : Reading) (n : ℕ) → s ≡ first_reading → n ≤ start_room
    → Within (record {
      at = s.at;
      end = s.end;
      run = record { out = n; err = s.run.err; physical = s.run.physical; source = s.run.source; refused = s.run.refused };
      over = s.over;
    })
first-within s n e h = rw e (record { window = omega arith; inside = omega arith; outs = omega arith; errs = omega arith })

-- the text of a line lies in it
abbrev upto : ℕ → Bool → Bool → Bool → Option ℕ
upto n a b c = cond a None (cond b (cond c (Some n) None) None)

pub text-within : (s : List ℕ) (n : ℕ) → end_of s ≡ Some n → n ≤ length s
unfolding end_of
text-within s n e = go (ltb (length s) 2) (eqb (get_or s (length s - 2) 0) 13) (eqb (get_or s (length s - 2 + 1) 0) 10) e
  where
    go : (a b c : Bool) → upto (length s - 2) a b c ≡ Some n → n ≤ length s
    go true b c e = let z : ◌≡◌ {A = ℕ} 0 1 = cc in omega arith
    go false true true e = let z : n ≡ length s - 2 = cc in omega arith
    go false true false e = let z : ◌≡◌ {A = ℕ} 0 1 = cc in omega arith
    go false false c e = let z : ◌≡◌ {A = ℕ} 0 1 = cc in omega arith
