-- LAWS. A try line by line: a whole line is done, and then the rest; where it goes on no more, only its end is left. Assumes nothing.
use Prim.Native.Nat.{ℕ, zero, suc, ◌≤◌, ◌<◌}
use Rattle.std.specs.Prelude.{◌≡◌, Bool, true, false, cond, eqb, take, drop}
use Rattle.std.proofs.Math.Path.{refl, sym, ap}
use Rattle.std.proofs.Common.{◌∙◌, arith}
use mathlib.Core.List.{List, [], ◌∷◌, ◌++◌, append_assoc, append-nil}
use Rattle.std.proofs.Math.ListN.{length}
use Rattle.std.proofs.Math.Seq.{take-length, drop-length}
use borrow.Author.Tests.{eqb-false, eq-eqb, ne_eqb}
use Rattle.floats.specs.Truth.{by_bit}
use Rattle.call_reply.specs.Replies.{plain}
use Rattle.tally_call.specs.Calls.{k_push}
use Rattle.text_cut.specs.Cut.{lf, cut, lines_from, rest_from}
use Rattle.text_cut.specs.CutLaws.{lines-pieces, rest-pieces, first-line, first_rest, no_line}
use Rattle.csv_count.specs.Count.{bad_text}
use Rattle.night_course.specs.declared.Ticket.{Ticket}
use Rattle.night_course.specs.Course.{goes, if_told}
use Rattle.night_refusal.specs.Refusal.{turned_down, stands_then}
use Rattle.night_note.specs.Note.{told_by}
use Rattle.night_spec.specs.Try.{Stand, Step, still, and_then, unread, night_line, night_lines, ends, shuts, night_end, line_room, taken, night_rest}

-- ---- one step after another
abbrev put : Stand → List ℕ → List ℕ → Step
put s o l = record { stand = s; out = o; listed = l }

pub then_assoc : (a b c : Step) → and_then (and_then a b) c ≡ and_then a (and_then b c)
then_assoc a b c =
    ap (λ (l : List ℕ). put c.stand l ((a.listed ++ b.listed) ++ c.listed)) (append_assoc a.out b.out c.out)
    ∙ ap (λ (l : List ℕ). put c.stand (a.out ++ (b.out ++ c.out)) l) (append_assoc a.listed b.listed c.listed)

pub then-still : (d : Step) → and_then d (still d.stand) ≡ d
then-still d =
    ap (λ (l : List ℕ). put d.stand l (d.listed ++ [])) (append-nil d.out) ∙ ap (λ (l : List ℕ). put d.stand d.out l) (append-nil d.listed)

-- ---- the bytes that are taken: a whole line, and a part of one
none-taken : (l later : List ℕ) → length l ≡ 0 → taken line_room (l ++ later) ≡ l ++ taken line_room later
none-taken [] later e = refl
none-taken (c ∷ l) later e = absurd (omega arith)

taken-whole : (l later : List ℕ) (n : ℕ) → cut l ≡ length l → length l ≤ n → taken n (l ++ later) ≡ l ++ taken line_room later
unfolding cut taken
taken-whole [] later n w h = absurd (omega arith)
taken-whole (c ∷ l) later zero w h = absurd (omega arith)
taken-whole (c ∷ l) later (suc n) w h = ap (λ (x : List ℕ). c ∷ x) (go (eqb c lf) w (taken-whole l later n))
  where
    go : (b : Bool) → cond b 1 (suc (cut l)) ≡ suc (length l) → (cut l ≡ length l → length l ≤ n → taken n (l ++ later) ≡ l ++ taken line_room later)
        → taken (cond b line_room n) (l ++ later) ≡ l ++ taken line_room later
    go true e r = none-taken l later (omega arith)
    go false e r = r (omega arith) (omega arith)

taken-part : (u later : List ℕ) → length u < cut u → taken (length u) (u ++ later) ≡ u
unfolding cut taken
taken-part [] [] h = refl
taken-part [] (c ∷ later) h = refl
taken-part (c ∷ u) later h = ap (λ (x : List ℕ). c ∷ x) (go (eqb c lf) h (taken-part u later))
  where
    go : (b : Bool) → suc (length u) < cond b 1 (suc (cut u)) → (length u < cut u → taken (length u) (u ++ later) ≡ u)
        → taken (cond b line_room (length u)) (u ++ later) ≡ u
    go true h r = absurd (omega arith)
    go false h r = r (omega arith)

taken-all : (u : List ℕ) (n : ℕ) → length u < cut u → length u ≤ n → taken n u ≡ u
unfolding cut taken
taken-all [] n h k = refl
taken-all (c ∷ u) zero h k = absurd (omega arith)
taken-all (c ∷ u) (suc n) h k = ap (λ (x : List ℕ). c ∷ x) (go (eqb c lf) h (taken-all u n))
  where
    go : (b : Bool) → suc (length u) < cond b 1 (suc (cut u)) → (length u < cut u → length u ≤ n → taken n u ≡ u) → taken (cond b line_room n) u ≡ u
    go true h r = absurd (omega arith)
    go false h r = r (omega arith) (omega arith)

-- ---- a line that is whole, and what is behind it
module _ (l : List ℕ) (w : cut l ≡ length l) where
  one : take (cut l) l ≡ l
  one = ap (λ (n : ℕ). take n l) w ∙ take-length l

  none : drop (cut l) l ≡ []
  none = ap (λ (n : ℕ). drop n l) w ∙ drop-length l

  no-rest : rest_from [] l ≡ []
  unfolding rest_from
  no-rest = first_rest l [] (omega arith) ∙ ap (rest_from []) none

  line-then : (later : List ℕ) → lines_from [] (l ++ later) ≡ l ∷ lines_from [] later
  unfolding lines_from
  line-then later =
      lines-pieces l later []
      ∙ ap (λ (r : List ℕ). lines_from [] l ++ lines_from r later) no-rest
      ∙ ap (λ (x : List (List ℕ)). x ++ lines_from [] later) (first-line l [] (omega arith))
      ∙ ap (λ (x : List ℕ). (x ∷ lines_from [] (drop (cut l) l)) ++ lines_from [] later) one
      ∙ ap (λ (x : List ℕ). (l ∷ lines_from [] x) ++ lines_from [] later) none

  rest_then : (later : List ℕ) → rest_from [] (l ++ later) ≡ rest_from [] later
  rest_then later = rest-pieces l later [] ∙ ap (λ (r : List ℕ). rest_from r later) no-rest

module _ (t : Ticket) (s : Stand) where
  -- ---- a try that goes on no more
  pub end-over : (behind : ℕ) → (s.course.stands ≡ goes → ⊥) → ends t s behind ≡ still s
  unfolding ends
  end-over behind h = rw (ne_eqb s.course.stands goes h)

  over-lines : (ls : List (List ℕ)) → (s.course.stands ≡ goes → ⊥) → night_lines t s ls ≡ still s
  unfolding night_lines
  over-lines [] h = refl
  over-lines (l ∷ ls) h = rw (ne_eqb s.course.stands goes h)

  -- the end behind what was done at it
  abbrev closing : Step → Step
  closing d = and_then d (shuts t d.stand)

  over-end : (n k : ℕ) → (s.course.stands ≡ goes → ⊥) → night_end t s n ≡ night_end t s k
  unfolding night_end
  over-end n k h = ap closing (end-over n h ∙ sym (end-over k h))

  -- what is read, in the definition
  abbrev rest_of : List ℕ → Step
  rest_of read = let d = night_lines t s (lines_from [] read) in and_then d (night_end t d.stand (length (rest_from [] read)))

  pub over-rest : (input : List ℕ) (n : ℕ) → (s.course.stands ≡ goes → ⊥) → night_rest t s input ≡ night_end t s n
  unfolding night_rest
  over-rest input n h =
      let read = taken line_room input in
      let k = length (rest_from [] read) in
      ap (λ (d : Step). and_then d (night_end t d.stand k)) (over-lines (lines_from [] read) h) ∙ over-end k n h

  -- ---- a whole line
  pub rest-whole : (l later : List ℕ) → s.course.stands ≡ goes → cut l ≡ length l → length l ≤ line_room
      → night_rest t s (l ++ later) ≡ and_then (night_line t s l) (night_rest t (night_line t s l).stand later)
  unfolding night_rest night_lines
  rest-whole l later g w h =
      let d = night_line t s l in
      let read = taken line_room later in
      let n = length (rest_from [] read) in
      let rest = night_lines t d.stand (lines_from [] read) in
      ap rest_of (taken-whole l later line_room w h)
      ∙ ap (λ (ls : List (List ℕ)). after ls (length (rest_from [] (l ++ read)))) (line-then l w read)
      ∙ ap (λ (r : List ℕ). after (l ∷ lines_from [] read) (length r)) (rest_then l w read)
      ∙ ap (λ (b : Bool). behind (cond b (and_then d rest) (still s)) n) (eq-eqb s.course.stands goes g)
      ∙ then_assoc d rest (night_end t rest.stand n)
    where
      behind : Step → ℕ → Step
      behind e n = and_then e (night_end t e.stand n)

      after : List (List ℕ) → ℕ → Step
      after ls n = behind (night_lines t s ls) n

  -- ---- no line: the input ends, or there is no room for one
  rest_part : (input u : List ℕ) → taken line_room input ≡ u → length u < cut u → night_rest t s input ≡ night_end t s (length u)
  unfolding night_rest night_lines
  rest_part input u e h =
      let w = no_line u [] h in
      ap rest_of e
      ∙ ap (λ (ls : List (List ℕ)). behind (night_lines t s ls) (length (rest_from [] u))) w.0
      ∙ ap (λ (r : List ℕ). behind (still s) (length r)) w.1
    where
      behind : Step → ℕ → Step
      behind d n = and_then d (night_end t d.stand n)

  pub rest_end : (u : List ℕ) → length u < cut u → length u ≤ line_room → night_rest t s u ≡ night_end t s (length u)
  rest_end u h k = rest_part u u (taken-all u line_room h k) h

  -- text that is not read ends the lines
  part-stops : (n : ℕ) → (n ≡ 0 → ⊥) → (ends t s n).stand.course.stands ≡ goes → ⊥
  unfolding ends unread if_told turned_down stands_then
  part-stops n d =
      by_bit (eqb s.course.stands goes)
      (λ a. by_bit (eqb (told_by t s.tally k_push (plain bad_text) []).reply.code 0)
      (λ b. rw (a, ne_eqb n 0 d, b) (λ e. omega arith))
      (λ b. rw (a, ne_eqb n 0 d, b) (λ e. omega arith)))
      (λ a. rw a (λ e. eqb-false _ goes a e))

module _ (t : Ticket) (s : Stand) where
  -- the end in two parts
  end-then : (n k : ℕ) → ((ends t s n).stand.course.stands ≡ goes → ⊥) → night_end t s n ≡ and_then (ends t s n) (night_end t (ends t s n).stand k)
  unfolding night_end
  end-then n k h =
      let d = ends t s n in ap (λ (x : Step). and_then d (and_then x (shuts t x.stand))) (sym (end-over t d.stand k h))

  -- a line that fills the room: it is told as not read, and what comes behind it is of no account
  pub rest-full : (u later other : List ℕ) → length u < cut u → length u ≡ line_room
      → night_rest t s (u ++ later) ≡ and_then (ends t s (length u)) (night_rest t (ends t s (length u)).stand other)
  rest-full u later other h k =
      let full : taken line_room (u ++ later) ≡ u = ap (λ (n : ℕ). taken n (u ++ later)) (sym k) ∙ taken-part u later h in
      let stops = part-stops t s (length u) (λ (e : length u ≡ 0). omega arith) in
      rest_part t s (u ++ later) u full h
      ∙ end-then (length u) 0 stops
      ∙ ap (λ (x : Step). and_then (ends t s (length u)) x) (sym (over-rest t (ends t s (length u)).stand other 0 stops))
