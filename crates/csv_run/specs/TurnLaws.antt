-- LAWS. From what the parts of a turn promise to what the turn does. Assumes nothing.
use Rattle.std.specs.Prelude.{ℕ, ◌+◌, ◌-◌, ◌≤◌, ◌<◌, ◌⊎◌, ◌≡◌, refl, Bool, true, false, List, [], ◌++◌, length, take, drop}
use Rattle.std.proofs.Common.{inl, inr, sym, ap, ◌∙◌, subst, append-nil, append_assoc, arith, take-append-drop}
use Rattle.text_lines.specs.declared.Found.{Found}
use Rattle.text_lines.specs.declared.Found.TheVariants as Found
use Rattle.text_lines.specs.declared.Turn.{Turn}
use Rattle.text_cut.specs.Cut.{cut, between}
use Rattle.text_cut.specs.CutLaws.{first-whole}
use Rattle.text_lines.specs.Turns.{NoLine, Told, Turned}
use Rattle.text_lines.specs.TurnLaws.{between-length}
use Rattle.csv_out.specs.declared.Run.{Run}
use Rattle.csv_out.specs.SayLaws.{adds-within}
use Rattle.csv_io.specs.declared.Left.{Left}
use Rattle.csv_io.specs.Flush.{out_room, err_room, SameLines, Emptied}
use Rattle.csv_status.specs.Status.{goes_on, ended}
use Rattle.csv_spec.specs.Line.{Stand, Step, csv_line, csv_end}
use Rattle.csv_spec.specs.Csv.{still}
use Rattle.csv_run.specs.Steps.{Slices, standing, Stepped}
use Rattle.csv_reading.specs.declared.Reading.{Reading}
use Rattle.csv_reading.specs.Reading.{going_of, unread}
use Rattle.csv_run.specs.Deeds.{Deed, Done}
use Rattle.csv_run.specs.Turns.{in_room, Within, Spoke, Went, Closed, Failed, TurnIs}

-- a run with the same lines stands the same
same-standing : (m : Slices) {run r : Run} → SameLines run r → standing r m ≡ standing run m
same-standing m {run} {r} w =
    ap (λ (x : ℕ). put x r.source r.refused) w.physical
    ∙ ap (λ (x : ℕ). put run.physical x r.refused) w.source
    ∙ ap (λ (x : Bool). put run.physical run.source x) w.refused
  where
    put : ℕ → ℕ → Bool → Stand
    put p s f = record { state = m.state; store = m.store; rows = m.rows; physical = p; source = s; refused = f }

-- g was handed over of b, a still waited, and x is added to it
chain : (g a b c x : List ℕ) → g ++ a ≡ b → c ≡ a ++ x → g ++ c ≡ b ++ x
chain g a b c x p q = ap (λ (l : List ℕ). g ++ l) q ∙ sym (append_assoc g a x) ∙ ap (λ (l : List ℕ). l ++ x) p

-- no row waits where notices were handed over
rows-first : (s : Reading) (left : Left) (m : Slices) → Emptied s.run m.out m.err left → (take left.notices m.err ≡ [] → ⊥)
    → take left.rows m.out ≡ take s.run.out m.out
rows-first s left m f h =
    let sent = take left.rows m.out in
    let none : left.run.out ≡ 0 = f.rows_first (λ (e : left.notices ≡ 0). h (ap (λ (k : ℕ). take k m.err) e)) in
    sym (append-nil sent) ∙ ap (λ (k : ℕ). sent ++ take k m.out) (sym none) ∙ f.rows

spoke : {d : Step} {s r : Reading} {left : Left} {m m' : Slices} → Emptied s.run m.out m.err left
    → Stepped d left.run m r.run m' → Spoke d (take left.rows m.out) (take left.notices m.err) s m r m'
spoke {d} {s} {r} {left} {m} {m'} f w =
    record {
      stand = w.stand;
      out = chain (take left.rows m.out) (take left.run.out m.out) _ _ d.out f.rows w.out.bytes;
      err = chain (take left.notices m.err) (take left.run.err m.err) _ _ d.err f.notices w.err.bytes;
      waited = record { more = take left.run.err m.err; is = sym f.notices };
      rows_first = rows-first s left m f;
    }

on-refused : (b : Bool) → going_of b ≡ goes_on → b ≡ false
on-refused true e = absurd (omega arith)
on-refused false e = refl

-- ---- a turn, from its parts
module _ (s : Reading) (b : List ℕ) (m : Slices) (left : Left) (t : Turn) (b' : List ℕ) (r : Reading) (m' : Slices)
    (emptied : Emptied s.run m.out m.err left) (turned : Turned b s.at s.end b' t) (done : Done t.found t left.run b' m r m')
    (clear : s.run.refused ≡ false) where
  here : unread r b' ≡ between b' t.at t.end
  here = ap (λ (j : ℕ). between b' j r.end) done.from ∙ ap (λ (j : ℕ). between b' t.at j) done.upto

  same : standing left.run m ≡ standing s.run m
  same = same-standing m emptied.lines

  -- where nothing was done the run has no refusal
  still_open : Stepped (still (standing left.run m)) left.run m r.run m' → r.run.refused ≡ false
  still_open w = ap (λ (x : Stand). x.refused) w.stand ∙ emptied.lines.refused ∙ clear

  -- what was handed over before the turn
  abbrev sent_rows : List ℕ
  sent_rows = take left.rows m.out

  abbrev sent_notices : List ℕ
  sent_notices = take left.notices m.err

  abbrev Deeds : List ℕ → Type 0
  Deeds came =
      Went s b m came sent_rows sent_notices r b' m' ⊎ (Closed s b m came sent_rows sent_notices r m' ⊎ Failed s b m came sent_rows sent_notices r b' m')

  abbrev ends : Stand → ℕ → Type 0
  ends x k = Stepped (csv_end x k) left.run m r.run m'

  -- nothing was done, where no line stood whole
  idle : Stepped (still (standing left.run m)) left.run m r.run m' → Spoke (still (standing s.run m)) sent_rows sent_notices s m r m'
  idle w = spoke emptied (subst (λ (x : Stand). Stepped (still x) left.run m r.run m') same w)

  closed : NoLine (unread s b) (between b' t.at t.end) → r.over ≡ ended → ends (standing left.run m) (t.end - t.at)
      → Closed s b m [] sent_rows sent_notices r m'
  closed n o w =
      let inside : t.end ≤ length b' = omega (arith, turned.inside, turned.same) in
      let long : t.end - t.at ≡ length (unread s b) = sym (between-length b' t.at t.end turned.window inside) ∙ ap length n.stays in
      record {
        nothing = refl;
        none = n.none;
        told = spoke emptied (subst (λ (k : ℕ). ends (standing s.run m) k) long (subst (λ (x : Stand). ends x (t.end - t.at)) same w));
        over = o;
      }

  -- the bytes that came are those behind what was unread
  abbrev came_by : Found → List ℕ
  came_by Found.More = drop (length (unread s b)) (between b' t.at t.end)
  came_by Found.Line = []
  came_by Found.Ended = []
  came_by Found.Full = []
  came_by Found.Failed = []

  deed-of : (f : Found) → Told f (length b) (unread s b) (between b' t.from t.at) (between b' t.at t.end)
      → Deed f t left.run b' m r m' → Deeds (came_by f)
  deed-of Found.Line w d =
      let u = unread s b in
      let l = between b' t.from t.at in
      let rest : unread r b' ≡ drop (cut u) u = here ∙ w.rest in
      let first : l ++ unread r b' ≡ take (cut u) u ++ unread r b' = ap (λ (x : List ℕ). x ++ unread r b') w.line in
      let parts : l ++ unread r b' ≡ u = first ∙ ap (λ (x : List ℕ). take (cut u) u ++ x) rest ∙ take-append-drop (cut u) u in
      inl
      (record {
        line = l;
        step = csv_line (standing s.run m) l;
        bytes = append-nil u ∙ sym parts;
        did = inr (ap cut w.line ∙ first-whole u w.whole ∙ ap length (sym w.line), refl);
        told = spoke emptied (subst (λ (x : Stand). Stepped (csv_line x l) left.run m r.run m') same d.1);
        over = d.0;
      })
  deed-of Found.More w d =
      let u = unread s b in
      let v = between b' t.at t.end in
      inl
      (record {
        line = [];
        step = still (standing s.run m);
        bytes = ap (λ (x : List ℕ). x ++ drop (length u) v) (sym w.begins) ∙ take-append-drop (length u) v ∙ sym here;
        did = inl (refl, refl);
        told = idle d.1;
        over = d.0 ∙ ap going_of (sym (still_open d.1));
      })
  deed-of Found.Ended w d = inr (inl (closed w d.0 d.1))
  deed-of Found.Full w d = inr (inl (closed w.0 d.0 d.1))
  deed-of Found.Failed w d = inr (inr (record { nothing = refl; bytes = sym (here ∙ w.stays); told = idle d.1; over = d.0 }))

  -- what waits then fits, and a run that goes on has no refusal
  fits : {d : Step} → length m.out ≡ out_room → length m.err ≡ err_room → Stepped d left.run m r.run m'
      → (r.run.out ≤ out_room) × (r.run.err ≤ err_room)
  fits p q w = (
    omega (arith, adds-within {n = left.run.out} (omega (arith, emptied.outs)) w.out, w.out.same),
    omega (arith, adds-within {n = left.run.err} (omega (arith, emptied.errs)) w.err, w.err.same),
  )

  bounds : length m.out ≡ out_room → length m.err ≡ err_room → (f : Found) → Deed f t left.run b' m r m'
      → ((r.run.out ≤ out_room) × (r.run.err ≤ err_room)) × (r.over ≡ goes_on → r.run.refused ≡ false)
  bounds p q Found.Line d = (fits p q d.1, λ (e : r.over ≡ goes_on). on-refused r.run.refused (sym d.0 ∙ e))
  bounds p q Found.More d = (fits p q d.1, λ (e : r.over ≡ goes_on). still_open d.1)
  bounds p q Found.Ended d = (fits p q d.1, λ (e : r.over ≡ goes_on). absurd (omega (arith, d.0)))
  bounds p q Found.Full d = (fits p q d.1, λ (e : r.over ≡ goes_on). absurd (omega (arith, d.0)))
  bounds p q Found.Failed d = (fits p q d.1, λ (e : r.over ≡ goes_on). absurd (omega (arith, d.0)))

  pub turn_is : length b ≡ in_room → length m.out ≡ out_room → length m.err ≡ err_room → TurnIs s b m r b' m'
  turn_is n p q =
      let w = bounds p q t.found done.deed in
      record {
        came = came_by t.found;
        outs = sent_rows;
        errs = sent_notices;
        within =
            record {
              window = omega (arith, turned.window, done.from, done.upto);
              inside = omega (arith, turned.inside, done.upto);
              outs = w.0.0;
              errs = w.0.1;
              clear = w.1;
            };
        deed = deed-of t.found turned.told done.deed;
      }

-- ---- what waited could not be written
failed-turn : (s : Reading) (b : List ℕ) (m : Slices) (left : Left) → Within s → Emptied s.run m.out m.err left
    → (left.over ≡ goes_on → ⊥) → TurnIs s b m (record { at = s.at; end = s.end; run = left.run; over = left.over }) b m
failed-turn s b m left w f h =
    let n : ended < left.over = over-failed left.over h f.going in
    record {
      came = [];
      outs = take left.rows m.out;
      errs = take left.notices m.err;
      within =
          record {
            window = w.window;
            inside = w.inside;
            outs = omega (arith, f.outs);
            errs = omega (arith, f.errs);
            clear = λ (e : left.over ≡ goes_on). absurd (h e);
          };
      deed = inr (inr (record { nothing = refl; bytes = refl; told = stays; over = n }));
    }
  where
    over-failed : (n : ℕ) → (n ≡ goes_on → ⊥) → (n ≡ ended → ⊥) → ended < n
    over-failed n a c = omega arith

    stays : Spoke (still (standing s.run m)) (take left.rows m.out) (take left.notices m.err) s m
        (record { at = s.at; end = s.end; run = left.run; over = left.over }) m
    stays =
        record {
          stand = same-standing m f.lines;
          out = f.rows ∙ sym (append-nil (take s.run.out m.out));
          err = f.notices ∙ sym (append-nil (take s.run.err m.err));
          waited = record { more = take left.run.err m.err; is = sym f.notices };
          rows_first = rows-first s left m f;
        }

pub stopped-turn : {s : Reading} {b b' : List ℕ} {m : Slices} (left : Left) → Within s → Emptied s.run m.out m.err left
    → (left.over ≡ goes_on → ⊥) → b' ≡ b → TurnIs s b m (record { at = s.at; end = s.end; run = left.run; over = left.over }) b' m
stopped-turn {s} {b} {b'} {m} left w f h e =
    subst (λ (x : List ℕ). TurnIs s b m (record { at = s.at; end = s.end; run = left.run; over = left.over }) x m) (sym e) (failed-turn s b m left w f h)
