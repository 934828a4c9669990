-- LAWS. Turns one after another hand over what the definition says to what they read. Assumes nothing.
use Rattle.std.specs.Prelude.{ℕ, ◌<◌, ◌⊎◌, ◌≡◌, refl, Bool, true, false, List, [], ◌++◌, length, take}
use Rattle.std.proofs.Common.{zero-le, ⊎_elim, sym, ◌∙◌, subst, append-nil, append_assoc, arith}
use Rattle.std.proofs.Math.Path.{ap}
use Rattle.text_cut.specs.Cut.{cut}
use Rattle.csv_status.specs.Status.{goes_on, ended}
use Rattle.csv_spec.specs.Line.{Stand, Step, csv_line}
use Rattle.csv_spec.specs.Csv.{and_then, still, csv_rest, begun, Whole, csv_spec, Begins}
use Rattle.csv_spec.proofs.CsvLaws.{then_assoc, then-still, rest-whole, rest_end, rest-refused}
use Rattle.csv_run.specs.Steps.{Slices, standing}
use Rattle.csv_reading.specs.declared.Reading.{Reading}
use Rattle.csv_reading.specs.Reading.{first_reading, going_of, unread}
use Rattle.csv_run.specs.Turns.{Within, Spoke, Went, Closed, Failed, TurnIs}
use Rattle.csv_ending.specs.declared.Ending.{Ending}
use Rattle.csv_ending.specs.Ending.{LastIs}
use Rattle.csv_run.specs.Run.{Turns, none, then, AllTurns, Ran}

-- what stands, and what was said so far: handed over, or waiting
abbrev put : Stand → List ℕ → List ℕ → Step
put s o e = record { stand = s; out = o; err = e }

abbrev pub so_far : List ℕ → List ℕ → Reading → Slices → Step
so_far outs errs s m = put (standing s.run m) (outs ++ take s.run.out m.out) (errs ++ take s.run.err m.err)

-- whatever comes behind `got`, the definition says what was said so far and then what it says to the unread bytes
pub record Far (got outs errs : List ℕ) (s : Reading) (b : List ℕ) (m : Slices) : Type 0 where
  pub clear : s.run.refused ≡ false
  pub is : (later : List ℕ) → csv_rest begun (got ++ later) ≡ and_then (so_far outs errs s m) (csv_rest (standing s.run m) (unread s b ++ later))

-- the definition says to `got` what was handed over and what waits, and no more
abbrev All : List ℕ → List ℕ → List ℕ → Reading → Slices → Type 0
All got outs errs r m =
    csv_spec got ≡ record { out = outs ++ take r.run.out m.out; err = errs ++ take r.run.err m.err; refused = r.run.refused }

same-put : {a b : Stand} {o p e f : List ℕ} → a ≡ b → o ≡ p → e ≡ f → put a o e ≡ put b p f
same-put {a} {b} {o} {p} {e} {f} x y z = ap (λ (s : Stand). put s o e) x ∙ ap (λ (l : List ℕ). put b l e) y ∙ ap (λ (l : List ℕ). put b p l) z

regroup : (g w x h v : List ℕ) → h ++ v ≡ w ++ x → (g ++ w) ++ x ≡ (g ++ h) ++ v
regroup g w x h v e = append_assoc g w x ∙ ap (λ (l : List ℕ). g ++ l) (sym e) ∙ sym (append_assoc g h v)

module _ (got so told : List ℕ) (s : Reading) (b : List ℕ) (m : Slices) (r : Reading) (b' : List ℕ) (m' : Slices) (far : Far got so told s b m) where
  -- what was said so far, and then the step
  grown : {d : Step} {outs errs : List ℕ} → Spoke d outs errs s m r m' → and_then (so_far so told s m) d ≡ so_far (so ++ outs) (told ++ errs) r m'
  grown {d} {outs} {errs} w = same-put (sym w.stand) (regroup so _ d.out outs _ w.out) (regroup told _ d.err errs _ w.err)

  module _ (came outs errs : List ℕ) where
    -- the line that was handed on, or none, is the first of what was unread
    handed : (w : Went s b m came outs errs r b' m') (later : List ℕ)
        → csv_rest (standing s.run m) (w.line ++ later) ≡ and_then w.step (csv_rest w.step.stand later)
    handed w later = ⊎_elim none_of_it one w.did
      where
        goal : List ℕ → Step → Type 0
        goal l d = csv_rest (standing s.run m) (l ++ later) ≡ and_then d (csv_rest d.stand later)

        none_of_it : (w.line ≡ []) × (w.step ≡ still (standing s.run m)) → goal w.line w.step
        none_of_it e = rw (e.0, e.1) refl

        one : (cut w.line ≡ length w.line) × (w.step ≡ csv_line (standing s.run m) w.line) → goal w.line w.step
        one e = rw e.1 (rest-whole (standing s.run m) w.line later far.clear e.0)

    further : (w : Went s b m came outs errs r b' m') (later : List ℕ)
        → csv_rest begun ((got ++ came) ++ later)
        ≡ and_then (so_far (so ++ outs) (told ++ errs) r m') (csv_rest (standing r.run m') (unread r b' ++ later))
    further w later =
        let S = standing s.run m in
        let d = w.step in
        let said = so_far so told s m in
        let v = unread r b' ++ later in
        let moved : unread s b ++ (came ++ later) ≡ w.line ++ v =
        sym (append_assoc (unread s b) came later) ∙ ap (λ (l : List ℕ). l ++ later) w.bytes ∙ append_assoc w.line (unread r b') later in
        ap (csv_rest begun) (append_assoc got came later)
        ∙ far.is (came ++ later)
        ∙ ap (λ (l : List ℕ). and_then said (csv_rest S l)) moved
        ∙ ap (λ (x : Step). and_then said x) (handed w v)
        ∙ sym (then_assoc said d (csv_rest d.stand v))
        ∙ ap (λ (x : Step). and_then x (csv_rest d.stand v)) (grown w.told)
        ∙ ap (λ (x : Stand). and_then (so_far (so ++ outs) (told ++ errs) r m') (csv_rest x v)) (sym w.told.stand)

    -- a step that is all that the definition says
    all_of : csv_rest begun (got ++ came) ≡ so_far (so ++ outs) (told ++ errs) r m' → All (got ++ came) (so ++ outs) (told ++ errs) r m'
    unfolding csv_spec
    all_of e = ap (λ (d : Step). whole d) e
      where
        whole : Step → Whole
        whole d = record { out = d.out; err = d.err; refused = d.stand.refused }

    refused_all : Went s b m came outs errs r b' m' → r.run.refused ≡ true → All (got ++ came) (so ++ outs) (told ++ errs) r m'
    refused_all w e =
        let said = so_far (so ++ outs) (told ++ errs) r m' in
        all_of
        (ap (csv_rest begun) (sym (append-nil (got ++ came)))
        ∙ further w []
        ∙ ap (λ (x : Step). and_then said x) (rest-refused (standing r.run m') (unread r b' ++ []) e)
        ∙ then-still said)

    closed_all : Closed s b m came outs errs r m' → All (got ++ came) (so ++ outs) (told ++ errs) r m'
    closed_all w =
        let S = standing s.run m in
        let said = so_far so told s m in
        all_of
        (ap (λ (l : List ℕ). csv_rest begun (got ++ l)) w.nothing
        ∙ far.is []
        ∙ ap (λ (l : List ℕ). and_then said (csv_rest S l)) (append-nil (unread s b))
        ∙ ap (λ (x : Step). and_then said x) (rest_end S (unread s b) far.clear w.none)
        ∙ grown w.told)

    -- nothing was done, and what waits was handed over or waits
    stayed : Failed s b m came outs errs r b' m' → Far (got ++ came) (so ++ outs) (told ++ errs) r b' m'
    stayed w =
        let S = standing s.run m in
        record {
          clear = ap (λ (x : Stand). x.refused) w.told.stand ∙ far.clear;
          is =
              λ (later : List ℕ). ap (λ (l : List ℕ). csv_rest begun ((got ++ l) ++ later)) w.nothing
              ∙ ap (λ (l : List ℕ). csv_rest begun (l ++ later)) (append-nil got)
              ∙ far.is later
              ∙ ap (λ (x : Step). and_then x (csv_rest S (unread s b ++ later))) (sym (then-still (so_far so told s m)) ∙ grown w.told)
              ∙ ap (λ (x : Stand). and_then (so_far (so ++ outs) (told ++ errs) r m') (csv_rest x (unread s b ++ later))) (sym w.told.stand)
              ∙ ap (λ (l : List ℕ). and_then (so_far (so ++ outs) (told ++ errs) r m') (csv_rest (standing r.run m') (l ++ later))) w.bytes;
        }

  -- ---- one turn more
  turn-far : (t : TurnIs s b m r b' m') → (r.over ≡ ended → ⊥) → Far (got ++ t.came) (so ++ t.outs) (told ++ t.errs) r b' m'
  turn-far t e = ⊎_elim on (⊎_elim shut (stayed t.came t.outs t.errs)) t.deed
    where
      open_run : (x : Bool) → (going_of x ≡ ended → ⊥) → x ≡ false
      open_run true z = absurd (z refl)
      open_run false z = refl

      on : Went s b m t.came t.outs t.errs r b' m' → Far (got ++ t.came) (so ++ t.outs) (told ++ t.errs) r b' m'
      on w =
          record {
            clear = open_run r.run.refused (λ (z : going_of r.run.refused ≡ ended). e (w.over ∙ z));
            is = further t.came t.outs t.errs w;
          }

      shut : Closed s b m t.came t.outs t.errs r m' → Far (got ++ t.came) (so ++ t.outs) (told ++ t.errs) r b' m'
      shut w = absurd (e w.over)

  turn-all : (t : TurnIs s b m r b' m') → r.over ≡ ended → All (got ++ t.came) (so ++ t.outs) (told ++ t.errs) r m'
  turn-all t e = ⊎_elim on (⊎_elim (closed_all t.came t.outs t.errs) failed) t.deed
    where
      refusal : (x : Bool) → going_of x ≡ ended → x ≡ true
      refusal true z = refl
      refusal false z = absurd (omega arith)

      on : Went s b m t.came t.outs t.errs r b' m' → All (got ++ t.came) (so ++ t.outs) (told ++ t.errs) r m'
      on w = refused_all t.came t.outs t.errs w (refusal r.run.refused (sym w.over ∙ e))

      failed : Failed s b m t.came t.outs t.errs r b' m' → All (got ++ t.came) (so ++ t.outs) (told ++ t.errs) r m'
      failed w = absurd (omega (arith, w.over))

-- ---- before the first line
begins : (m : Slices) → m.state ≡ begun.state → m.store ≡ begun.store → m.rows ≡ begun.rows → standing first_reading.run m ≡ begun
unfolding begun
begins m p q r =
    ap (λ (x : List ℕ). at x m.store m.rows) p
    ∙ ap (λ (x : List ℕ). at begun.state x m.rows) q
    ∙ ap (λ (x : List ℕ). at begun.state begun.store x) r
  where
    at : List ℕ → List ℕ → List ℕ → Stand
    at st store rows = record { state = st; store = store; rows = rows; physical = 1; source = 0; refused = false }

-- ---- all turns
first-far : (b : List ℕ) (m : Slices) → standing first_reading.run m ≡ begun → Far [] [] [] first_reading b m
first-far b m e = record { clear = refl; is = λ (later : List ℕ). ap (λ (x : Stand). csv_rest x later) (sym e) }

goes-not-ended : {n : ℕ} → n ≡ goes_on → n ≡ ended → ⊥
goes-not-ended e f = omega arith

turns-far : {s : Reading} {b : List ℕ} {m : Slices} {got outs errs : List ℕ} → Turns s b m got outs errs → (s.over ≡ ended → ⊥)
    → Far got outs errs s b m
turns-far (none {b = b} {m = m} e) o = first-far b m e
turns-far (then w e t) o = turn-far _ _ _ _ _ _ _ _ _ (turns-far w (goes-not-ended e)) t o

-- turns that came to the end: what was handed over and what waits is what the definition says to what was read
pub turns-all : {s : Reading} {b : List ℕ} {m : Slices} {got outs errs : List ℕ} → Turns s b m got outs errs → s.over ≡ ended
    → csv_spec got ≡ record { out = outs ++ take s.run.out m.out; err = errs ++ take s.run.err m.err; refused = s.run.refused }
turns-all (none e) o = absurd (omega arith)
turns-all (then w e t) o = turn-all _ _ _ _ _ _ _ _ _ (turns-far w (goes-not-ended e)) t o

-- turns that did not: what was handed over is the first of what the definition says, whatever comes behind what was read
pub turns-part : {s : Reading} {b : List ℕ} {m : Slices} {got outs errs : List ℕ} → Turns s b m got outs errs → (s.over ≡ ended → ⊥)
    → (later : List ℕ) → Begins outs (csv_spec (got ++ later)).out × Begins errs (csv_spec (got ++ later)).err
unfolding csv_spec
turns-part {s} {b} {m} {got} {outs} {errs} w o later =
    let e = (turns-far w o).is later in
    let d = csv_rest (standing s.run m) (unread s b ++ later) in (
      record {
        more = take s.run.out m.out ++ d.out;
        is = ap (λ (x : Step). x.out) e ∙ append_assoc outs (take s.run.out m.out) d.out;
      },
      record {
        more = take s.run.err m.err ++ d.err;
        is = ap (λ (x : Step). x.err) e ∙ append_assoc errs (take s.run.err m.err) d.err;
      },
    )

-- ---- the loop's invariant
pub record Stands (s : Reading) (turns : ℕ) (b : List ℕ) (m : Slices) : Type 0 where
  pub all : AllTurns s b m
  pub going : 0 < turns → s.over ≡ goes_on

pub first-stands : (s : Reading) (turns : ℕ) (b : List ℕ) (m : Slices) → s ≡ first_reading
    → (m.state ≡ begun.state) × ((m.store ≡ begun.store) × (m.rows ≡ begun.rows)) → Stands s turns b m
first-stands s turns b m e p = subst (λ (x : Reading). Stands x turns b m) (sym e) (record { all = all; going = λ (h : 0 < turns). refl })
  where
    within : Within first_reading
    within = record { window = zero-le; inside = zero-le; outs = zero-le; errs = zero-le; clear = λ (h : first_reading.over ≡ goes_on). refl }

    all : AllTurns first_reading b m
    all = record { got = []; outs = []; errs = []; turns = none (begins m p.0 p.1.0 p.1.1); within = within }

pub stands_on_lem : (s : Reading) (turns : ℕ) (b : List ℕ) (m : Slices) (r : Reading) (left : ℕ) (b' : List ℕ) (m' : Slices) → Stands s turns b m
    → 0 < turns → TurnIs s b m r b' m' → (r.over ≡ goes_on) ⊎ (left ≡ 0) → Stands r left b' m'
stands_on_lem s turns b m r left b' m' w h t o =
    record {
      all =
          record {
            got = w.all.got ++ t.came;
            outs = w.all.outs ++ t.outs;
            errs = w.all.errs ++ t.errs;
            turns = then w.all.turns (w.going h) t;
            within = t.within;
          };
      going = λ (l : 0 < left). ⊎_elim (λ (e : r.over ≡ goes_on). e) (λ (e : left ≡ 0). absurd (omega arith)) o;
    }

-- ---- the end
pub run_ends : (s : Reading) (b : List ℕ) (m : Slices) (r : Ending) → AllTurns s b m → LastIs s r → Ran r m.out m.err
run_ends s b m r w l =
    record {
      reading = s;
      buffer = b;
      memory = m;
      turned = w;
      last = l;
      rows = refl;
      notices = refl;
      all = λ (e : s.over ≡ ended). turns-all w.turns e;
      part = turns-part w.turns;
    }
