-- LAWS. Turns one after another do to what they read what the definition of a try says. Assumes nothing.
use Rattle.std.specs.Prelude.{ℕ, ◌+◌, ◌-◌, ◌≤◌, ◌<◌, ◌^◌, ◌⊎◌, ◌≡◌, refl, List, [], ◌++◌, eqb, length, take, drop}
use Rattle.std.proofs.Common.{zero-le, inl, inr, ⊎_elim, sym, ap, ap₂, ◌∙◌, subst, append-nil, append_assoc, arith, length-append, length-drop}
use Rattle.std.proofs.Common.{take-append-drop, take-take, take-add, drop-drop, length-take-le, eqb-true}
use Rattle.std.proofs.Math.Nat.{sub-zero}
use Rattle.std.proofs.lemmas.Bool.{eqb-false}
use Rattle.floats.specs.Truth.{by_bit, cond-t, cond-f}
use Rattle.checksum.specs.Checksum.{with_bytes, checksum}
use Rattle.checksum.specs.Checksum as Checksum
use Rattle.checksum.specs.Pieces.{pieces}
use Rattle.text_cut.specs.Cut.{cut, between}
use Rattle.text_cut.specs.CutLaws.{first-whole}
use Rattle.text_lines.specs.declared.Found.{Found}
use Rattle.text_lines.specs.declared.Found.TheVariants as Found
use Rattle.text_lines.specs.declared.Turn.{Turn}
use Rattle.text_lines.specs.Turns.{Told, Turned}
use Rattle.text_lines.specs.TurnLaws.{between-length}
use Rattle.csv_status.specs.Status.{goes_on, ended}
use Rattle.night_course.specs.declared.Ticket.{Ticket}
use Rattle.night_course.specs.declared.Course.{Course}
use Rattle.night_course.specs.declared.TryRun.{TryRun}
use Rattle.night_course.specs.Course.{goes}
use Rattle.night_begin.specs.Starts.{StartTold}
use Rattle.night_flush.specs.declared.Reading.{Reading}
use Rattle.night_flush.specs.declared.Tried.{Tried}
use Rattle.night_reading.specs.Reading.{first_reading, over_of, from_of, came_by}
use Rattle.night_flush.specs.Flush.{empty_run, LastIs, kept}
use Rattle.night_spec.specs.Try.{Stand, Step, and_then, ends, night_end, line_room, night_rest, begun, night_try}
use Rattle.night_spec.proofs.TryLaws.{then_assoc, over-rest, rest-whole, rest_end, rest-full}
use Rattle.night_turns.specs.Steps.{Slices, slices, standing, Stepped}
use Rattle.night_turns.specs.StepLaws.{same-stand}
use Rattle.night_turns.specs.Turns.{handed, unread_bytes, so_far, deed_of, Did, Stopped, TurnIs, Turns, none, then, AllTurns, Ran}

-- ---- what was unread, and what a turn found
module _ (s : Reading) (b : List ℕ) (t : Turn) (b' : List ℕ) (window : s.at ≤ s.end) (inside : s.end ≤ kept)
    (turned : Turned b s.at s.end b' t) (long : length b' ≡ kept) where
  abbrev u : List ℕ
  u = unread_bytes s b

  abbrev v : List ℕ
  v = between b' t.at t.end

  long-u : length u ≡ s.end - s.at
  long-u = between-length b s.at s.end window (omega (arith, turned.same))

  long-v : length v ≡ t.end - t.at
  long-v = between-length b' t.at t.end turned.window (omega (arith, turned.inside, turned.same))

  came-none : length v ≤ length u → came_by s t b' ≡ []
  came-none h =
      let from = t.at + (s.end - s.at) in
      let z : t.end - from ≡ 0 = omega (arith, long-u, long-v, turned.window) in ap (λ (k : ℕ). take k (drop from b')) z

  came-grown : length u < length v → take (length u) v ≡ u → u ++ came_by s t b' ≡ v
  came-grown h e =
      let k = s.end - s.at in
      let n = t.end - t.at in
      let l = drop t.at b' in
      let short : k ≤ n = omega (arith, long-u, long-v) in
      let more : t.end - (t.at + k) ≡ n - k = omega (arith, turned.window) in
      let both : k + (n - k) ≡ n = omega arith in
      let first : u ≡ take k l = sym e ∙ take-take (length u) n l (omega (arith, long-u)) ∙ ap (λ (j : ℕ). take j l) long-u in
      let came : came_by s t b' ≡ take (n - k) (drop k l) =
      ap (λ (j : ℕ). take j (drop (t.at + k) b')) more ∙ ap (take (n - k)) (sym (drop-drop k t.at b')) in
      ap₂ (λ (x y : List ℕ). x ++ y) first came ∙ sym (take-add k (n - k) l) ∙ ap (λ (j : ℕ). take j l) both

  module _ (m : Slices) (left : TryRun) where
    abbrev q : Ticket
    q = left.ticket

    abbrev S : Stand
    S = standing left m

    -- the definition does what the turn did, and then the rest: what is unread then, and what comes later
    moved : (later : List ℕ) (f : Found) → Told f (length b) u (between b' t.from t.at) v → over_of f ≡ goes_on
        → let d = deed_of f t left b' m in
        night_rest q S (u ++ (came_by s t b' ++ later)) ≡ and_then d (night_rest q d.stand (between b' (from_of f t) t.end ++ later))
    moved later Found.Line w o =
        let l = between b' t.from t.at in
        let short : length v ≤ length u = omega (arith, ap length w.rest, length-drop (cut u) u) in
        let parts : u ≡ l ++ v = sym (ap₂ (λ (x y : List ℕ). x ++ y) w.line w.rest ∙ take-append-drop (cut u) u) in
        let whole : cut l ≡ length l = ap cut w.line ∙ first-whole u w.whole ∙ ap length (sym w.line) in
        let fits : length l ≤ line_room = omega (arith, ap length w.line, length-take-le (cut u) u w.whole, w.whole, long-u) in
        let same : u ++ (came_by s t b' ++ later) ≡ l ++ (v ++ later) =
        ap (λ (x : List ℕ). u ++ (x ++ later)) (came-none short) ∙ ap (λ (x : List ℕ). x ++ later) parts ∙ append_assoc l v later in
        by_bit (eqb left.course.stands goes)
        (λ a. subst goal (sym (cond-t _ _ a)) (ap (night_rest q S) same ∙ rest-whole q S l (v ++ later) (eqb-true _ _ a) whole fits))
        (λ a. subst goal (sym (cond-f _ _ a))
        (over-rest q S (u ++ (came_by s t b' ++ later)) 0 (eqb-false _ _ a) ∙ sym (over-rest q S (v ++ later) 0 (eqb-false _ _ a))))
      where
        goal : Step → Type 0
        goal d = night_rest q S (u ++ (came_by s t b' ++ later)) ≡ and_then d (night_rest q d.stand (v ++ later))
    moved later Found.More w o =
        ap (night_rest q S) (sym (append_assoc u (came_by s t b') later) ∙ ap (λ (x : List ℕ). x ++ later) (came-grown w.longer w.begins))
    moved later Found.Ended w o = absurd (omega arith)
    moved later Found.Full w o =
        let n : length u ≡ t.end - t.at = ap length (sym w.0.stays) ∙ long-v in
        subst goal n (rest-full q S u (came_by s t b' ++ later) (between b' t.end t.end ++ later) w.0.none (w.1 ∙ sym turned.same ∙ long))
      where
        goal : ℕ → Type 0
        goal n =
            night_rest q S (u ++ (came_by s t b' ++ later))
            ≡ and_then (ends q S n) (night_rest q (ends q S n).stand (between b' t.end t.end ++ later))
    moved later Found.Failed w o = absurd (omega arith)

    -- and where the input has ended, its end
    closed : (f : Found) → Told f (length b) u (between b' t.from t.at) v → over_of f ≡ ended
        → night_rest q S (u ++ (came_by s t b' ++ [])) ≡ deed_of f t left b' m
    closed Found.Line w o = absurd (omega arith)
    closed Found.More w o = absurd (omega arith)
    closed Found.Ended w o =
        let n : length u ≡ t.end - t.at = ap length (sym w.stays) ∙ long-v in
        ap (λ (x : List ℕ). night_rest q S (u ++ (x ++ []))) (came-none (omega (arith, ap length w.stays)))
        ∙ ap (night_rest q S) (append-nil u)
        ∙ rest_end q S u w.none (omega (arith, long-u))
        ∙ ap (night_end q S) n
    closed Found.Full w o = absurd (omega arith)
    closed Found.Failed w o = absurd (omega arith)

-- ---- what waits: handed over, or waiting still
waits : (was now : ℕ) (l : List ℕ) → (now ≡ was) ⊎ (now ≡ 0) → handed was now l ++ take now l ≡ take was l
waits was now l =
    ⊎_elim
    (λ (e : now ≡ was). let z : was - now ≡ 0 = omega arith in ap (λ (n : ℕ). take n l ++ take now l) z ∙ ap (λ (n : ℕ). take n l) e)
    (λ (e : now ≡ 0).
    ap (λ (n : ℕ). take (was - n) l ++ take n l) e ∙ ap (λ (n : ℕ). take n l ++ []) (sub-zero was) ∙ append-nil (take was l))

-- behind those that were handed over before
sent : (before : List ℕ) (was now : ℕ) (l : List ℕ) → (now ≡ was) ⊎ (now ≡ 0) → before ++ take was l ≡ (before ++ handed was now l) ++ take now l
sent before was now l h =
    sym (append_assoc before (handed was now l) (take now l) ∙ ap (λ (x : List ℕ). before ++ x) (waits was now l h))

same_step : {a c : Stand} {o p l k : List ℕ} → a ≡ c → o ≡ p → l ≡ k
    → ◌≡◌ {A = Step} (record { stand = a; out = o; listed = l }) (record { stand = c; out = p; listed = k })
same_step {a} {c} {o} {p} {l} {k} x y z =
    ap (λ (s : Stand). put s o l) x ∙ ap (λ (i : List ℕ). put c i l) y ∙ ap (λ (i : List ℕ). put c p i) z
  where
    put : Stand → List ℕ → List ℕ → Step
    put s o l = record { stand = s; out = o; listed = l }

module _ (outs lists : List ℕ) (m : Slices) where
  module _ (run left : TryRun) (all : (left ≡ run) ⊎ (left ≡ empty_run run)) where
    same-ticket : left.ticket ≡ run.ticket
    same-ticket = ⊎_elim (λ e. ap (λ (x : TryRun). x.ticket) e) (λ e. ap (λ (x : TryRun). x.ticket) e) all

    same-standing : standing run m ≡ standing left m
    same-standing =
        let c : left.course ≡ run.course = ⊎_elim (λ e. ap (λ (x : TryRun). x.course) e) (λ e. ap (λ (x : TryRun). x.course) e) all in
        same-stand refl refl refl refl (sym c)

    -- what was handed over is counted with what was handed over before
    emptied-far : so_far outs lists run m
        ≡ so_far (outs ++ handed run.out left.out m.out) (lists ++ handed run.listed left.listed m.listed) left m
    emptied-far = same_step same-standing (sent outs run.out left.out m.out o) (sent lists run.listed left.listed m.listed l)
      where
        o : (left.out ≡ run.out) ⊎ (left.out ≡ 0)
        o = ⊎_elim (λ e. inl (ap (λ (x : TryRun). x.out) e)) (λ e. inr (ap (λ (x : TryRun). x.out) e)) all

        l : (left.listed ≡ run.listed) ⊎ (left.listed ≡ 0)
        l = ⊎_elim (λ e. inl (ap (λ (x : TryRun). x.listed) e)) (λ e. inr (ap (λ (x : TryRun). x.listed) e)) all

  -- a step adds what it says
  stepped_far : {d : Step} {run then : TryRun} {m' : Slices} → Stepped d run m then m' → and_then (so_far outs lists run m) d ≡ so_far outs lists then m'
  stepped_far {d} {run} {then} {m'} w =
      same_step (sym w.stand)
      (append_assoc outs (take run.out m.out) d.out ∙ ap (λ (i : List ℕ). outs ++ i) (sym w.out.bytes))
      (append_assoc lists (take run.listed m.listed) d.listed ∙ ap (λ (i : List ℕ). lists ++ i) (sym w.listed.bytes))

-- ---- turn by turn: whatever comes behind `got`, the definition says what was said so far, and then what it says to the unread bytes
record Far (q : Ticket) (S₀ : Stand) (got outs lists : List ℕ) (s : Reading) (b : List ℕ) (m : Slices) : Type 0 where
  pub ticket : s.run.ticket ≡ q
  pub window : s.at ≤ s.end
  pub inside : s.end ≤ kept
  pub sum : s.sum ≡ with_bytes 0 got
  pub count : length got < 2 ^ 64 → s.length ≡ length got
  pub is : (later : List ℕ)
      → night_rest q S₀ (got ++ later) ≡ and_then (so_far outs lists s.run m) (night_rest q (standing s.run m) (unread_bytes s b ++ later))

-- to all that was read it says what was said, and no more
record Over (q : Ticket) (S₀ : Stand) (got outs lists : List ℕ) (s : Reading) (m : Slices) : Type 0 where
  pub sum : s.sum ≡ with_bytes 0 got
  pub count : length got < 2 ^ 64 → s.length ≡ length got
  pub is : night_rest q S₀ got ≡ so_far outs lists s.run m

module _ (q : Ticket) (S₀ : Stand) (got outs lists : List ℕ) (s : Reading) (b : List ℕ) (m : Slices) (r : Reading) (b' : List ℕ) (m' : Slices)
    (far : Far q S₀ got outs lists s b m) (one : TurnIs s b m r b' m') where
  abbrev left : TryRun
  left = one.next.run

  abbrev outs' : List ℕ
  outs' = outs ++ handed s.run.out left.out m.out

  abbrev lists' : List ℕ
  lists' = lists ++ handed s.run.listed left.listed m.listed

  -- what was said before, with what was handed over since
  before : (later : List ℕ)
      → night_rest left.ticket S₀ (got ++ later) ≡ and_then (so_far outs' lists' left m) (night_rest left.ticket (standing left m) (unread_bytes s b ++ later))
  before later =
      let all = one.ready.emptied.all in
      let k : left.ticket ≡ q = same-ticket outs lists m s.run left all ∙ far.ticket in
      let rest : Stand → Step = λ (x : Stand). night_rest left.ticket x (unread_bytes s b ++ later) in
      subst goal (sym k) (far.is later)
      ∙ ap (λ (x : Step). and_then x (rest (standing s.run m))) (emptied-far outs lists m s.run left all)
      ∙ ap (λ (x : Stand). and_then (so_far outs' lists' left m) (rest x)) (same-standing outs lists m s.run left all)
    where
      goal : Ticket → Type 0
      goal k = night_rest k S₀ (got ++ later) ≡ and_then (so_far outs lists s.run m) (night_rest k (standing s.run m) (unread_bytes s b ++ later))

  module _ (w : Did one.next s b' m one.came r m') where
    abbrev t : Turn
    t = one.next.turn

    turned : Turned b s.at s.end b' t
    turned = one.ready.turned w.going

    -- the step that was done, behind all that was said before
    abbrev did : Step
    did = deed_of t.found t left b' m

    grown : and_then (so_far outs' lists' left m) did ≡ so_far outs' lists' r.run m'
    grown = stepped_far outs' lists' m w.deed.step ∙ ap (λ (x : TryRun). so_far outs' lists' x m') (sym w.reading.try)

    said : (later : List ℕ) → night_rest left.ticket S₀ ((got ++ one.came) ++ later)
        ≡ and_then (so_far outs' lists' left m) (night_rest left.ticket (standing left m) (unread_bytes s b ++ (came_by s t b' ++ later)))
    said later =
        ap (night_rest left.ticket S₀) (append_assoc got one.came later)
        ∙ ap (λ (x : List ℕ). night_rest left.ticket S₀ (got ++ (x ++ later))) w.bytes
        ∙ before (came_by s t b' ++ later)

    same-q : left.ticket ≡ q
    same-q = same-ticket outs lists m s.run left one.ready.emptied.all ∙ far.ticket

    further : r.over ≡ goes_on → (later : List ℕ)
        → night_rest q S₀ ((got ++ one.came) ++ later)
        ≡ and_then (so_far outs' lists' r.run m') (night_rest q (standing r.run m') (unread_bytes r b' ++ later))
    further o later =
        let rest : Stand → List ℕ → Step = λ (x : Stand) (y : List ℕ). night_rest left.ticket x (y ++ later) in
        let y = between b' (from_of t.found t) t.end in
        let far-y : y ≡ unread_bytes r b' =
        ap (λ (j : ℕ). between b' j t.end) (sym w.reading.from) ∙ ap (λ (j : ℕ). between b' r.at j) (sym w.reading.upto) in
        let stand : did.stand ≡ standing r.run m' = sym w.deed.step.stand ∙ ap (λ (x : TryRun). standing x m') (sym w.reading.try) in
        subst goal same-q
        (said later
        ∙ ap (λ (x : Step). and_then (so_far outs' lists' left m) x)
        (moved s b t b' far.window far.inside turned w.long m left later t.found turned.told (sym w.reading.over ∙ o))
        ∙ sym (then_assoc (so_far outs' lists' left m) did (rest did.stand y))
        ∙ ap (λ (x : Step). and_then x (rest did.stand y)) grown
        ∙ ap₂ (λ (x : Stand) (z : List ℕ). and_then (so_far outs' lists' r.run m') (rest x z)) stand far-y)
      where
        goal : Ticket → Type 0
        goal k =
            night_rest k S₀ ((got ++ one.came) ++ later)
            ≡ and_then (so_far outs' lists' r.run m') (night_rest k (standing r.run m') (unread_bytes r b' ++ later))

    ends-all : r.over ≡ ended → night_rest q S₀ (got ++ one.came) ≡ so_far outs' lists' r.run m'
    ends-all o =
        subst goal same-q
        (ap (night_rest left.ticket S₀) (sym (append-nil (got ++ one.came)))
        ∙ said []
        ∙ ap (λ (x : Step). and_then (so_far outs' lists' left m) x)
        (closed s b t b' far.window far.inside turned w.long m left t.found turned.told (sym w.reading.over ∙ o))
        ∙ grown)
      where
        goal : Ticket → Type 0
        goal k = night_rest k S₀ (got ++ one.came) ≡ so_far outs' lists' r.run m'

    -- the bytes are summed and counted
    summed : r.sum ≡ with_bytes 0 (got ++ one.came)
    summed =
        w.reading.sum.sum
        ∙ ap₂ with_bytes far.sum (sym w.bytes)
        ∙ sym (pieces 0 got one.came)

    counted : length (got ++ one.came) < 2 ^ 64 → r.length ≡ length (got ++ one.came)
    counted h =
        let n = length-append got one.came in
        let c = far.count (omega (arith, n)) in
        let came : length one.came ≡ length (came_by s t b') = ap length w.bytes in
        omega (arith, n, c, came, w.reading.sum.count (omega (arith, n, c, came)))

  turn-far : r.over ≡ goes_on → Far q S₀ (got ++ one.came) outs' lists' r b' m'
  turn-far o = ⊎_elim on stopped one.deed
    where
      on : Did one.next s b' m one.came r m' → Far q S₀ (got ++ one.came) outs' lists' r b' m'
      on w =
          record {
            ticket = ap (λ (x : TryRun). x.ticket) w.reading.try ∙ w.deed.step.ticket ∙ same-q w;
            window = one.within.window;
            inside = one.within.inside;
            sum = summed w;
            count = counted w;
            is = further w o;
          }

      stopped : Stopped one.next s m one.came r m' → Far q S₀ (got ++ one.came) outs' lists' r b' m'
      stopped w = absurd (w.over (ap (λ (x : Reading). x.over) (sym w.reading) ∙ o))

  turn-over : r.over ≡ ended → Over q S₀ (got ++ one.came) outs' lists' r m'
  turn-over o = ⊎_elim on stopped one.deed
    where
      on : Did one.next s b' m one.came r m' → Over q S₀ (got ++ one.came) outs' lists' r m'
      on w = record { sum = summed w; count = counted w; is = ends-all w o }

      stopped : Stopped one.next s m one.came r m' → Over q S₀ (got ++ one.came) outs' lists' r m'
      stopped w = absurd (one.ready.emptied.going (ap (λ (x : Reading). x.over) (sym w.reading) ∙ o))

-- ---- from the start to the end
first-far : (q : Ticket) (c : Course) (b : List ℕ) (m : Slices) → Far q (standing (first_reading q c).run m) [] [] [] (first_reading q c) b m
unfolding with_bytes
first-far q c b m = record { ticket = refl; window = zero-le; inside = zero-le; sum = refl; count = λ h. refl; is = λ (later : List ℕ). refl }

module _ (q : Ticket) (c : Course) (b₀ : List ℕ) (m₀ : Slices) where
  abbrev begins : Stand
  begins = standing (first_reading q c).run m₀

  turns-far : {s : Reading} {b : List ℕ} {m : Slices} {got outs lists : List ℕ} → Turns (first_reading q c) b₀ m₀ s b m got outs lists → s.over ≡ goes_on
      → Far q begins got outs lists s b m
  turns-far none o = first-far q c b₀ m₀
  turns-far (then w e one) o = turn-far _ _ _ _ _ _ _ _ _ _ _ (turns-far w e) one o

  turns-over : {s : Reading} {b : List ℕ} {m : Slices} {got outs lists : List ℕ} → Turns (first_reading q c) b₀ m₀ s b m got outs lists
      → s.over ≡ ended → Over q begins got outs lists s m
  turns-over none o = absurd (omega arith)
  turns-over (then w e one) o = turn-over _ _ _ _ _ _ _ _ _ _ _ (turns-far w e) one o

-- a try was begun
begun-is : {t : Ticket} {st w st' w' : List ℕ} {tolerance : ℕ} {c : Course} (store rows o l : List ℕ) → StartTold t st w tolerance st' w' c
    → begun t st store rows w tolerance ≡ standing (first_reading t c).run (slices st' store rows w' o l)
unfolding begun
begun-is store rows o l g = same-stand (sym g.state) refl refl (sym g.tally) (sym g.course)

pub try-ran : {t : Ticket} {tolerance : ℕ} {b b' : List ℕ} {m m' : Slices} {st w : List ℕ} {c : Course} {s₀ s : Reading} {r : Tried}
    → StartTold t m.state m.tally tolerance st w c → s₀ ≡ first_reading t c
    → AllTurns s₀ b (slices st m.store m.rows w m.out m.listed) s b' m' → LastIs s r → Ran t tolerance b m r b' m'
unfolding night_try checksum
try-ran {t} {tolerance} {b} {b'} {m} {m'} {st} {w} {c} {s₀} {s} {r} g e a last = ran (subst (λ (x : Reading). AllTurns x b m₀ s b' m') e a)
  where
    m₀ : Slices
    m₀ = slices st m.store m.rows w m.out m.listed

    ran : AllTurns (first_reading t c) b m₀ s b' m' → Ran t tolerance b m r b' m'
    ran a =
        record {
          course = c;
          state = st;
          tally = w;
          began = g;
          reading = s;
          turned = a;
          last = last;
          all =
              λ (o : s.over ≡ ended).
              ap (λ (x : Stand). night_rest t x a.got) (begun-is m.store m.rows m.out m.listed g) ∙ (turns-over t c b m₀ a.turns o).is;
          sum =
              λ (o : s.over ≡ ended) (h : length a.got < 2 ^ 64).
              let k = turns-over t c b m₀ a.turns o in last.sum ∙ ap₂ Checksum.ended k.sum (k.count h);
        }
