-- LAWS. 10.6 of one group after another: rows whose words are none, G1 or lone, led by a G1. Assumes nothing.
use Rattle.std.specs.Prelude.{ℕ, zero, suc, ◌+◌, ◌<◌, ◌≤◌, ◌≡◌, refl, true, false, List, ◌∷◌, ◌++◌, ◌⊎◌, eqb}
use Rattle.std.proofs.Common.{sym, ◌∙◌, ap, ⊎_elim, arith, eq-or-lt_of_le, le_of_suc-le-suc, eqb-true}
use Rattle.std.proofs.lemmas.Bool.{false≢true, eqb-false}
use Rattle.floats.specs.Truth.{by_bit, and_right}
use Rattle.floats.specs.Lists.{flatten}
use Rattle.motion.specs.Motion.{g_one, is_curve, kind_of}
use Rattle.row_cells.specs.Row.{motion_of, mark_of}
use Rattle.demand_calls.specs.Every.{Every, nil, more}
use Rattle.demand_calls.specs.PlaceLaws.{Long}
use Rattle.still_curved.specs.Curved.{row_at, motion_behind, shows, still_curved}
use Rattle.still_laws.specs.Statements.{MarkedCurve, LoneWord, BehindLone, OnlyBehindLone}
use Rattle.still_laws.specs.Straight.{after_none, after-own, behind-next}
use Rattle.still_laws.specs.Rows.{row_first, row_next, every_row}

-- ---- rows of groups: what words they may have
pub data Spoken (gs row : List ℕ) : Type 0 where
  silent : motion_of row ≡ 0 → Spoken gs row
  straight : motion_of row ≡ g_one → Spoken gs row
  alone : LoneWord gs row → Spoken gs row

pub record Unmarked (row : List ℕ) : Type 0 where
  pub none : mark_of row ≡ 0

-- unmarked rows, and then one with G1
pub data Led : List (List ℕ) → Type 0 where
  here : {x : List ℕ} {xs : List (List ℕ)} → motion_of x ≡ g_one → Led (x ∷ xs)
  there : {x : List ℕ} {xs : List (List ℕ)} → Unmarked x → Led xs → Led (x ∷ xs)

pub led-more : {xs : List (List ℕ)} (ys : List (List ℕ)) → Led xs → Led (xs ++ ys)
led-more ys (here e) = here e
led-more ys (there u l) = there u (led-more ys l)

pub led-behind : {xs ys : List (List ℕ)} → Every Unmarked xs → Led ys → Led (xs ++ ys)
led-behind nil l = l
led-behind (more u us) l = there u (led-behind us l)

-- a marked row of such rows has a G1 before it, or its own
record Leader (rows : List ℕ) (i : ℕ) : Type 0 where
  pub place : ℕ
  pub upto : place ≤ i
  pub word : motion_of (row_at rows place) ≡ g_one

leader : {rows : List (List ℕ)} → Every Long rows → Led rows → (i : ℕ) → mark_of (row_at (flatten rows) i) ≡ 1 → Leader (flatten rows) i
unfolding flatten
leader nil led i q = elim led [ ]
leader (more {x} {xs} l ls) (here e) i q =
    record { place = 0; upto = omega arith; word = ap motion_of (row_first x (flatten xs) l.words) ∙ e }
leader (more {x} {xs} l ls) (there u led) zero q =
    let z : ◌≡◌ {A = ℕ} 0 1 = sym u.none ∙ sym (ap mark_of (row_first x (flatten xs) l.words)) ∙ q in
    absurd (omega (arith, z))
leader (more {x} {xs} l ls) (there u led) (suc i) q =
    let r : Leader (flatten xs) i = leader ls led i (sym (ap mark_of (row_next x (flatten xs) l.words i)) ∙ q) in
    record {
      place = suc r.place;
      upto = omega (arith, r.upto);
      word = ap motion_of (row_next x (flatten xs) l.words r.place) ∙ r.word;
    }

-- ---- where the motion in force behind n rows comes from: from before them, or from the last word
data Source (m : ℕ) (rows : List ℕ) (n : ℕ) : Type 0 where
  before : ((k : ℕ) → k < n → motion_of (row_at rows k) ≡ 0) → Source m rows n
  from : (j : ℕ) → j < n → (motion_of (row_at rows j) ≡ 0 → ⊥) → motion_behind m rows n ≡ motion_of (row_at rows j)
      → ((k : ℕ) → j < k → k < n → motion_of (row_at rows k) ≡ 0) → Source m rows n

module _ (m : ℕ) (rows : List ℕ) where
  -- one row more, which has no word
  quiet_more : (n : ℕ) → motion_of (row_at rows n) ≡ 0 → Source m rows n → Source m rows (suc n)
  quiet_more n e (before h) =
      before (λ k l. ⊎_elim (λ (w : k ≡ n). rw w e) (λ (w : k < n). h k w) (eq-or-lt_of_le (le_of_suc-le-suc l)))
  quiet_more n e (from j l d q h) =
      from j (omega arith) d (behind-next m rows n ∙ after_none (motion_behind m rows n) (row_at rows n) e ∙ q)
      (λ k a b. ⊎_elim (λ (w : k ≡ n). rw w e) (λ (w : k < n). h k a w) (eq-or-lt_of_le (le_of_suc-le-suc b)))

  source : (n : ℕ) → Source m rows n
  source zero = before (λ k l. absurd (omega arith))
  source (suc n) =
      by_bit (eqb (motion_of (row_at rows n)) 0)
      (λ t. quiet_more n (eqb-true _ 0 t) (source n))
      (λ f. let d : motion_of (row_at rows n) ≡ 0 → ⊥ = eqb-false _ 0 f in
      from n (omega arith) d (behind-next m rows n ∙ after-own (motion_behind m rows n) (row_at rows n) d) (λ k a b. absurd (omega arith)))

  -- what is in force at a row that stays curved is a curve's
  force_curves : (i : ℕ) → MarkedCurve m rows i → is_curve (motion_behind m rows (suc i)) ≡ true
  unfolding still_curved
  force_curves i c = rw (behind-next m rows i) (and_right (shows (row_at rows i)) _ c.curved)

g1_straight : is_curve g_one ≡ false
unfolding is_curve kind_of
g1_straight = refl

-- ---- 10.6 of such rows, where none is marked, and where a G1 leads
pub lone-unmarked : (gs : List ℕ) {rows : List (List ℕ)} → Every Long rows → Every Unmarked rows → OnlyBehindLone gs (flatten rows)
lone-unmarked gs l u m i c =
    let z : ◌≡◌ {A = ℕ} 0 1 = sym (every_row Unmarked (record { none = refl }) l u i).none ∙ c.marked in
    absurd (omega (arith, z))

module _ (gs : List ℕ) {rows : List (List ℕ)} (long : Every Long rows) (spoken : Every (Spoken gs) rows) (led : Led rows) where
  abbrev ws : List ℕ
  ws = flatten rows

  -- the last word before a marked row that stays curved
  at-word : (m i : ℕ) → MarkedCurve m ws i → (j : ℕ) → j < suc i → (motion_of (row_at ws j) ≡ 0 → ⊥) → motion_behind m ws (suc i) ≡ motion_of (row_at ws j)
      → ((k : ℕ) → j < k → k < suc i → motion_of (row_at ws k) ≡ 0) → Spoken gs (row_at ws j) → BehindLone gs ws i
  at-word m i c j l d e h (silent z) = absurd (d z)
  at-word m i c j l d e h (straight s) = absurd (false≢true (sym (ap is_curve (e ∙ s) ∙ g1_straight) ∙ force_curves m ws i c))
  at-word m i c j l d e h (alone w) =
      record {
        place = j;
        earlier = ⊎_elim
            (λ (s : j ≡ i). let z : ◌≡◌ {A = ℕ} 0 1 = sym w.unmarked ∙ ap (λ (k : ℕ). mark_of (row_at ws k)) s ∙ c.marked in absurd (omega (arith, z)))
            (λ (s : j < i). s)
            (eq-or-lt_of_le (le_of_suc-le-suc l));
        lone = w;
        wordless = λ k a b. h k a (omega arith);
      }

  by-source : (m i : ℕ) → MarkedCurve m ws i → Source m ws (suc i) → BehindLone gs ws i
  by-source m i c (before h) =
      let r : Leader ws i = leader long led i c.marked in
      let z : ◌≡◌ {A = ℕ} 0 g_one = sym (h r.place (omega (arith, r.upto))) ∙ r.word in
      absurd (omega (arith, z))
  by-source m i c (from j l d e h) = at-word m i c j l d e h (every_row (Spoken gs) (silent refl) long spoken j)

  pub lone-led : OnlyBehindLone gs (flatten rows)
  lone-led m i c = by-source m i c (source m ws (suc i))
