-- LAWS. The search for a piece. Assumes nothing.
use mathlib.Core.Path.{◌≡◌, refl, sym, ap, ◌∙◌}
use mathlib.Core.Bool.{Bool, true, false, cond, not, false≢true}
use mathlib.Core.Logic.{◌⊎◌, inl, inr, ⊎_elim}
use mathlib.Core.List.{List}
use Prim.Native.Nat.{ℕ, zero, suc, ◌≤◌, ◌-◌, ◌<◌, ◌+◌}
use native.Mathlib.Nat.{eq-or-lt_of_le}
use native.Mathlib.Numerals.{add-one}
use native.Mathlib.Omega.{arith}
use lib.Ieee.{Float, le, nan}
use lib.ListN.{length, take, drop, get_or, length-drop}
use lib.Seq.{get_or-take, get_or-drop, length-take-le}
use Rattle.std.proofs.lemmas.List.{get_or_default}
use Rattle.std.specs.List.Sorted.{IsPartitionedBy, IsPartitionPoint}
use Rattle.floats.specs.Numbers.{at}
use Rattle.fit_knots.specs.Fit.{piece_from, piece_of}
use Rattle.fit_knots.specs.Memory.{Rising}
use Rattle.fit_knots.specs.Order as Order

-- f more pieces from w on, of which the one found is v
found : (ts : List Float) (t : Float) (f w v : ℕ) → w ≤ v → v ≤ w + f → ((k : ℕ) → k < v → le t (at ts (k + 1)) ≡ false)
    → (v ≡ w + f) ⊎ (le t (at ts (v + 1)) ≡ true) → piece_from ts t f w ≡ v
unfolding piece_from
found ts t zero w v low high passed stops = omega arith
found ts t (suc f) w v low high passed stops = ⊎_elim
    (λ e. at_once e)
    (λ l. rw (passed w l) (found ts t f (w + 1) v (omega arith) (omega arith) passed (⊎_elim (λ e. inl (omega arith)) (λ h. inr h) stops)))
    (eq-or-lt_of_le low)
  where
    at_once : w ≡ v → cond (le t (at ts (w + 1))) w (piece_from ts t f (w + 1)) ≡ v
    at_once e = ⊎_elim (λ n. absurd (omega arith)) (λ h. let g : le t (at ts (w + 1)) ≡ true = rw e h in rw g e) stops

module _ (ts : List Float) (n : ℕ) (t : Float) where
  rising_le : Rising ts n → (i j : ℕ) → i < j → j < n → le (at ts i) (at ts j) ≡ true
  unfolding Rising
  rising_le rise i zero h g = absurd (omega arith)
  rising_le rise i (suc j) h g = rw (← add-one j) (⊎_elim
      (λ e. rw e (rise j (omega arith)))
      (λ l. Order.le_trans (at ts i) (at ts j) (at ts (j + 1)) (rising_le rise i j l (omega arith)) (rise j (omega arith)))
      (eq-or-lt_of_le {n = i} {m = j} (omega arith)))

  not_yet : Rising ts n → (mid : ℕ) → mid + 1 < n → le t (at ts (mid + 1)) ≡ false → (k : ℕ) → k < mid + 1 → le t (at ts (k + 1)) ≡ false
  not_yet rise mid h e k l = ⊎_elim
      (λ same. rw same e)
      (λ less. go less (le t (at ts (k + 1))) refl)
      (eq-or-lt_of_le {n = k} {m = mid} (omega arith))
    where
      go : k < mid → (b : Bool) → le t (at ts (k + 1)) ≡ b → le t (at ts (k + 1)) ≡ false
      go less false x = x
      go less true x = absurd (false≢true (sym e ∙ Order.le_trans t (at ts (k + 1)) (at ts (mid + 1)) x (rising_le rise (k + 1) (mid + 1) (omega arith) h)))

  -- v is the piece that t lies in: t passes the end of every piece before it, and not its own, where another follows
  pub piece_named : (v : ℕ) → v + 1 < n → ((k : ℕ) → k < v → le t (at ts (k + 1)) ≡ false) → (v + 2 ≡ n) ⊎ (le t (at ts (v + 1)) ≡ true) → v ≡ piece_of ts n t
  unfolding piece_of
  piece_named v h passed stops = sym (found ts t (n - 2) 0 v (omega arith) (omega arith) passed (⊎_elim (λ x. inl (omega arith)) (λ x. inr x) stops))

  pub hinted : Rising ts n → (w : ℕ) → w + 1 < n → (0 < w → le t (at ts w) ≡ false) → (w + 2 ≡ n) ⊎ (le t (at ts (w + 1)) ≡ true) → w ≡ piece_of ts n t
  hinted rise w h before stops = piece_named w h passed stops
    where
      passed : (k : ℕ) → k < w → le t (at ts (k + 1)) ≡ false
      passed k l =
          let e : w - 1 + 1 ≡ w = omega arith in
          not_yet rise (w - 1) (omega arith) (rw e (before (omega arith))) k (omega arith)

  -- ---- by halving: the ends of all pieces but the last, of which t passes the first few
  abbrev pub ends : List Float
  ends = take (n - 1 - 1) (drop 1 ts)

  abbrev pub passes : Float → Bool
  passes end = not (le t end)

  at_ends : (k : ℕ) (d : Float) → k < n - 2 → n ≤ length ts → get_or ends k d ≡ at ts (k + 1)
  at_ends k d h room =
      let e : 1 + k ≡ k + 1 = omega arith in
      get_or-take (n - 1 - 1) (drop 1 ts) k d (omega arith) ∙ get_or-drop 1 ts k d ∙ ap (λ (j : ℕ). get_or ts j d) e
      ∙ get_or_default ts (k + 1) d nan (omega arith)

  length-ends : n ≤ length ts → length ends ≡ n - 1 - 1
  length-ends room = length-take-le (n - 1 - 1) (drop 1 ts) (rw length-drop (omega arith))

  untrue : (b : Bool) → not b ≡ true → b ≡ false
  untrue false e = refl
  untrue true e = absurd (false≢true e)

  unfalse : (b : Bool) → not b ≡ false → b ≡ true
  unfalse true e = refl
  unfalse false e = absurd (false≢true (sym e))

  pub parted : Rising ts n → n ≤ length ts → IsPartitionedBy passes ends
  parted rise room i j d h g e =
      let under : j < n - 2 = omega (arith, length-ends room) in
      let e0 : passes (at ts (j + 1)) ≡ true = ap passes (sym (at_ends j d under room)) ∙ e in
      let e1 = not_yet rise j (omega arith) (untrue (le t (at ts (j + 1))) e0) i (omega arith) in
      ap passes (at_ends i d (omega arith) room) ∙ ap not e1

  pub halved : (r : ℕ) → 2 ≤ n → n ≤ length ts → r ≤ length ends → IsPartitionPoint (λ y. passes y ≡ true) (λ y. passes y ≡ false) ends r
      → (r ≡ piece_of ts n t) × (r + 1 < n)
  halved r two room h q =
      let last = eq-or-lt_of_le {n = r + 2} {m = n} (omega (arith, length-ends room)) in
      (piece_named r inside passed (⊎_elim (λ e. inl e) (λ l. inr (stops l)) last), inside)
    where
      inside : r + 1 < n
      inside = omega (arith, length-ends room)

      passed : (k : ℕ) → k < r → le t (at ts (k + 1)) ≡ false
      passed k l =
          let under : k < n - 2 = omega (arith, length-ends room) in
          untrue (le t (at ts (k + 1))) (ap passes (sym (at_ends k nan under room)) ∙ q.0 k nan (omega arith) l)

      stops : r + 2 < n → le t (at ts (r + 1)) ≡ true
      stops l =
          let under : r < n - 2 = omega arith in
          unfalse (le t (at ts (r + 1))) (ap passes (sym (at_ends r nan under room)) ∙ q.1 r nan (omega arith) (omega (arith, length-ends room)))
