-- LAWS. The rows of a spline: a G1 leads them, or none is marked. Assumes nothing.
use Prim.Native.Nat.{ℕ, zero, suc, ◌+◌, ◌<◌, ◌≤◌}
use Rattle.std.specs.Prelude.{◌≡◌, refl, Bool, true, false, List, [], ◌∷◌, ◌++◌, ◌⊎◌, eqb, Float, length, get_or, take}
use Rattle.std.proofs.Math.Path.{sym}
use Rattle.std.proofs.Common.{◌∙◌, ap, subst, inr, arith, length-append}
use Rattle.std.proofs.Math.Logic.{inl}
use Rattle.std.proofs.lemmas.Bool.{eqb-false}
use Rattle.floats.specs.Truth.{by_bit}
use Rattle.floats.specs.Lists.{upto, keep, flatten}
use Rattle.floats.specs.Joins.{flatten_snoc}
use Rattle.motion.specs.Motion.{g_one}
use Rattle.row_cells.specs.Row.{motion_of, has_point}
use Rattle.spline_channels.specs.Channels.{Spline, channels}
use Rattle.spline_channels.specs.Keeps.{keep-next, keep-no}
use Rattle.spline_places.specs.Groups.{point_group, held_group}
use Rattle.demand_calls.specs.Every.{Every, nil, more}
use Rattle.demand_calls.specs.Laws.{every_append, every_upto, every_flatten, cond_both}
use Rattle.still_laws.specs.Lone.{Unmarked, Led, here, led-more, led-behind}
use Rattle.still_calls.specs.Words.{Fit, made-leads, made-fit, led-upto, out-unmarked, Holdable, out-fit}

-- ---- the group of a block with a point
group_fit : (s : Spline) (cs : List ℕ) (n j : ℕ) (run : List (List Float)) (r : List ℕ) → Every (Fit s.axes) (point_group s cs n j run r)
unfolding point_group
group_fit s cs n j run r =
    cond_both (Every (Fit s.axes)) (eqb (length run) 0)
    (more (made-fit s.axes r true (eqb j 0) false _) nil)
    (every_upto _ _ (λ i l. made-fit s.axes r (eqb i 0) (eqb j 0) _ _))

some-upto : (f : ℕ → List ℕ) (n : ℕ) → (n ≡ 0 → ⊥) → motion_of (f 0) ≡ g_one → Led (upto f n)
some-upto f zero d e = absurd (d refl)
some-upto f (suc n) d e = led-upto f n e

-- of the first such block
first-led : (s : Spline) (cs : List ℕ) (n : ℕ) (run : List (List Float)) (r : List ℕ) → Led (point_group s cs n 0 run r)
unfolding point_group
first-led s cs n run r =
    by_bit (eqb (length run) 0)
    (λ b. rw b (here (made-leads s.axes r false _)))
    (λ b. rw b (some-upto _ (length run) (eqb-false _ 0 b) (made-leads s.axes r _ _)))

-- ---- the groups of the first n blocks
module _ (s : Spline) (runs : List (List (List Float))) (fit : (i : ℕ) → i < length s.blocks → Holdable (get_or s.blocks i [])) where
  abbrev block : ℕ → List ℕ
  block i = get_or s.blocks i []

  -- how many of the first n have a point
  abbrev pointed : ℕ → ℕ
  pointed n = length (keep (has_point s.axes) (take n s.blocks))

  abbrev groups : ℕ → List (List ℕ)
  groups n = flatten (upto (held_group s runs) n)

  held-fit : (i : ℕ) → i < length s.blocks → Every (Fit s.axes) (held_group s runs i)
  unfolding held_group
  held-fit i h =
      by_bit (has_point s.axes (block i))
      (λ b. rw b (group_fit s (channels s) (length runs) (pointed i) (get_or runs (pointed i) []) (block i)))
      (λ b. rw b (more (out-fit s.axes (block i) (fit i h) b) nil))

  pub groups-fit : Every (Fit s.axes) (groups (length s.blocks))
  groups-fit = every_flatten (every_upto (held_group s runs) (length s.blocks) held-fit)

  -- no point yet and no mark, or a G1 leads
  abbrev Leads : ℕ → Type 0
  Leads n = (Every Unmarked (groups n) × (pointed n ≡ 0)) ⊎ Led (groups n)

  groups-next : (n : ℕ) → groups n ++ held_group s runs n ≡ groups (suc n)
  unfolding upto
  groups-next n = sym (flatten_snoc (upto (held_group s runs) n) (held_group s runs n))

  first-point : (n : ℕ) → pointed n ≡ 0 → has_point s.axes (block n) ≡ true → Led (held_group s runs n)
  unfolding held_group
  first-point n z b = rw (b, z) (first-led s (channels s) (length runs) (get_or runs 0 []) (block n))

  no-point : (n : ℕ) → has_point s.axes (block n) ≡ false → Every Unmarked (held_group s runs n)
  unfolding held_group
  no-point n b = rw b (more (out-unmarked (block n)) nil)

  none_more : (n : ℕ) → n < length s.blocks → pointed n ≡ 0 → has_point s.axes (block n) ≡ false → pointed (suc n) ≡ 0
  none_more n h z b =
      let p : List ℕ → Bool = has_point s.axes in
      let e : keep p (take (n + 1) s.blocks) ≡ keep p (take n s.blocks) ++ keep p (block n ∷ []) = keep-next p s.blocks n [] h in
      let f : suc n ≡ n + 1 = omega arith in
      ap pointed f ∙ ap length e ∙ length-append (keep p (take n s.blocks)) (keep p (block n ∷ []))
      ∙ rw (keep-no p (block n) b) (omega (arith, z))

  leads-more : (n : ℕ) → n < length s.blocks → Leads n → Leads (suc n)
  leads-more n h (inl (u, z)) =
      by_bit (has_point s.axes (block n))
      (λ b. inr (subst Led (groups-next n) (led-behind u (first-point n z b))))
      (λ b. inl (subst (Every Unmarked) (groups-next n) (every_append u (no-point n b)), none_more n h z b))
  leads-more n h (inr l) = inr (subst Led (groups-next n) (led-more (held_group s runs n) l))

  leads : (n : ℕ) → n ≤ length s.blocks → Leads n
  unfolding upto flatten keep
  leads zero h = inl (nil, refl)
  leads (suc n) h = leads-more n h (leads n (omega arith))

  pub groups_lead : Every Unmarked (groups (length s.blocks)) ⊎ Led (groups (length s.blocks))
  groups_lead = either (leads (length s.blocks) (omega arith))
    where
      either : Leads (length s.blocks) → Every Unmarked (groups (length s.blocks)) ⊎ Led (groups (length s.blocks))
      either (inl (u, z)) = inl u
      either (inr l) = inr l
