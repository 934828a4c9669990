-- LAWS. 10.6 of two outputs, one behind the other. Assumes nothing.
use Rattle.std.specs.Prelude.{ℕ, ◌+◌, ◌-◌, ◌*◌, ◌<◌, ◌≤◌, ◌≡◌, List, ◌++◌, length, ltb}
use Rattle.std.proofs.Common.{sym, ◌∙◌, ap, ap₂, subst, arith, ltb-true, ltb-false}
use Rattle.floats.specs.Truth.{by_bit}
use Rattle.layout.specs.Layout.{row_words}
use Rattle.row_cells.specs.Row.{motion_of, mark_of}
use Rattle.still_curved.specs.Curved.{row_at, motion_behind, still_curved}
use Rattle.still_laws.specs.Statements.{MarkedCurve, LoneWord, BehindLone, OnlyBehindLone}
use Rattle.still_laws.specs.Rows.{row-early, row-later, motion-early, motion-later}

module _ (gs a b : List ℕ) (n : ℕ) (whole : length a ≡ n * row_words) where
  early : (m i : ℕ) → i < n → MarkedCurve m (a ++ b) i → MarkedCurve m a i
  early m i h c =
      let r : row_at (a ++ b) i ≡ row_at a i = row-early a b n whole i h in
      record {
        marked = sym (ap mark_of r) ∙ c.marked;
        curved = sym (ap₂ still_curved (motion-early a b n whole m i (omega arith)) r) ∙ c.curved;
      }

  later : (m i : ℕ) → MarkedCurve m (a ++ b) (n + i) → MarkedCurve (motion_behind m a n) b i
  later m i c =
      let r : row_at (a ++ b) (n + i) ≡ row_at b i = row-later a b n whole i in
      record {
        marked = sym (ap mark_of r) ∙ c.marked;
        curved = sym (ap₂ still_curved (motion-later a b n whole m i) r) ∙ c.curved;
      }

  lone-early : (i : ℕ) → i < n → BehindLone gs a i → BehindLone gs (a ++ b) i
  lone-early i h l =
      record {
        place = l.place;
        earlier = l.earlier;
        lone = subst (LoneWord gs) (sym (row-early a b n whole l.place (omega (arith, l.earlier)))) l.lone;
        wordless = λ k p q. ap motion_of (row-early a b n whole k (omega arith)) ∙ l.wordless k p q;
      }

  lone-later : (i : ℕ) → BehindLone gs b i → BehindLone gs (a ++ b) (n + i)
  lone-later i l =
      record {
        place = n + l.place;
        earlier = omega (arith, l.earlier);
        lone = subst (LoneWord gs) (sym (row-later a b n whole l.place)) l.lone;
        wordless = λ k p q.
            let e : k ≡ n + (k - n) = omega arith in
            ap (λ (j : ℕ). motion_of (row_at (a ++ b) j)) e ∙ ap motion_of (row-later a b n whole (k - n)) ∙ l.wordless (k - n) (omega arith) (omega arith);
      }

  pub lone-joined : OnlyBehindLone gs a → OnlyBehindLone gs b → OnlyBehindLone gs (a ++ b)
  lone-joined p q m i c =
      by_bit (ltb i n)
      (λ t. let h : i < n = ltb-true i n t in lone-early i h (p m i (early m i h c)))
      (λ f. let e : n + (i - n) ≡ i = (let h : n ≤ i = ltb-false i n f in omega arith) in
      subst (BehindLone gs (a ++ b)) e
      (lone-later (i - n) (q (motion_behind m a n) (i - n) (later m (i - n) (subst (MarkedCurve m (a ++ b)) (sym e) c)))))
