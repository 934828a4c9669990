-- LAWS. From what each part of a turn promises to what the turn does. Assumes nothing.
use Rattle.std.specs.Prelude.{ℕ, ◌+◌, ◌-◌, ◌≤◌, ◌<◌, ◌≡◌, refl, List, length, take, drop}
use Rattle.std.proofs.Common.{zero-le, sym, ap, ◌∙◌, arith, length-drop, length-take-le, take-take, drop-drop, take-add, drop_at}
use Rattle.std.proofs.Math.Nat.{sub-zero}
use Rattle.text_lines.specs.declared.Found.{Found}
use Rattle.text_cut.specs.Cut.{cut, between}
use Rattle.text_front.specs.Front.{AtFront, More}
use Rattle.text_lines.specs.Turns.{FirstLine, NoLine, Told, Turned}

module _ (b : List ℕ) (at end : ℕ) (window : at ≤ end) (inside : end ≤ length b) where
  pub between-length : length (between b at end) ≡ end - at
  between-length = length-take-le (end - at) (drop at b) (omega (arith, length-drop at b))

  -- the bytes up to e and those behind it are the first line and the rest
  line-found : (e : ℕ) → e ≡ at + cut (between b at end) → e ≤ end → FirstLine (between b at end) (between b at e) (between b e end)
  line-found e is below =
      let k = cut (between b at end) in
      let l = drop at b in
      let long : length l ≡ length b - at = length-drop at b in
      let n : e - at ≡ k = omega arith in
      let parts : end - at ≡ k + (end - e) = omega arith in
      record {
        whole = omega (arith, between-length);
        line = ap (λ (j : ℕ). take j l) n ∙ sym (take-take k (end - at) l (omega arith));
        rest =
            ap (λ (j : ℕ). take (end - e) (drop j b)) is
            ∙ ap (take (end - e)) (sym (drop-drop k at b))
            ∙ sym (drop_at (take k l) (take (end - e) (drop k l)) k (length-take-le k l (omega arith)))
            ∙ ap (drop k) (sym (take-add k (end - e) l))
            ∙ ap (λ (j : ℕ). drop k (take j l)) (sym parts);
      }

  pub line-turned : (e : ℕ) → e ≡ at + cut (between b at end) → e ≤ end → at ≤ e
      → Turned b at end b (record { from = at; at = e; end = end; found = Found.Line })
  line-turned e is below above = record { start = above; window = below; inside = inside; same = refl; told = line-found e is below }

  -- a turn that read, or could not: the unread bytes are the first of b', and of b'' behind the reading
  module _ (b' : List ℕ) (n : ℕ) (front : AtFront b at end b' n) (none : end < at + cut (between b at end)) where
    stays : (b'' : List ℕ) → take n b'' ≡ take n b' → NoLine (between b at end) (between b'' 0 n)
    stays b'' kept = record { none = omega (arith, between-length); stays = ap (λ (j : ℕ). take j b'') (sub-zero n) ∙ kept ∙ front.moved }

    pub full-turned : n ≡ length b' → Turned b at end b' (record { from = 0; at = 0; end = n; found = Found.Full })
    full-turned e =
        record {
          start = zero-le;
          window = zero-le;
          inside = omega (arith, front.same);
          same = front.same;
          told = (stays b' refl, between-length ∙ sym front.count ∙ e ∙ front.same);
        }

    module _ (b'' : List ℕ) (m : ℕ) (more : More b' n b'' m) where
      pub more-turned : n < m → Turned b at end b'' (record { from = 0; at = 0; end = m; found = Found.More })
      more-turned h =
          let fits : m ≤ length b'' = omega (arith, more.most, more.same) in
          let long : length (take (m - 0) b'') ≡ m = ap (λ (j : ℕ). length (take j b'')) (sub-zero m) ∙ length-take-le m b'' fits in
          let short : length (between b at end) ≡ n = between-length ∙ sym front.count in
          record {
            start = zero-le;
            window = zero-le;
            inside = omega (arith, more.most, front.same);
            same = more.same ∙ front.same;
            told =
                record {
                  longer = omega arith;
                  begins =
                      ap (λ (j : ℕ). take j (take (m - 0) b'')) short
                      ∙ take-take n (m - 0) b'' (omega (arith, sub-zero m))
                      ∙ more.kept
                      ∙ front.moved;
                };
          }

      none-turned : (f : Found) → Told f (length b) (between b at end) (between b'' 0 0) (between b'' 0 n)
          → Turned b at end b'' (record { from = 0; at = 0; end = n; found = f })
      none-turned f told =
          record {
            start = zero-le;
            window = zero-le;
            inside = omega (arith, more.least, more.most, front.same);
            same = more.same ∙ front.same;
            told = told;
          }

      pub ended-turned : Turned b at end b'' (record { from = 0; at = 0; end = n; found = Found.Ended })
      ended-turned = none-turned Found.Ended (stays b'' more.kept)

      pub failed-turned : Turned b at end b'' (record { from = 0; at = 0; end = n; found = Found.Failed })
      failed-turned = none-turned Found.Failed (stays b'' more.kept)
