-- LAWS. A turn lies in the buffer. Assumes nothing.
use Rattle.std.specs.Prelude.{ℕ, suc, ◌-◌, ◌<◌, ◌≡◌, Bool, true, false, cond, List, [], ◌∷◌, eqb, length, drop}
use Rattle.std.proofs.Common.{ap, ◌∙◌, subst, arith, length-drop, length-take-le}
use Rattle.text_lines.specs.declared.Found.{Found}
use Rattle.text_lines.specs.declared.Found.TheVariants as Found
use Rattle.text_lines.specs.declared.Turn.{Turn}
use Rattle.text_cut.specs.Cut.{lf, cut, between}
use Rattle.text_lines.specs.Turns.{FirstLine, Told, Turned}
use Rattle.replay_turn.specs.Places.{Lies}

cut-some : (l : List ℕ) → 0 < cut l
unfolding cut
cut-some [] = omega arith
cut-some (c ∷ t) = go (eqb c lf)
  where
    go : (b : Bool) → 0 < cond b 1 (suc (cut t))
    go true = omega arith
    go false = omega arith

-- a first line has at least its LF
line-some : (u l v : List ℕ) → FirstLine u l v → 0 < length l
line-some u l v w = omega (arith, cut-some u, ap length w.line ∙ length-take-le (cut u) u w.whole)

pub turned_lies : (b : List ℕ) (at end : ℕ) (b' : List ℕ) (t : Turn) → Turned b at end b' t → Lies t (length b')
turned_lies b at end b' t w =
    record {
      window = w.window;
      inside = omega (arith, w.inside, w.same);
      line = line;
    }
  where
    line : t.found ≡ Found.Line → t.from < t.at
    line e =
        let u = between b at end in
        let l = between b' t.from t.at in
        let v = between b' t.at t.end in
        let first : FirstLine u l v = subst (λ (f : Found). Told f (length b) u l v) e w.told in
        let room = length-drop t.from b' in
        let long : length l ≡ t.at - t.from = length-take-le (t.at - t.from) (drop t.from b') (omega (arith, room, w.window, w.inside, w.same)) in
        omega (arith, line-some u l v first)
