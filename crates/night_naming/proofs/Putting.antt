-- Laws of this crate's proofs: the pieces of a line, and the line of them. Assumes nothing.
use Prim.Native.Nat.{ℕ, ◌+◌, ◌≤◌, ◌<◌}
use mathlib.Core.Path.{◌≡◌, sym, ap, ◌∙◌, subst}
use mathlib.Core.List.{List, [], ◌∷◌, ◌++◌, append-nil, append_assoc}
use native.Mathlib.Omega.{arith}
use lib.ListN.{length, length-append}
use borrow.Author.Tests.{eq-eqb, ne_eqb}
use Rattle.csv_decimal.specs.Widths.{width-ten}
use Rattle.csv_figures.specs.Out.{Wrote}
use Rattle.csv_figures.specs.OutLaws.{wrote_then, wrote-length}
use Rattle.csv_figures.specs.Write.{whole_text}
use Rattle.csv_figures.specs.Writers.{whole_length}
use Rattle.csv_words.specs.Words.{word_at}
use Rattle.csv_words.specs.Table.{short}
use Rattle.csv_line.specs.LineText.{comma, crlf, tailed, joined}
use Rattle.night_naming.specs.Naming.{listed_room, number_or_none, listed_line}
use Rattle.night_naming.specs.Pieces.{motion_words, number_room, word_room, PutIn}

-- ---- pieces
put_in : {t o o' : List ℕ} {n r : ℕ} (w : ℕ) → length t ≤ w → Wrote o n t o' r → PutIn w t o n o' r
put_in w h p = record { wrote = p; most = omega (arith, p.next); ahead = omega (arith, p.next); same = wrote-length p }

put_then : {s t o o' o'' : List ℕ} {n r r' : ℕ} (v w : ℕ) → PutIn v s o n o' r → PutIn w t o' r o'' r' → PutIn (v + w) (s ++ t) o n o'' r'
put_then v w p q =
    record {
      wrote = wrote_then p.wrote q.wrote;
      most = omega (arith, p.most, q.most);
      ahead = omega (arith, p.ahead, q.ahead);
      same = q.same ∙ p.same;
    }

field_short : (v : ℕ) → length (whole_text v ++ (comma ∷ [])) ≤ number_room
field_short v = omega (arith, length-append (whole_text v) (comma ∷ []), whole_length v, width-ten v)

pub field_put : {o o₁ o₂ : List ℕ} {n a r : ℕ} (v : ℕ) → Wrote o n (whole_text v) o₁ a → Wrote o₁ a (comma ∷ []) o₂ r
    → PutIn number_room (whole_text v ++ (comma ∷ [])) o n o₂ r
field_put v p q = put_in number_room (field_short v) (wrote_then p q)

-- behind a number there is room for what ends its field
pub behind-number : {o o₁ : List ℕ} {n a : ℕ} (v : ℕ) → n + number_room ≤ length o → Wrote o n (whole_text v) o₁ a → a + 2 ≤ length o₁
behind-number v h p = omega (arith, p.next, whole_length v, width-ten v, wrote-length p)

word-short : (i : ℕ) → i < motion_words → length (word_at i ++ (comma ∷ [])) ≤ word_room
word-short i h = omega (arith, length-append (word_at i) (comma ∷ []), short i (omega arith))

pub word-put : {o o₁ o₂ : List ℕ} {n a r : ℕ} (i : ℕ) → i < motion_words → Wrote o n (word_at i) o₁ a → Wrote o₁ a (comma ∷ []) o₂ r
    → PutIn word_room (word_at i ++ (comma ∷ [])) o n o₂ r
word-put i h p q = put_in word_room (word-short i h) (wrote_then p q)

pub behind-word : {o o₁ : List ℕ} {n a : ℕ} (i : ℕ) → i < motion_words → n + word_room ≤ length o → Wrote o n (word_at i) o₁ a → a < length o₁
behind-word i l h p = omega (arith, p.next, short i (omega arith), wrote-length p)

pub none-put : {o o₁ : List ℕ} {n r : ℕ} (w : ℕ) → w ≡ 0 → Wrote o n crlf o₁ r → PutIn number_room (number_or_none w ++ crlf) o n o₁ r
unfolding number_or_none
none-put w e p = rw (eq-eqb w 0 e) (put_in number_room (lib.Dec.lit≤ tt) p)

pub some-put : {o o₁ o₂ : List ℕ} {n a r : ℕ} (w : ℕ) → (w ≡ 0 → ⊥) → Wrote o n (whole_text w) o₁ a → Wrote o₁ a crlf o₂ r
    → PutIn number_room (number_or_none w ++ crlf) o n o₂ r
unfolding number_or_none
some-put w e p q =
    rw (ne_eqb w 0 e) (put_in number_room (omega (arith, length-append (whole_text w) crlf, whole_length w, width-ten w)) (wrote_then p q))

-- ---- a line
field_more : (f g : List ℕ) (fs : List (List ℕ)) (t : List ℕ) → joined (f ∷ g ∷ fs) ++ t ≡ (f ++ (comma ∷ [])) ++ (joined (g ∷ fs) ++ t)
unfolding joined tailed
field_more f g fs t = append_assoc f (comma ∷ (g ++ tailed fs)) t ∙ sym (append_assoc f (comma ∷ []) ((g ++ tailed fs) ++ t))

field_last : (f t : List ℕ) → joined (f ∷ []) ++ t ≡ f ++ t
unfolding joined tailed
field_last f t = ap (λ (l : List ℕ). l ++ t) (append-nil f)

pieces : (a b c d e t : List ℕ)
    → joined (a ∷ b ∷ c ∷ d ∷ e ∷ []) ++ t ≡ (a ++ (comma ∷ [])) ++ ((b ++ (comma ∷ [])) ++ ((c ++ (comma ∷ [])) ++ ((d ++ (comma ∷ [])) ++ (e ++ t))))
pieces a b c d e t =
    field_more a b (c ∷ d ∷ e ∷ []) t
    ∙ ap (λ (l : List ℕ). (a ++ (comma ∷ [])) ++ l)
    (field_more b c (d ∷ e ∷ []) t
    ∙ ap (λ (l : List ℕ). (b ++ (comma ∷ [])) ++ l)
    (field_more c d (e ∷ []) t
    ∙ ap (λ (l : List ℕ). (c ++ (comma ∷ [])) ++ l)
    (field_more d e [] t ∙ ap (λ (l : List ℕ). (d ++ (comma ∷ [])) ++ l) (field_last e t))))

pub line-put : {o o₁ o₂ o₃ o₄ o₅ : List ℕ} {n a b c d r : ℕ} (job number line motion warning : ℕ)
    → PutIn number_room (whole_text job ++ (comma ∷ [])) o n o₁ a → PutIn number_room (whole_text number ++ (comma ∷ [])) o₁ a o₂ b
    → PutIn number_room (whole_text line ++ (comma ∷ [])) o₂ b o₃ c → PutIn word_room (word_at motion ++ (comma ∷ [])) o₃ c o₄ d
    → PutIn number_room (number_or_none warning ++ crlf) o₄ d o₅ r → PutIn listed_room (listed_line job number line motion warning) o n o₅ r
unfolding listed_line
line-put {o} {o₁} {o₂} {o₃} {o₄} {o₅} {n} {a} {b} {c} {d} {r} job number line motion warning u v w x y =
    let p = put_then _ _ u (put_then _ _ v (put_then _ _ w (put_then _ _ x y))) in
    let e = pieces (whole_text job) (whole_text number) (whole_text line) (word_at motion) (number_or_none warning) crlf in
    record {
      wrote = subst (λ (t : List ℕ). Wrote o n t o₅ r) (sym e) p.wrote;
      most = omega (arith, p.most);
      ahead = p.ahead;
      same = p.same;
    }
