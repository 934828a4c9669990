-- LAWS. What is written, one part after another. Assumes nothing.
use Rattle.std.specs.Prelude.{◌≡◌, refl, List, [], ◌∷◌, ◌++◌, map, Bool, true, false, ℕ, zero, suc, ◌+◌, ◌-◌, ◌≤◌, ◌<◌, length, get_or, Float}
use Rattle.std.proofs.Common.{sym, ap, ◌∙◌, subst, arith, length-append, ext_get_or}
use Rattle.std.proofs.lemmas.List.{map-append, length-map}
use Rattle.floats.specs.Numbers.{at, bits}
use Rattle.floats.specs.Lists.{upto, flatten, spliced}
use Rattle.floats.specs.Fill.{length-upto, at-upto}
use Rattle.floats.specs.Splice.{Splicing, spliced-spliced, length-spliced, spliced-none}
use Rattle.floats.specs.Joins.{flatten_append, flatten-one}
use Rattle.curve_metric.specs.Walk.{Sample, samples, flat, middle}
use Rattle.curve_metric.proofs.WalkLaws.{samples-zero, samples-flat, samples-halves}
use Rattle.curve_walk.specs.Walks.{encode, points_of}
use Rattle.curve_walk.specs.Asks.{Written}

-- ---- the words of points

pub encode_append : (ps qs : List (List Float)) → encode (ps ++ qs) ≡ encode ps ++ encode qs
unfolding encode
encode_append ps qs = ap flatten (map-append (map bits) ps qs) ∙ flatten_append (map (map bits) ps) (map (map bits) qs)

encode_one : (p : List Float) → encode (p ∷ []) ≡ map bits p
unfolding encode
encode_one p = flatten-one (map bits p)

map_at : (p : List Float) (k : ℕ) → k < length p → get_or (map bits p) k 0 ≡ bits (at p k)
map_at [] k h = absurd (omega arith)
map_at (x ∷ xs) zero h = refl
map_at (x ∷ xs) (suc k) h = map_at xs k (omega arith)

words_are : (p : List Float) → upto (λ (k : ℕ). bits (at p k)) (length p) ≡ encode (p ∷ [])
words_are p = ext_get_or 0 (upto (λ (k : ℕ). bits (at p k)) (length p)) (map bits p) (length-upto _ (length p) ∙ sym (length-map p bits)) (λ k h.
    let g : k < length p = omega (arith, length-upto (λ (k : ℕ). bits (at p k)) (length p)) in
    at-upto (λ (k : ℕ). bits (at p k)) (length p) k 0 g ∙ sym (map_at p k g)) ∙ sym (encode_one p)

pub encode-length : (p : List Float) → length (encode (p ∷ [])) ≡ length p
encode-length p = ap length (encode_one p) ∙ length-map p bits

pub written-point : (p : List Float) {l xs : List ℕ} {i k : ℕ} → k ≡ length p → Splicing (λ (k : ℕ). bits (at p k)) i k l xs → Written l i (p ∷ []) (i + k) xs
written-point p {l} {xs} {i} {k} e s = record {
  end = ap (λ (z : ℕ). i + z) (e ∙ sym (encode-length p));
  is = s.is ∙ ap (λ (z : ℕ). spliced l i (upto (λ (k : ℕ). bits (at p k)) z)) e ∙ ap (spliced l i) (words_are p);
}

-- ---- one part after another

pub written_none : (l : List ℕ) (i : ℕ) → Written l i [] i l
unfolding encode flatten
written_none l i = record { end = omega arith; is = spliced-none l i }

pub written-two : {l : List ℕ} {i : ℕ} {ps us vs : List (List Float)} {r r' : ℕ} {xs xs' : List ℕ} → ps ≡ us ++ vs → i + length (encode ps) ≤ length l
    → Written l i us r xs → Written xs r vs r' xs' → Written l i ps r' xs'
written-two {l} {i} {ps} {us} {vs} {r} {r'} {xs} {xs'} es room a b =
    let w : encode ps ≡ encode us ++ encode vs = ap encode es ∙ encode_append us vs in
    let n : length (encode ps) ≡ length (encode us) + length (encode vs) = ap length w ∙ length-append (encode us) (encode vs) in
    record {
      end = omega (arith, a.end, b.end);
      is = b.is ∙ ap (λ (z : List ℕ). spliced z r (encode vs)) a.is ∙ ap (λ (z : ℕ). spliced (spliced l i (encode us)) z (encode vs)) a.end
          ∙ spliced-spliced l i (encode us) (encode vs) (omega arith) ∙ ap (spliced l i) (sym w);
    }

pub written-length : {l : List ℕ} {i : ℕ} {ps : List (List Float)} {r : ℕ} {xs : List ℕ} → i + length (encode ps) ≤ length l → Written l i ps r xs
    → length xs ≡ length l
written-length {l} {i} {ps} h w = ap length w.is ∙ length-spliced l i (encode ps) h

encode-two : {ps : List (List Float)} (us vs : List (List Float)) → ps ≡ us ++ vs → length (encode ps) ≡ length (encode us) + length (encode vs)
encode-two us vs es = ap length (ap encode es ∙ encode_append us vs) ∙ length-append (encode us) (encode vs)

-- room for the first part and for the second
pub room-first : (l : List ℕ) (i : ℕ) {ps : List (List Float)} (us vs : List (List Float)) → ps ≡ us ++ vs → i + length (encode ps) ≤ length l
    → i + length (encode us) ≤ length l
room-first l i {ps} us vs es h =
    let n = encode-two us vs es in
    omega arith

pub room-second : {l : List ℕ} {i : ℕ} {ps us : List (List Float)} (vs : List (List Float)) {r : ℕ} {xs : List ℕ} → ps ≡ us ++ vs
    → i + length (encode ps) ≤ length l → Written l i us r xs → r + length (encode vs) ≤ length xs
room-second {l} {i} {ps} {us} vs {r} {xs} es h w =
    let n = encode-two us vs es in
    let g : length xs ≡ length l = written-length (room-first l i us vs es h) w in
    omega (arith, w.end)

-- ---- a stretch

module _ (ev : Float → List Float) (ms : List ℕ) (tol : Float) (left : ℕ) (t0 : Float) (p0 : List Float) (t1 : Float) (p1 : List Float) where
  pub points-zero : left ≡ 0 → points_of (samples ev ms tol left t0 p0 t1 p1) ≡ p1 ∷ []
  points-zero h = ap points_of (samples-zero ev ms tol left t0 p0 t1 p1 h)

  pub points-flat : {pm : List Float} {b : Bool} → pm ≡ ev (middle t0 t1) → b ≡ flat ev ms tol t0 p0 t1 p1 pm → b ≡ true
      → points_of (samples ev ms tol left t0 p0 t1 p1) ≡ p1 ∷ []
  points-flat ep eb h = ap points_of (samples-flat ev ms tol left t0 p0 t1 p1 ep (sym eb ∙ h))

  pub points-halves : {pm : List Float} {b : Bool} → (left ≡ 0 → ⊥) → pm ≡ ev (middle t0 t1) → b ≡ flat ev ms tol t0 p0 t1 p1 pm → b ≡ false
      → points_of (samples ev ms tol left t0 p0 t1 p1)
      ≡ points_of (samples ev ms tol (left - 1) t0 p0 (middle t0 t1) pm) ++ points_of (samples ev ms tol (left - 1) (middle t0 t1) pm t1 p1)
  points-halves {pm} some ep eb h =
      ap points_of (samples-halves ev ms tol left (left - 1) t0 p0 t1 p1 (omega arith) ep (sym eb ∙ h))
      ∙ map-append (λ (s : Sample). s.point) (samples ev ms tol (left - 1) t0 p0 (middle t0 t1) pm) (samples ev ms tol (left - 1) (middle t0 t1) pm t1 p1)

pub one-room : (p : List Float) (l : List ℕ) (from : ℕ) {ps : List (List Float)} → ps ≡ p ∷ [] → from + length (encode ps) ≤ length l
    → from + length p ≤ length l
one-room p l from {ps} e h = let n : length (encode ps) ≡ length p = ap (λ (z : List (List Float)). length (encode z)) e ∙ encode-length p in omega arith

pub written_as : {l : List ℕ} {i : ℕ} {ps qs : List (List Float)} {r : ℕ} {xs : List ℕ} → ps ≡ qs → Written l i qs r xs → Written l i ps r xs
written_as {l} {i} {ps} {qs} {r} {xs} e w = subst (λ (z : List (List Float)). Written l i z r xs) (sym e) w
