-- LAWS. The channels are geometric axes, no code twice, at most as many as there are axes. Assumes nothing.
use Rattle.std.specs.Prelude.{ℕ, zero, suc, ◌+◌, ◌*◌, ◌-◌, ◌≤◌, ◌<◌, ◌≡◌, refl, Bool, true, false, cond, not, ◌&&◌, ◌||◌, List, [], ◌∷◌, ◌++◌, eqb}
use Rattle.std.specs.Prelude.{ltb, length, get_or, take, drop}
use Rattle.std.proofs.Common.{sym, ◌∙◌, ap, true≢false, add-one, arith, eqb-true, eq-eqb, ltb-true, eq-or-lt_of_le, le_of_suc-le-suc, ⊎_elim}
use Rattle.std.proofs.Common.{length-append, length-drop, length-take-le, get_or-take, get_or-drop}
use Rattle.std.proofs.lemmas.Bool.{false≢true, not-true}
use Rattle.std.proofs.Math.Bool.{and-false, and_assoc, or-true}
use Rattle.layout.specs.Layout.{axis_codes, row_words, r_present}
use Rattle.floats.specs.Lists.{upto, keep, member}
use Rattle.floats.specs.Truth.{and_t, and_f, and_left, and_right}
use Rattle.row_cells.specs.Codes.{geometric_of}
use Rattle.row_cells.specs.Bits.{has}
use Rattle.row_cells.specs.Row.{present_of}
use Rattle.row_cells.specs.Masks.{member_append, member-keep}
use Rattle.spline_channels.specs.Channels.{block_at, channels_from}
use Rattle.spline_channels.specs.Gathers.{Appended, Once, is_new, ChannelsPut}
use Rattle.spline_channels.specs.Keeps.{keep-keep, keep-room, member-here, member-none}
use Rattle.spline_channels.specs.Append.{appended_before, appended_then, appended_next, appended_as}

-- ---- a held row: the part of the store that it is, its length, its words
pub block-is : (store : List ℕ) (i : ℕ) → take (i * row_words + row_words - i * row_words) (drop (i * row_words) store) ≡ block_at store i
unfolding block_at
block-is store i =
    let e : i * row_words + row_words - i * row_words ≡ row_words = omega arith in
    ap (λ (k : ℕ). take k (drop (i * row_words) store)) e

pub block-length : (store : List ℕ) (i : ℕ) → i * row_words + row_words ≤ length store → length (block_at store i) ≡ row_words
unfolding block_at
block-length store i h = length-take-le row_words (drop (i * row_words) store) (rw (length-drop (i * row_words) store) (omega arith))

pub block-word : (store : List ℕ) (i k : ℕ) → k < row_words → get_or (block_at store i) k 0 ≡ get_or store (i * row_words + k) 0
unfolding block_at
block-word store i k h = get_or-take row_words (drop (i * row_words) store) k 0 h ∙ get_or-drop (i * row_words) store k 0

-- ---- what is new
pub not_new : (present : ℕ) (cs : List ℕ) (k : ℕ) → (ltb k axis_codes && has present k) ≡ false → false ≡ is_new present cs k
unfolding is_new
not_new present cs k e = sym (sym (and_assoc (ltb k axis_codes) (has present k) (not (member k cs))) ∙ and_f (not (member k cs)) e)

pub maybe_new : (present : ℕ) (cs : List ℕ) (k : ℕ) → (ltb k axis_codes && has present k) ≡ true → not (member k cs) ≡ is_new present cs k
unfolding is_new
maybe_new present cs k e = sym (sym (and_assoc (ltb k axis_codes) (has present k) (not (member k cs))) ∙ and_t (not (member k cs)) e)

-- ---- the channels of one block more
abbrev new_in : ℕ → List ℕ → ℕ → Bool
new_in present cs k = has present k && not (member k cs)

channels-more : (gs cs : List ℕ) (rs : List (List ℕ)) (r : List ℕ)
    → channels_from gs cs (rs ++ (r ∷ [])) ≡ channels_from gs cs rs ++ keep (new_in (present_of r) (channels_from gs cs rs)) gs
unfolding channels_from
channels-more gs cs [] r = refl
channels-more gs cs (x ∷ rs) r = channels-more gs (cs ++ keep (new_in (present_of x) cs) gs) rs r

channels-next : (axes : List ℕ) (f : ℕ → List ℕ) (i present : ℕ) → present_of (f i) ≡ present
    → let cs : List ℕ = channels_from (geometric_of axes) [] (upto f i) in
    channels_from (geometric_of axes) [] (upto f (i + 1)) ≡ cs ++ keep (is_new present cs) axes
unfolding geometric_of is_new upto
channels-next axes f i present e = rw (add-one, ← e)
    (channels-more (geometric_of axes) [] (upto f i) (f i)
    ∙ ap (λ (l : List ℕ). channels_from (geometric_of axes) [] (upto f i) ++ l) (keep-keep _ _ axes))

-- ---- of two tests
or_left : (a b : Bool) → (a || b) ≡ false → a ≡ false
or_left true b e = e
or_left false b e = refl

or_right : (a b : Bool) → (a || b) ≡ false → b ≡ false
or_right true b e = absurd (true≢false e)
or_right false b e = e

or_elim : {A : Type 0} (a b : Bool) → (a || b) ≡ true → (a ≡ true → A) → (b ≡ true → A) → A
or_elim true b e f g = f refl
or_elim false b e f g = g e

-- ---- no code twice, and no more of them than there are codes
unfoldable pub Distinct : List ℕ → Type 0
Distinct [] = Unit
Distinct (x ∷ xs) = (member x xs ≡ false) × Distinct xs

pub distinct-keep : (p : ℕ → Bool) (xs : List ℕ) → Distinct xs → Distinct (keep p xs)
unfolding Distinct keep
distinct-keep p [] d = tt
distinct-keep p (x ∷ xs) d = one (p x) (distinct-keep p xs d.1)
  where
    out : member x (keep p xs) ≡ false
    out = member-keep p x xs ∙ rw d.0 (and-false (p x))

    one : (b : Bool) → Distinct (keep p xs) → Distinct (cond b (x ∷ keep p xs) (keep p xs))
    one true h = (out, h)
    one false h = h

distinct_append : (xs ys : List ℕ) → Distinct xs → Distinct ys → ((k : ℕ) → member k xs ≡ true → member k ys ≡ false) → Distinct (xs ++ ys)
unfolding Distinct member
distinct_append [] ys d e h = e
distinct_append (x ∷ xs) ys d e h = (
  member_append x xs ys ∙ rw d.0 (h x (member-here x xs)),
  distinct_append xs ys d.1 e (λ k m. h k (rw m (or-true (eqb x k)))),
)

pub once-distinct : (xs : List ℕ) → Once xs → Distinct xs
unfolding Distinct
once-distinct [] o = tt
once-distinct (x ∷ xs) o = (
  member-none x xs (λ j l e. o.once 0 (suc j) (omega arith) (omega arith) (sym e)),
  once-distinct xs (record { once = λ i j l m. o.once (suc i) (suc j) (omega arith) (omega arith) }),
)

-- the list without code b
abbrev is_not : ℕ → ℕ → Bool
is_not b k = not (eqb k b)

without : (b : ℕ) (xs : List ℕ) → member b xs ≡ false → keep (is_not b) xs ≡ xs
unfolding keep member
without b [] m = refl
without b (x ∷ xs) m =
    let rest : keep (is_not b) xs ≡ xs = without b xs (or_right (eqb x b) (member b xs) m) in
    rw (or_left (eqb x b) (member b xs) m) (ap (λ (l : List ℕ). x ∷ l) rest)

short : (b : ℕ) (xs : List ℕ) → Distinct xs → length xs ≤ suc (length (keep (is_not b) xs))
unfolding Distinct keep
short b [] d = omega arith
short b (x ∷ xs) d = one (short b xs d.1) (eqb x b) refl
  where
    one : length xs ≤ suc (length (keep (is_not b) xs)) → (e : Bool) → eqb x b ≡ e
        → suc (length xs) ≤ suc (length (cond (is_not b x) (x ∷ keep (is_not b) xs) (keep (is_not b) xs)))
    one h true e = rw (e, without b xs (ap (λ (k : ℕ). member k xs) (sym (eqb-true x b e)) ∙ d.0)) (omega arith)
    one h false e = rw e (omega arith)

pigeon : (b : ℕ) (xs : List ℕ) → Distinct xs → ((k : ℕ) → member k xs ≡ true → k < b) → length xs ≤ b
pigeon zero [] d h = omega arith
pigeon zero (x ∷ xs) d h = absurd (omega (arith, h x (member-here x xs)))
pigeon (suc b) xs d h =
    let rest : List ℕ = keep (is_not b) xs in
    let r : length rest ≤ b = pigeon b rest (distinct-keep (is_not b) xs d) (λ k m. less k (sym (member-keep (is_not b) k xs) ∙ m)) in
    omega (arith, short b xs d)
  where
    less : (k : ℕ) → (is_not b k && member k xs) ≡ true → k < b
    less k m =
        let l : k < suc b = h k (and_right (is_not b k) (member k xs) m) in
        let n : eqb k b ≡ false = not-true (eqb k b) (and_left (is_not b k) (member k xs) m) in
        ⊎_elim (λ (e : k ≡ b). absurd (true≢false (sym (eq-eqb k b e) ∙ n))) (λ (g : k < b). g) (eq-or-lt_of_le (le_of_suc-le-suc l))

-- a geometric axis of a list is one of the axes
pub geometric-few : (axes : List ℕ) (k : ℕ) → member k (geometric_of axes) ≡ true → k < axis_codes
unfolding geometric_of
geometric-few axes k m = ltb-true k axis_codes (and_left (ltb k axis_codes) (member k axes) (sym (member-keep (λ (k : ℕ). ltb k axis_codes) k axes) ∙ m))

-- the channels are geometric axes, and none stands twice
pub record Good (gs cs : List ℕ) : Type 0 where
  pub distinct : Distinct cs
  pub inside : (k : ℕ) → member k cs ≡ true → member k gs ≡ true

good_more : (gs cs : List ℕ) (present : ℕ) → Distinct gs → Good gs cs → Good gs (cs ++ keep (new_in present cs) gs)
good_more gs cs present d g = record {
  distinct = distinct_append cs (keep f gs) g.distinct (distinct-keep f gs d) (λ k m. member-keep f k gs ∙ rw m (new_none (has present k) (member k gs)));
  inside = λ k m. within k (sym (member_append k cs (keep f gs)) ∙ m);
}
  where
    f : ℕ → Bool
    f k = new_in present cs k

    new_none : (a b : Bool) → ((a && not true) && b) ≡ false
    new_none true b = refl
    new_none false b = refl

    within : (k : ℕ) → (member k cs || member k (keep f gs)) ≡ true → member k gs ≡ true
    within k m =
        or_elim (member k cs) (member k (keep f gs)) m (g.inside k)
        (λ q. and_right (f k) (member k gs) (sym (member-keep f k gs) ∙ q))

pub channels-good : (gs cs : List ℕ) (rs : List (List ℕ)) → Distinct gs → Good gs cs → Good gs (channels_from gs cs rs)
unfolding channels_from
channels-good gs cs [] d g = g
channels-good gs cs (r ∷ rs) d g = channels-good gs (cs ++ keep (new_in (present_of r) cs) gs) rs d (good_more gs cs (present_of r) d g)

pub none-good : (gs : List ℕ) → Good gs []
unfolding member Distinct
none-good gs = record { distinct = tt; inside = λ k m. absurd (false≢true m) }

pub channels-few : (axes : List ℕ) (rs : List (List ℕ)) → Once axes → length (channels_from (geometric_of axes) [] rs) ≤ axis_codes
unfolding geometric_of
channels-few axes rs o =
    let gs : List ℕ = geometric_of axes in
    let d : Distinct gs = distinct-keep (λ (k : ℕ). ltb k axis_codes) axes (once-distinct axes o) in
    let g : Good gs (channels_from gs [] rs) = channels-good gs [] rs d (none-good gs) in
    pigeon axis_codes (channels_from gs [] rs) g.distinct (λ k m. geometric-few axes k (g.inside k m))

-- ---- the steps of the code that writes them
module _ (axes : List ℕ) (present n : ℕ) (xs : List ℕ) (room : n + length (keep (is_new present (take n xs)) axes) ≤ length xs) where
  pub channel_room : {i m : ℕ} {ys : List ℕ} → i < length axes → Appended (keep (is_new present (take n xs)) (take i axes)) n xs ys m
      → (n ≤ length ys) × (m + length (keep (is_new present (take n ys)) (get_or axes i 0 ∷ [])) ≤ length ys)
  channel_room {i} {m} {ys} h a =
      rw (appended_before a (omega arith)) (omega (arith, a.same), omega (arith, a.same, a.count, keep-room (is_new present (take n xs)) axes i 0 h))

  pub channel_step : {i m r : ℕ} {ys zs : List ℕ} → i < length axes → Appended (keep (is_new present (take n xs)) (take i axes)) n xs ys m
      → Appended (keep (is_new present (take n ys)) (get_or axes i 0 ∷ [])) m ys zs r
      → Appended (keep (is_new present (take n xs)) (take (i + 1) axes)) n xs zs r
  channel_step {i} {m} {r} {ys} {zs} h a b =
      appended_next (is_new present (take n xs)) axes i 0 h a (rw (appended_before a (omega arith)) at b)

-- the presence word of row i, as the code reads it
abbrev present_at : List ℕ → ℕ → ℕ
present_at store i = get_or store (i * row_words + r_present) 0

module _ (axes store xs : List ℕ) (o : Once axes) (wide : axis_codes ≤ length xs) where
  pub channels-room : (i : ℕ) {n : ℕ} {ys : List ℕ} → ChannelsPut axes store i xs ys n
      → n + length (keep (is_new (present_at store i) (take n ys)) axes) ≤ length ys
  channels-room i {n} {ys} a =
      let cs : List ℕ = channels_from (geometric_of axes) [] (upto (block_at store) i) in
      let new : List ℕ = keep (is_new (present_at store i) cs) axes in
      let e : length (channels_from (geometric_of axes) [] (upto (block_at store) (i + 1))) ≡ length cs + length new =
      ap length (channels-next axes (block_at store) i (present_at store i) (block-word store i r_present (omega arith))) ∙ length-append cs new in
      rw a.is (omega (arith, a.same, a.count, channels-few axes (upto (block_at store) (i + 1)) o))

  pub channels-step : (i : ℕ) {n r : ℕ} {ys zs : List ℕ} → ChannelsPut axes store i xs ys n
      → Appended (keep (is_new (present_at store i) (take n ys)) axes) n ys zs r → ChannelsPut axes store (i + 1) xs zs r
  channels-step i {n} {r} {ys} {zs} a b =
      appended_as (sym (channels-next axes (block_at store) i (present_at store i) (block-word store i r_present (omega arith))))
      (appended_then a (rw a.is at b))
