-- LAWS. A list as rows of w cells, of which a loop changes one after another. Assumes nothing.
use Rattle.std.specs.Prelude.{◌≡◌, refl, List, ◌++◌, ℕ, suc, ◌+◌, ◌*◌, ◌-◌, ◌<◌, ◌≤◌, length, take, drop, Float}
use Rattle.std.proofs.Common.{sym, ap, ◌∙◌, append_assoc, ⊎_elim, add-one, suc-mul, mul-le-mul_right, le_trans, eq-or-lt_of_le, arith, length-append}
use Rattle.std.proofs.Common.{length-drop, ext_get_or, get_or-take, get_or-drop, get_or-append-add, length-take-le, take_at, drop_at}
use Rattle.std.proofs.Math.ListN.{get_or-append}
use Rattle.std.specs.Float.{nan}
use borrow.Rule.Slice.PartMut.{put_mid, post_of, Post-is}
use Rattle.floats.specs.Numbers.{at}
use Rattle.floats.specs.Lists.{filled, row}
use Rattle.floats.specs.Parts.{part, length_part}
use Rattle.bspline_tables.specs.Tables.{Rows}

pub copied : (src dst : List Float) {i : ℕ} {xs : List Float} → length src ≡ length dst → i ≡ length dst → xs ≡ filled (at src) i dst → xs ≡ src
copied src dst h ei e = Rattle.number_copy.specs.Copies.copied src dst h ei e

pub within : (c m w a len : ℕ) → c < m → m * w ≤ len → a ≡ c * w → a + w ≤ len
within c m w a len h hl e = rw (e, ← suc-mul c w) (le_trans (mul-le-mul_right w h) hl)

-- of xs, which was l: rows before c are f 0 .. f (c - 1), and the others up to m are as they were
pub record Rowing (l xs : List Float) (w m c : ℕ) (f : ℕ → List Float) : Type 0 where
  pub same : length xs ≡ length l
  pub done : (i : ℕ) → i < c → row xs w i ≡ f i
  pub todo : (i : ℕ) → c ≤ i → i < m → row xs w i ≡ row l w i

pub rowing_none : {l : List Float} {w m : ℕ} {f : ℕ → List Float} → Rowing l l w m 0 f
rowing_none = record { same = refl; done = λ i h. absurd (omega arith); todo = λ i h g. refl }

abbrev pub put : List Float → ℕ → ℕ → List Float → List Float
put xs a e ys = take a xs ++ (ys ++ drop e xs)

pub length-put : (xs : List Float) (a w : ℕ) (ys : List Float) → length ys ≡ w → a + w ≤ length xs → length (put xs a (a + w) ys) ≡ length xs
length-put xs a w ys n h =
    let e : length (take a xs) ≡ a = length-take-le a xs (omega arith) in
    simp (length-append, length-drop, e, n) (omega arith)

pub put-here : (xs : List Float) (a w : ℕ) (ys : List Float) → length ys ≡ w → a + w ≤ length xs → take w (drop a (put xs a (a + w) ys)) ≡ ys
put-here xs a w ys n h =
    ap (take w) (drop_at (take a xs) (ys ++ drop (a + w) xs) a (length-take-le a xs (omega arith))) ∙ take_at ys (drop (a + w) xs) w n

pub put-before : (xs : List Float) (a e : ℕ) (ys : List Float) (k : ℕ) → k < a → a ≤ length xs → at (put xs a e ys) k ≡ at xs k
put-before xs a e ys k h l =
    get_or-append (take a xs) (ys ++ drop e xs) nan k (rw (length-take-le a xs l) h) ∙ rw get_or-take

pub put-after : (xs : List Float) (a w : ℕ) (ys : List Float) (k : ℕ) → length ys ≡ w → a + w ≤ length xs → a + w ≤ k → at (put xs a (a + w) ys) k ≡ at xs k
put-after xs a w ys k n h g =
    let e : length (take a xs ++ ys) ≡ a + w = length-append (take a xs) ys ∙ rw (length-take-le a xs (omega arith), n) in
    let ek : k ≡ length (take a xs ++ ys) + (k - (a + w)) = omega arith in
    let back : a + w + (k - (a + w)) ≡ k = omega arith in
    ap (λ (z : List Float). at z k) (sym (append_assoc (take a xs) ys (drop (a + w) xs)))
    ∙ ap (λ (j : ℕ). at ((take a xs ++ ys) ++ drop (a + w) xs) j) ek
    ∙ get_or-append-add (take a xs ++ ys) (drop (a + w) xs) (k - (a + w)) nan
    ∙ get_or-drop (a + w) xs (k - (a + w)) nan
    ∙ ap (at xs) back

pub length-row : (xs : List Float) (w m i : ℕ) → i < m → m * w ≤ length xs → length (row xs w i) ≡ w
length-row xs w m i h l =
    let g : i * w + w ≤ length xs = within i m w (i * w) (length xs) h l refl in
    length-take-le w (drop (i * w) xs) (rw length-drop (omega arith))

at_row : (xs : List Float) (w i k : ℕ) → k < w → at (row xs w i) k ≡ at xs (i * w + k)
at_row xs w i k h = rw (get_or-take, get_or-drop)

-- two lists that agree on the cells of a row have the same row
row_ext : (xs ys : List Float) (w m i : ℕ) → i < m → m * w ≤ length xs → length ys ≡ length xs → ((k : ℕ) → k < w → at ys (i * w + k) ≡ at xs (i * w + k))
    → row ys w i ≡ row xs w i
row_ext xs ys w m i h l n e =
    let a : length (row ys w i) ≡ w = length-row ys w m i h (rw n l) in
    let b : length (row xs w i) ≡ w = length-row xs w m i h l in
    ext_get_or nan (row ys w i) (row xs w i) (a ∙ sym b) (λ k g. at_row ys w i k (omega arith) ∙ e k (omega arith) ∙ sym (at_row xs w i k (omega arith)))

pub row-order : (i c w k : ℕ) → i < c → k < w → i * w + k < c * w
row-order i c w k h g =
    let e : suc i * w ≤ c * w = mul-le-mul_right w h in
    let f : suc i * w ≡ i * w + w = suc-mul i w in
    omega arith

pub rowing_more : {l xs : List Float} {w m c a : ℕ} {f : ℕ → List Float} (ys : List Float) → Rowing l xs w m c f → c < m → m * w ≤ length l → a ≡ c * w
    → length ys ≡ w → ys ≡ f c
    → Rowing l (put xs a (a + w) ys) w m (c + 1) f
rowing_more {l} {xs} {w} {m} {c} {a} {f} ys r h fit ea n e =
    let len : m * w ≤ length xs = omega (arith, r.same) in
    let room : a + w ≤ length xs = within c m w a (length xs) h len ea in
    let same : length (put xs a (a + w) ys) ≡ length xs = length-put xs a w ys n room in
    let here : row (put xs a (a + w) ys) w c ≡ ys = ap (λ (z : ℕ). take w (drop z (put xs a (a + w) ys))) (sym ea) ∙ put-here xs a w ys n room in
    record {
      same = same ∙ r.same;
      done = λ i g. ⊎_elim
          (λ ei. ap (λ (j : ℕ). row (put xs a (a + w) ys) w j) ei ∙ here ∙ e ∙ ap f (sym ei))
          (λ lt. row_ext xs (put xs a (a + w) ys) w m i (omega arith) len same
          (λ k q. put-before xs a (a + w) ys (i * w + k) (rw ea (row-order i c w k lt q)) (omega arith)) ∙ r.done i lt)
          (eq-or-lt_of_le {n = i} {m = c} (omega arith));
      todo = λ i g q. row_ext xs (put xs a (a + w) ys) w m i q len same
          (λ k z. put-after xs a w ys (i * w + k) n room (after i k (omega arith))) ∙ r.todo i (omega arith) q;
    }
  where
    after : (i k : ℕ) → c < i → a + w ≤ i * w + k
    after i k g =
        let s : suc c * w ≤ i * w = mul-le-mul_right w g in
        let t : suc c * w ≡ c * w + w = suc-mul c w in
        omega arith

-- ---- a row lent as a part of the slice, and back

pub part_length : {l xs : List Float} {w m c a : ℕ} {f : ℕ → List Float} → Rowing l xs w m c f → c < m → m * w ≤ length l → a ≡ c * w → length (part xs a w) ≡ w
part_length {l} {xs} {w} {m} {c} {a} r h fit ea = length_part xs a w (within c m w a (length xs) h (omega (arith, r.same)) ea)

pub rowing_put : {l xs : List Float} {w m c a : ℕ} {f : ℕ → List Float} {ys : List Float} → Rowing l xs w m c f → c < m → m * w ≤ length l → a ≡ c * w
    → length ys ≡ length (part xs a w) → ys ≡ f c → Rowing l (put_mid a (a + w - a) xs ys) w m (c + 1) f
rowing_put {l} {xs} {w} {m} {c} {a} {f} {ys} r h fit ea n e =
    let p : post_of a (a + w - a) xs ≡ drop (a + w) xs = Post-is a (a + w) xs (omega arith) in
    rw p (rowing_more ys r h fit ea (n ∙ part_length r h fit ea) e)

pub rowing_all : {l xs : List Float} {w m c : ℕ} {f : ℕ → List Float} → Rowing l xs w m c f → c ≡ m → Rows xs w m f
rowing_all r e = record { is = λ i h. r.done i (omega arith) }

-- ---- the last cell of each row

-- the last cell of row ch lies within
pub last_index : (ch w len : ℕ) → 1 ≤ w → (ch + 1) * w ≤ len → ch * w + w ≤ len
last_index ch w len h l = within ch (ch + 1) w (ch * w) len (omega arith) l refl

-- ---- channels of n numbers, of which a row takes w from `from` on

pub source : (c m n from w s len : ℕ) → c < m → m * n ≤ len → from + w ≤ n → s ≡ c * n + from → s + w ≤ len
source c m n from w s len h l g e = let x : c * n + n ≤ len = within c m n (c * n) len h l refl in omega arith

pub next-source : (c n from s : ℕ) → s ≡ c * n + from → s + n ≡ (c + 1) * n + from
next-source c n from s e = let z : (c + 1) * n ≡ c * n + n = rw (add-one, suc-mul) in omega arith
