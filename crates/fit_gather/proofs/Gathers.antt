-- LAWS. What the parts of a fit come to: blocks, times, and the whole. Assumes nothing.
use mathlib.Core.Path.{◌≡◌, refl, sym, ◌∙◌, ap}
use mathlib.Core.Bool.{Bool}
use mathlib.Core.List.{List, ◌++◌}
use Prim.Native.Nat.{ℕ, ◌+◌, ◌*◌, ◌-◌, ◌<◌, ◌≤◌}
use native.Mathlib.Omega.{arith}
use native.Mathlib.Nat.{le_trans, mul-le-mul_right, mul-le-mul_left}
use lib.ListN.{length, take, drop, get_or-append}
use lib.Seq.{length-take-le, get_or-append-add, get_or-take, get_or-drop}
use lib.Ieee.{Float, nan}
use borrow.Rule.Slice.PartMut.{put_mid, post_of, mid_len, same_len_mid}
use Rattle.floats.specs.Numbers.{at}
use Rattle.floats.specs.Lists.{upto, filled, rows_of}
use Rattle.floats.specs.Fill.{at-filled, length-filled, filled-all}
use Rattle.curve_metric.specs.Below.{Below}
use Rattle.fit_knots.specs.Blocks.{Block, Blocks}
use Rattle.fit_knots.specs.Fit.{fit_of}
use Rattle.fit_knots.specs.Memory.{Rising, FitHeld}
use Rattle.fit_knots.specs.Prepare.{slope_of, time_at, number_at, column_of, channel_at, TimesRise, FitRoom}
use Rattle.fit_knots.specs.PrepareLaws.{fit_is}

-- a part of a list, written over
block-put : {f : ℕ → Float} {a m : ℕ} {l : List Float} (ys : List Float) → a + m ≤ length l → length ys ≡ length (take (a + m - a) (drop a l))
    → ((j : ℕ) → j < m → at ys j ≡ f j)
    → Block f a m l (put_mid a (a + m - a) l ys)
block-put {f} {a} {m} {l} ys h n e =
    let long : length (take a l) ≡ a = length-take-le a l (omega arith) in
    let many : length ys ≡ m = n ∙ mid_len a (a + m) l h ∙ omega arith in
    record {
      same = same_len_mid a (a + m - a) l ys n;
      is = λ j g.
          let p : a + j ≡ length (take a l) + j = omega arith in
          rw p (get_or-append-add (take a l) (ys ++ post_of a (a + m - a) l) j nan ∙ get_or-append ys (post_of a (a + m - a) l) nan j (omega arith) ∙ e j g);
      before = λ k g. get_or-append (take a l) (ys ++ post_of a (a + m - a) l) nan k (omega arith) ∙ rw get_or-take;
    }

-- a part of a list, copied over a part of another
pub part-put : {f : ℕ → Float} {a m : ℕ} {l ys : List Float} (from : List Float) (b : ℕ) → a + m ≤ length l → length ys ≡ length (take (a + m - a) (drop a l))
    → ys ≡ take (b + m - b) (drop b from) → ((j : ℕ) → j < m → at from (b + j) ≡ f j)
    → Block f a m l (put_mid a (a + m - a) l ys)
part-put {m = m} {ys = ys} from b h n ey e =
    block-put ys h n (λ j g. ap (λ (z : List Float). at z j) ey ∙ get_or-take (b + m - b) (drop b from) j nan (omega arith) ∙ get_or-drop b from j nan ∙ e j g)

pub channel_block : (cubic : Bool) (fts fps : List Float) (m ch c a : ℕ) (l₁ : List Float) {ys ms l : List Float}
    → m ≡ length l₁
    → ys ≡ filled (λ (w : ℕ). at fps (w * ch + c)) m l₁
    → a + m ≤ length l
    → length ms ≡ length (take (a + m - a) (drop a l))
    → ms ≡ filled (slope_of cubic (take m fts) ys m) m (take (a + m - a) (drop a l))
    → Block (channel_at cubic fts fps ch m c) a m l (put_mid a (a + m - a) l ms)
channel_block cubic fts fps m ch c a l₁ {ys} {ms} {l} many ey room n em =
    let column : ys ≡ column_of fps ch m c = filled-all (λ (w : ℕ). at fps (w * ch + c)) l₁ many ey ∙ ap (upto (λ (w : ℕ). at fps (w * ch + c))) (sym many) in
    block-put ms room n (λ j h. rw (em, ← column) (at-filled (slope_of cubic (take m fts) ys m) (take (a + m - a) (drop a l)) m j nan h))

pub below_more : (ks : List ℕ) (n len : ℕ) → Below ks n → n ≤ len → Below ks len
unfolding Below
below_more ks n len b h k l = omega (arith, b k l)

pub fewer-rows : (m n ch len : ℕ) → m ≤ n → n * ch ≤ len → m * ch ≤ len
fewer-rows m n ch len h g = le_trans (mul-le-mul_right ch h) g

pub fewer-blocks : (m n ch len : ℕ) → m ≤ n → ch * n ≤ len → ch * m ≤ len
fewer-blocks m n ch len h g = le_trans (mul-le-mul_left ch h) g

times-rise : (ts : List Float) (ks : List ℕ) (l : List Float) {fts : List Float} → fts ≡ filled (time_at ts ks) (length ks) l
    → TimesRise ts ks → Rising fts (length ks)
unfolding Rising TimesRise
times-rise ts ks l e h k g = rw (e, at-filled (time_at ts ks) l (length ks) k nan (omega arith), at-filled (time_at ts ks) l (length ks) (k + 1) nan g) (h k g)

-- the three slices hold the fit
pub gathered : (cubic : Bool) (pts ts : List Float) (ch n : ℕ) (ks : List ℕ) (l₁ l₂ l₃ : List Float) {fts fps slopes : List Float}
    → FitRoom pts ts l₁ l₂ l₃ n ch → Below ks n → 2 ≤ length ks → length ks ≤ n
    → TimesRise ts ks
    → fts ≡ filled (time_at ts ks) (length ks) l₁
    → length fps ≡ length l₂ → Blocks (number_at pts ch ks) ch (length ks) fps
    → length slopes ≡ length l₃ → Blocks (channel_at cubic fts fps ch (length ks)) (length ks) ch slopes
    → FitHeld (fit_of cubic (rows_of pts ch n) ts ks) fts fps slopes (length ks) ch
gathered cubic pts ts ch n ks l₁ l₂ l₃ {fts} {fps} {slopes} room below two few rising times e₂ points e₃ bends =
    let wide : length ks * ch ≤ length fps = fewer-rows (length ks) n ch (length fps) few (rw e₂ room.points) in
    let long : length ks ≤ length l₁ = omega (arith, room.times) in
    record {
      room = record {
        two = two;
        narrow = room.narrow;
        rising = times-rise ts ks l₁ times rising;
        times = rw (times, length-filled (time_at ts ks) l₁ (length ks) long) long;
        points = wide;
        bends = fewer-blocks (length ks) n ch (length slopes) few (rw e₃ room.bends);
      };
      is = fit_is cubic pts ts ch n ks l₁ room.some room.given below refl times wide points bends;
    }
