-- LAWS. The emission, by what the code has at hand. Assumes nothing.
use Prim.Native.Nat.{ℕ, ◌≤◌}
use mathlib.Core.Path.{◌≡◌, ◌∙◌, ap}
use mathlib.Core.List.{List}
use native.Mathlib.Omega.{arith}
use lib.ListN.{length, get_or}
use lib.Ieee.{Float}
use Rattle.floats.specs.Lists.{flatten}
use Rattle.layout.specs.Layout.{w_start, state_words, list_codes}
use Rattle.saved_state.specs.State.{axis_count, held, motion_now, degree, tolerance, saved_check}
use Rattle.saved_state.specs.Checked.{saved-ok}
use Rattle.saved_state.specs.StateLaws.{good, good-few, axes-few}
use Rattle.spline_channels.specs.Channels.{spline_of}
use Rattle.spline_curve.specs.Asks.{Holds}
use Rattle.spline_answer.specs.Emission.{spline_groups}
use Rattle.row_room.specs.Room.{put_within}
use Rattle.spline_answer.specs.Held.{emission}
use Rattle.spline_put.specs.Emitted.{codes_of, start_of, Put}
use Rattle.spline_put.specs.EmittedLaws.{holds, emission-is, emission-few}

pub state-long : (st store : List ℕ) → saved_check st store ≡ 0 → length st ≡ state_words
state-long st store p = (good st (saved-ok st store p)).long

pub state-axes : (st store : List ℕ) → saved_check st store ≡ 0 → axis_count st ≤ list_codes
state-axes st store p = axes-few st (good st (saved-ok st store p)).axes

module _ (st store : List ℕ) (saved : saved_check st store ≡ 0) (axes : List ℕ) (tol : Float) (ea : axes ≡ codes_of st) (et : tol ≡ tolerance st) where
  pub holds_at : Holds axes (start_of st) store (held st)
  holds_at = rw ea (holds st store saved)

  rows_of : flatten (spline_groups (spline_of (motion_now st) (degree st) tol axes (get_or st w_start 0) (start_of st) store (held st))) ≡ emission st store
  rows_of = rw (ea, et) (emission-is st store (saved-ok st store saved))

  pub put-at : (own : ℕ) (rows : List ℕ) (n : ℕ) (u : List ℕ)
      → n ≡ length (flatten (spline_groups (spline_of (motion_now st) (degree st) tol axes (get_or st w_start 0) (start_of st) store (held st))))
      → u ≡ put_within own (flatten (spline_groups (spline_of (motion_now st) (degree st) tol axes (get_or st w_start 0) (start_of st) store (held st)))) rows
      → Put own (emission st store) rows n u
  put-at own rows n u e eu =
      let q : n ≡ length (emission st store) = e ∙ ap length rows_of in
      record {
        count = q;
        few = omega (arith, emission-few st store (good-few st (good st (saved-ok st store saved))));
        rows = eu ∙ ap (λ (o : List (List ℕ)). put_within own o rows) rows_of;
      }
