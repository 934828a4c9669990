-- CONTRACTS. What planning an emission asks and leaves. Assumes nothing.
use Rattle.std.specs.Prelude.{ℕ, ◌+◌, ◌*◌, ◌^◌, ◌≤◌, ◌<◌, ◌≡◌, Bool, List, [], length, get_or, take, replicate, Float}
use Rattle.floats.specs.Lists.{upto, member, filled, flatten}
use Rattle.layout.specs.Layout.{axis_codes}
use Rattle.row_cells.specs.Codes.{geometric_of}
use Rattle.row_cells.specs.Row.{shown}
use Rattle.row_cells.specs.Bits.{mask_sum}
use Rattle.spline_channels.specs.Channels.{Spline, block_at, place_of}
use Rattle.spline_places.specs.declared.frame.Frame.{Frame}
use Rattle.spline_places.specs.declared.place.Place.{Place}
use Rattle.spline_places.specs.Places.{Few}
use Rattle.spline_places.specs.Sizes.{place_to}
use Rattle.spline_plan.specs.declared.Emission.{Emission}
use Rattle.spline_answer.specs.Runs.{runs_of}
use Rattle.spline_answer.specs.Emission.{spline_groups}
use Rattle.curve_runs.specs.Asks.{Controls}
use Rattle.spline_curve.specs.Asks.{Recalled, Drawn, spline_in, Holds, Gathered}
use Rattle.spline_job.specs.Jobs.{drawing_of}

-- an emission has at most so many rows
abbrev pub most_emitted : ℕ
most_emitted = 2 ^ 57

-- where the channels lie in a sample, and what every row has to know
abbrev pub places_of : List ℕ → List ℕ
places_of chans = filled (λ (k : ℕ). place_of k chans) axis_codes (replicate axis_codes 0)

abbrev pub frame_of : List ℕ → List ℕ → Bool → ℕ → Frame
frame_of axes chans basis points = record {
  axes = mask_sum (λ (k : ℕ). member k axes) axis_codes;
  mask = mask_sum (λ (k : ℕ). member k chans) axis_codes;
  ch = length chans;
  basis = basis;
  points = points;
}

-- the samples of each point block are counted, and with them the rows
pub record Counted (s : Spline) (f : ℕ → List ℕ) (held : ℕ) (counts : List ℕ) (total : Place) : Type 0 where
  pub known : held ≤ length counts
  pub counted : (j : ℕ) → j < length (runs_of s) → get_or counts j 0 ≡ length (get_or (runs_of s) j [])
  pub place : total ≡ place_to s.axes counts f held
  pub rows : total.rows ≡ length (flatten (spline_groups s))

-- the arrays that an emission of so many held blocks, with so many channels, works in
pub record Rooms (held ch : ℕ) (pts ws ks cs : List Float) (counts : List ℕ) : Type 0 where
  pub points : (held + 1) * ch ≤ length pts
  pub weights : held + 1 ≤ length ws
  pub knots : 2 * (held + 1) ≤ length ks
  pub controls : Controls (held + 1) ch cs
  pub blocks : held ≤ length counts
  pub few : Few counts

-- an emission is gathered, prepared and counted
pub record Planned (axes words store : List ℕ) (e : Emission) (pts ws ks cs : List Float) (counts lefts : List ℕ) : Type 0 where
  pub holds : Holds axes words store e.job.held
  pub gathered : Gathered (geometric_of axes) (shown e.job.start words) (upto (block_at store) e.job.held) e.curve e.chans e.ms pts ws
  pub drawing : e.drawing ≡ drawing_of e.job e.curve
  pub drawn : Drawn e.drawing e.form (take e.curve.metric e.ms) pts ws ks cs
  pub recalled : Recalled e.drawing e.form (take e.curve.metric e.ms) pts ks cs lefts
  pub counted : Counted (spline_in e.job axes words store) (block_at store) e.job.held counts e.place
  pub few : e.place.rows ≤ most_emitted
  pub wide : (length e.chans ≡ axis_codes) × (length e.ms ≡ axis_codes)
