-- CONTRACTS. What gathering, preparing, counting and writing the curve of held blocks asks and leaves. Assumes nothing.
use Rattle.std.specs.Prelude.{ℕ, ◌+◌, ◌*◌, ◌≤◌, ◌≡◌, List, [], ◌∷◌, map, length, take, Float}
use Rattle.std.proofs.Math.Option.{Option}
use Rattle.floats.specs.Numbers.{f1}
use Rattle.floats.specs.Lists.{upto, keep, rows_of}
use Rattle.layout.specs.Layout.{row_words, axis_codes, most_held, most_points}
use Rattle.row_cells.specs.Codes.{geometric_of}
use Rattle.row_cells.specs.Row.{has_point}
use Rattle.curve_metric.specs.Below.{Below}
use Rattle.curve_walk.specs.declared.Form.{Form}
use Rattle.curve_drawing.specs.declared.Drawing.{Drawing}
use Rattle.curve_drawing.specs.Runs.{shape_of}
use Rattle.curve_runs.specs.Asks.{Ready, Remembers}
use Rattle.spline_channels.specs.Channels.{Spline, channels_from, block_at, spline_of}
use Rattle.spline_points.specs.Points.{start_value, points_from, weight_of}
use Rattle.spline_metric.specs.Metric.{metric_of}
use Rattle.spline_channels.specs.Gathers.{Once}
use Rattle.spline_job.specs.declared.Curve.{Curve}
use Rattle.spline_job.specs.declared.Job.{Job}

-- what a state and a store that passed give: no axis code twice, a word for each axis of the curve start, the held rows
pub record Holds (axes words store : List ℕ) (held : ℕ) : Type 0 where
  pub once : Once axes
  pub start : axis_codes ≤ length words
  pub lent : held * row_words ≤ length store
  pub many : held ≤ most_held

-- how many channels the held blocks have
abbrev pub channel_count : List ℕ → List ℕ → ℕ → ℕ
channel_count axes store held = length (channels_from (geometric_of axes) [] (upto (block_at store) held))

-- the spline that is asked for
abbrev pub spline_in : Job → List ℕ → List ℕ → List ℕ → Spline
spline_in job axes words store = spline_of job.motion job.degree job.tol axes job.start words store job.held

-- the points: the curve start, then the point of each block with one
abbrev pub drawn_from : List ℕ → (ℕ → Option ℕ) → List (List ℕ) → List (List Float)
drawn_from gs start blocks =
    let cs = channels_from gs [] blocks in
    let p = map (start_value start blocks) cs in
    p ∷ points_from cs p (keep (has_point gs) blocks)

-- the numbers of a curve, gathered: the channels, the metric's places, the points and the weights
pub record Gathered (gs : List ℕ) (start : ℕ → Option ℕ) (blocks : List (List ℕ)) (g : Curve) (chans ms : List ℕ) (pts ws : List Float) : Type 0 where
  pub ch : g.ch ≡ length (channels_from gs [] blocks)
  pub narrow : g.ch ≤ axis_codes
  pub listed : take g.ch chans ≡ channels_from gs [] blocks
  pub metric : take g.metric ms ≡ metric_of (channels_from gs [] blocks)
  pub places : g.metric ≤ length ms
  pub count : g.n ≡ length (keep (has_point gs) blocks) + 1
  pub drawn : rows_of pts g.ch g.n ≡ drawn_from gs start blocks
  pub weights : take g.n ws ≡ f1 ∷ map weight_of (keep (has_point gs) blocks)

-- what the curve's arithmetic asks
pub record Curved (d : Drawing) (ms : List ℕ) (pts ws : List Float) : Type 0 where
  pub some : 1 ≤ d.n
  pub few : d.n ≤ most_points
  pub narrow : d.ch ≤ axis_codes
  pub metric : Below ms d.ch
  pub points : d.n * d.ch ≤ length pts
  pub weights : d.n ≤ length ws

-- the tables are those of the points, where there are two
pub record Drawn (d : Drawing) (form : Form) (ms : List ℕ) (pts ws ks cs : List Float) : Type 0 where
  pub tables : 2 ≤ d.n → Ready d form ms pts ws ks cs

-- the halvings of the counting are remembered, where there are two points
pub record Recalled (d : Drawing) (form : Form) (ms : List ℕ) (pts ks cs : List Float) (lefts : List ℕ) : Type 0 where
  pub halvings : 2 ≤ d.n → Remembers (shape_of d form) ms pts ks cs lefts
