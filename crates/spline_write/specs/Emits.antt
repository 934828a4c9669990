-- CONTRACTS. What an emission leaves. Assumes nothing.
use Rattle.std.specs.Prelude.{ℕ, ◌^◌, ◌≤◌, ◌≡◌, List, length, Float}
use Rattle.floats.specs.Lists.{flatten}
use Rattle.spline_plan.specs.declared.Emission.{Emission}
use Rattle.spline_job.specs.declared.Job.{Job}
use Rattle.spline_answer.specs.Emission.{spline_groups}
use Rattle.row_room.specs.Room.{put_within}
use Rattle.spline_plan.specs.Plans.{Planned}
use Rattle.spline_curve.specs.Asks.{spline_in}

-- the block after it has at most so many rows
abbrev pub most_own : ℕ
most_own = 2 ^ 57

-- what an emission leaves: the number of its rows, and where they and the block's own have room the rows themselves
pub record Emitted (job : Job) (axes words store rows : List ℕ) (r : ℕ) (out : List ℕ) : Type 0 where
  pub count : r ≡ length (flatten (spline_groups (spline_in job axes words store)))
  pub written : out ≡ put_within job.own (flatten (spline_groups (spline_in job axes words store))) rows

-- the same, from a curve start that the writing does not read any more
pub record Plans (axes store : List ℕ) (e : Emission) (pts ws ks cs : List Float) (counts lefts : List ℕ) : Type 0 where
  pub words : List ℕ
  pub own : e.job.own ≤ most_own
  pub planned : Planned axes words store e pts ws ks cs counts lefts

-- what is written of a plan, from whichever curve start it was made
pub record EmittedAs (axes store : List ℕ) (e : Emission) (pts ws ks cs : List Float) (counts lefts rows : List ℕ) (r : ℕ) (out : List ℕ) : Type 0 where
  pub from : (p : Plans axes store e pts ws ks cs counts lefts) → Emitted e.job axes p.words store rows r out
