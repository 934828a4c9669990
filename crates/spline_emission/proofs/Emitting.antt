-- LAWS. What is planned and written is emitted. Assumes nothing.
use Prim.Native.Nat.{ℕ, ◌≤◌}
use mathlib.Core.Path.{subst, ◌≡◌}
use mathlib.Core.List.{List}
use lib.Ieee.{Float}
use Rattle.spline_plan.specs.declared.Emission.{Emission}
use Rattle.spline_job.specs.declared.Job.{Job}
use Rattle.spline_write.specs.Emits.{most_own, Plans, Emitted, EmittedAs}
use Rattle.spline_plan.specs.Plans.{Planned}

-- ---- what is planned and written is emitted
module _ {axes words store : List ℕ} {e : Emission} {pts ws ks cs : List Float} {counts lefts : List ℕ} (job : Job) (ej : e.job ≡ job)
    (own : job.own ≤ most_own)
    (p : Planned axes words store e pts ws ks cs counts lefts) where
  pub plans_of : Plans axes store e pts ws ks cs counts lefts
  plans_of = record { words = words; own = rw ej own; planned = p }

  pub emitted_by : {rows out : List ℕ} {r : ℕ} → EmittedAs axes store e pts ws ks cs counts lefts rows r out → Emitted job axes words store rows r out
  unfolding plans_of
  emitted_by {rows} {out} {r} a = subst (λ (j : Job). Emitted j axes words store rows r out) ej (a.from plans_of)
