-- `spline_emission::memory::emit_in`: the answers to its goals. Assumes nothing.
use native.Mathlib.Omega.{arith}
use Rattle.spline_curve.specs.Curves.{few-zeros}
use Rattle.spline_emission.proofs.Emitting.{emitted_by, plans_of}
use Rattle.spline_emission.proofs.memory.emit_in.Goals as goal

pub plan_emission-e-requires : goal.plan_emission-e-requires
plan_emission-e-requires g c =
    let pre = c.requires in
    record {
      holds = pre.holds.0;
      rooms = record {
        points = omega (arith, pre.numbers);
        weights = omega (arith, pre.points);
        knots = omega (arith, pre.points);
        controls = record { fit = omega (arith, pre.numbers); basis = omega (arith, pre.numbers, pre.points) };
        blocks = omega (arith, pre.points);
        few = few-zeros g.row.POINTS;
      };
    }

pub write_emission-requires : goal.write_emission-requires
write_emission-requires g c =
    let plan = c.plan_emission-e.ensures in
    plans_of c.args.job plan.0 c.requires.holds.1 plan.1

pub returns : goal.returns
returns g c =
    let plan = c.plan_emission-e.ensures in
    emitted_by c.args.job plan.0 c.requires.holds.1 plan.1 c.write_emission.ensures
